-- No step writes the header, wherever the steps end: so the outcome has the image's version.
use mathlib.Core.Path.{◌≡◌, refl, sym, subst}
use mathlib.Core.Bool.{Bool, true, false, cond, ◌&&◌}
use mathlib.Core.List.{◌++◌}
use native.Mathlib.Omega.{arith}
use lib.ListN.{length}
use Rattle.format.specs.Basics.Bytes.{Bytes, u16at}
use Rattle.format.specs.Layout.Geometry.{Geometry}
use Rattle.format.specs.Layout.Header.{major_version}
use Rattle.format.specs.Layout.Tables.{fat_sectors}
use Rattle.format.specs.Layout.Volume.{Volume, volume, directory_sectors_of, mini_fat_sectors}
use Rattle.format.specs.Rules.Length.{length_allowed}
use Rattle.format.specs.Rules.Version.{version_of}
use Rattle.format.specs.Rules.Cells.{rest_free}
use Rattle.format.specs.Rules.Entries.{entry_rules}
use Rattle.format.specs.Rules.Trees.{tree_rules}
use Rattle.format.specs.Rules.Mini.{mini_tables, mini_rules}
use Rattle.format.specs.Rules.Streams.{stream_rules}
use Rattle.format.specs.Calls.RepairSteps.{tables_hold, directory_holds, entries_hold, streams_hold, rest_freed, blackened, unowned_freed, fourth_step, third_step, second_step, repaired}
use Rattle.theory.proofs.Tests.{both}
use Rattle.frame.specs.Kept.{Sized, Where, Kept, Off}
use Rattle.frame.proofs.Kept.{kept_refl, kept_trans, kept_sub, number_head}
use Rattle.repair_laws.specs.Tables.{Tabled}
use Rattle.repair_laws.proofs.Tabled.{tabled, tabled_same, first_kept, first_tables}
use Rattle.repair_laws.proofs.Blackening.{second_kept, second_tables}
use Rattle.repair_laws.proofs.Freeing.{mini_parts, third_kept, third_tables, fourth_kept, outcome_is}

-- ---- what the last two tests say of the mini FAT

pub entries_minis : (v : Volume) → entries_hold v ≡ true → mini_tables v ≡ true
unfolding entries_hold
entries_minis v h = (both (entry_rules v.directory && tree_rules v.directory) (mini_tables v) h).1

pub streams_minis : (g : Geometry) (img : Bytes) → streams_hold g img ≡ true → mini_tables (volume g img) ≡ true
unfolding streams_hold mini_rules
streams_minis g img h =
    let w = volume g img in
    let a = tables_hold g img && directory_holds w && entry_rules w.directory && tree_rules w.directory in
    (both (mini_tables w) (rest_free w.minis) (both a (mini_rules w) (both (a && mini_rules w) (stream_rules w) h).0).1).0

-- ---- the header's sector

-- no byte of a sector
abbrev None : Where
None s k = ⊥

module _ (g : Geometry) (z : Sized g) where
  head_of : (P : Where) (a b : Bytes) → Kept g P a b → Kept g None a b
  head_of P a b x = kept_sub g P None a b (λ s k l q. absurd q) x

  fourth_head : (D : Bytes) → Tabled g D → Kept g None D (fourth_step g D)
  unfolding fourth_step
  fourth_head D t = go (streams_hold g D) refl
    where
      go : (h : Bool) → streams_hold g D ≡ h → Kept g None D (cond h (unowned_freed (volume g D) D) D)
      go true e =
          let m = mini_parts g z D t (streams_minis g D e) in
          subst (λ x. Kept g None D x) (sym (outcome_is g z D t m.0 m.1))
          (head_of (Off (fat_sectors g D ++ mini_fat_sectors g D)) D _ (fourth_kept g z D t m.0 m.1))
      go false e = kept_refl g None D

  third_head : (C : Bytes) → Tabled g C → Kept g None C (third_step g C)
  unfolding third_step
  third_head C t = go (entries_hold (volume g C)) refl
    where
      go : (h : Bool) → entries_hold (volume g C) ≡ h → Kept g None C (cond h (fourth_step g (rest_freed (volume g C).minis C)) C)
      go true e =
          let m = entries_minis (volume g C) e in
          let D = rest_freed (volume g C).minis C in
          kept_trans g None C D (fourth_step g D) (head_of (Off (mini_fat_sectors g C)) C D (third_kept g z C t m)) (fourth_head D (tabled_same g C D t (third_tables g z C t m).0))
      go false e = kept_refl g None C

  second_head : (B : Bytes) → Tabled g B → Kept g None B (second_step g B)
  unfolding second_step
  second_head B t = go (directory_holds (volume g B)) refl
    where
      go : (h : Bool) → directory_holds (volume g B) ≡ h → Kept g None B (cond h (third_step g (blackened (volume g B) B)) B)
      go true e =
          let C = blackened (volume g B) B in
          kept_trans g None B C (third_step g C) (head_of (Off (directory_sectors_of g B)) B C (second_kept g z B t e)) (third_head C (tabled_same g B C t (second_tables g z B t e).0))
      go false e = kept_refl g None B

  repaired_head : (A : Bytes) → length_allowed g (length A) ≡ true → Kept g None A (repaired g A)
  unfolding repaired
  repaired_head A ok = go (tables_hold g A) refl
    where
      go : (h : Bool) → tables_hold g A ≡ h → Kept g None A (cond h (second_step g (rest_freed (volume g A).sectors A)) A)
      go true e =
          let t = tabled g z A ok e in
          let B = rest_freed (volume g A).sectors A in
          kept_trans g None A B (second_step g B) (head_of (Off (fat_sectors g A)) A B (first_kept g z A t)) (second_head B (tabled_same g A B t (first_tables g z A t)))
      go false e = kept_refl g None A

  pub repaired_version : (A : Bytes) → length_allowed g (length A) ≡ true → version_of (repaired g A) ≡ version_of A
  unfolding version_of major_version u16at
  repaired_version A ok =
      let x = repaired_head A ok in
      rw (x.size, number_head g None A (repaired g A) x 26 2 (let w = z.wide in omega arith))
