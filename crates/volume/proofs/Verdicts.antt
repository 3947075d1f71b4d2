-- Groups 10 to 15, and 1 and 2 before them: the first rule that does not hold decides.
use Prim.Native.Nat.{ℕ, ◌≤◌, ◌<◌}
use mathlib.Core.Path.{◌≡◌, refl}
use mathlib.Core.Logic.{⊎_elim}
use mathlib.Core.Bool.{Bool, true, false}
use mathlib.Core.List.{List}
use native.Mathlib.Omega.{arith}
use Rattle.std.proofs.Common.{Some, None, Ok, Err}
use lib.ListN.{length}
use borrow.Author.Tests.{le-leb, lt-leb}
use Rattle.format.specs.Basics.Bytes.{Bytes}
use Rattle.format.specs.Layout.Geometry.{Geometry, sector_count}
use Rattle.format.specs.Layout.Tables.{sector_space}
use Rattle.format.specs.Layout.Volume.{volume, directory}
use Rattle.format.specs.Rules.Length.{length_allowed, work_need}
use Rattle.format.specs.Rules.Header.{header_rules}
use Rattle.format.specs.Rules.Tables.{table_rules}
use Rattle.format.specs.Rules.Cells.{cell_rules}
use Rattle.format.specs.Rules.Directory.{directory_rules}
use Rattle.format.specs.Rules.Entries.{entry_rules}
use Rattle.format.specs.Rules.Trees.{tree_rules}
use Rattle.format.specs.Rules.Verdict.{check, volume_groups, groups, verdict}
use Rattle.header.specs.Sized.{ImageSized}
use Rattle.tables.specs.Work.{Wrote}
use Rattle.tables.specs.Listed.{FatListedAt}
use Rattle.tables.specs.Stages.{TablesLeft}
use Rattle.tables.proofs.WorkLaws.{wrote_wider, listed_kept}
use Rattle.chains.specs.Answers.{length_answer}
use Rattle.kinds.specs.declared.Refusal.{Refusal}
use Rattle.kinds.specs.declared.Refusal.TheVariants.{Entries, Trees}
use Rattle.kinds.specs.Numbers.{refusal_number}
use Rattle.volume.specs.Passed.{entries_answer}
use Rattle.volume.specs.Groups.{entry_groups, mini_groups, owner_groups}

module _ (g : Geometry) (img : Bytes) where
  -- ---- groups 10 to 13

  pub header_breaks : header_rules g img ≡ false → groups g img ≡ 10
  unfolding groups check
  header_breaks h = rw h

  module _ (h : header_rules g img ≡ true) where
    pub tables_break : table_rules g img ≡ false → groups g img ≡ 11
    unfolding groups check
    tables_break t = rw (h, t)

    module _ (t : table_rules g img ≡ true) where
      pub cells_break : cell_rules (sector_space g img) ≡ false → groups g img ≡ 12
      unfolding groups volume_groups check volume
      cells_break c = rw (h, t, c)

      module _ (c : cell_rules (sector_space g img) ≡ true) where
        pub directory_breaks : directory_rules (volume g img) ≡ false → groups g img ≡ 13
        unfolding groups volume_groups check volume
        directory_breaks d = rw (h, t, c, d)

        pub tables_hold_lem : directory_rules (volume g img) ≡ true → groups g img ≡ entry_groups (volume g img)
        unfolding groups volume_groups check volume entry_groups mini_groups owner_groups
        tables_hold_lem d = rw (h, t, c, d)

  -- group 11 leaves what is not ours
  pub tables_wrote : {w w' : List ℕ} {r : Bool} → TablesLeft g img w w' r → length w' ≡ length w → Wrote w w' 0 (work_need (length img))
  unfolding work_need
  tables_wrote l e = record { long = e; outside = λ i h. ⊎_elim (λ q. absurd (omega arith)) (λ q. l.rest i (omega arith)) h }

  -- group 12 writes the cells, which stand before the list
  module _ {w w' : List ℕ} (r : Wrote w w' 0 (sector_count g img)) where
    pub cells_listed : {n list : ℕ} → FatListedAt g img w n list → FatListedAt g img w' n list
    cells_listed l = listed_kept l r (omega (arith, l.apart))

    pub cells_wrote : ImageSized g img → Wrote w w' 0 (work_need (length img))
    unfolding work_need
    cells_wrote z = wrote_wider 0 _ r (omega arith) (omega (arith, z.many))

  -- ---- groups 14 and 15

  pub entries_refused : {a : Refusal} → Err a ≡ entries_answer (entry_rules (directory g img)) (tree_rules (directory g img)) → refusal_number a ≡ entry_groups (volume g img)
  unfolding entry_groups check volume entries_answer
  entries_refused {a} e = go (entry_rules (directory g img)) (tree_rules (directory g img)) e
    where
      go : (f t : Bool) → Err a ≡ entries_answer f t → refusal_number a ≡ check f 14 (check t 15 (mini_groups (volume g img)))
      go false t k = let z : a ≡ Entries = cc in rw z
      go true false k = let z : a ≡ Trees = cc in rw z
      go true true k = absurd (let z : ◌≡◌ {A = ℕ} 0 1 = cc in omega arith)

  pub entries_hold_lem : {u : Unit} → Ok u ≡ entries_answer (entry_rules (directory g img)) (tree_rules (directory g img)) → entry_groups (volume g img) ≡ mini_groups (volume g img)
  unfolding entry_groups check volume entries_answer
  entries_hold_lem {u} e = go (entry_rules (directory g img)) (tree_rules (directory g img)) e
    where
      go : (f t : Bool) → Ok u ≡ entries_answer f t → check f 14 (check t 15 (mini_groups (volume g img))) ≡ mini_groups (volume g img)
      go true true k = refl
      go true false k = absurd (let z : ◌≡◌ {A = ℕ} 0 1 = cc in omega arith)
      go false t k = absurd (let z : ◌≡◌ {A = ℕ} 0 1 = cc in omega arith)

  -- ---- 1 and 2

  pub length_breaks : (work : ℕ) → length_allowed g (length img) ≡ false → verdict g img work ≡ 1
  unfolding verdict check
  length_breaks work h = rw h

  pub work_short : (work : ℕ) → length_allowed g (length img) ≡ true → work < work_need (length img) → verdict g img work ≡ 2
  unfolding verdict check
  work_short work h l = rw (h, lt-leb (work_need (length img)) work l)

  pub groups_decide : (work : ℕ) → length_allowed g (length img) ≡ true → work_need (length img) ≤ work → verdict g img work ≡ groups g img
  unfolding verdict check
  groups_decide work h l = rw (h, le-leb (work_need (length img)) work l)

-- ---- the directory's chain, by the answer about its length

pub has_length : (b : Bool) (n : ℕ) {k : ℕ} → Some k ≡ length_answer b n → (b ≡ true) × (k ≡ n)
unfolding length_answer
has_length true n e = (refl, cc)
has_length false n e = absurd (let z : ◌≡◌ {A = ℕ} 0 1 = cc in omega arith)

pub has_none : (b : Bool) (n : ℕ) → None ≡ length_answer b n → b ≡ false
unfolding length_answer
has_none true n e = absurd (let z : ◌≡◌ {A = ℕ} 0 1 = cc in omega arith)
has_none false n e = refl
