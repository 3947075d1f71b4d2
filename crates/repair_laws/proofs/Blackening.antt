-- The second step: it writes the colour bytes of entries alone, and no table.
use Prim.Native.Nat.{ℕ, zero, suc, ◌+◌, ◌≤◌, ◌<◌}
use mathlib.Core.Path.{◌≡◌, refl, sym, ap, ap₂, ◌∙◌, subst}
use mathlib.Core.Logic.{◌≢◌}
use mathlib.Core.Bool.{Bool, true, false, cond, ◌&&◌}
use mathlib.Core.List.{List, [], ◌∷◌}
use native.Mathlib.Omega.{arith}
use native.Mathlib.Decide.{dec_lt, ℕ_discrete}
use lib.Dec.{leb}
use lib.ListN.{length}
use lib.Seq.{sets}
use Rattle.format.specs.Basics.Lists.{count}
use Rattle.format.specs.Basics.Bytes.{Bytes, put_bytes}
use Rattle.format.specs.Layout.Geometry.{Geometry, sector_count}
use Rattle.format.specs.Layout.Chain.{END, chain, follow}
use Rattle.format.specs.Layout.Header.{directory_start}
use Rattle.format.specs.Layout.Tables.{fat_cell, fat_sectors, difat_sectors, sector_space}
use Rattle.format.specs.Layout.Directory.{directory_sectors, entry_place, entry_count, entry_in}
use Rattle.format.specs.Layout.Volume.{Volume, volume, directory_sectors_of}
use Rattle.format.specs.Rules.Cells.{cell_rules}
use Rattle.format.specs.Rules.Directory.{some_chain, count_right, directory_rules}
use Rattle.format.specs.Calls.RepairSteps.{directory_holds, has_colour, blacken_entry, blacken_below, blackened}
use Rattle.theory.specs.Links.{Linked}
use Rattle.theory.proofs.Tests.{both}
use Rattle.theory.proofs.Chains.{chain_linked, follow_units, linked_below, linked_once}
use Rattle.frame.specs.Kept.{Sized, Kept, Off, Table}
use Rattle.frame.proofs.Kept.{place_in_lem, kept_refl, kept_trans}
use Rattle.frame.proofs.Parts.{entry_is, entry_count_is}
use Rattle.frame.proofs.EntryPuts.{put_kept_lem, put_other, put_same}
use Rattle.frame.proofs.Redrawing.{entry_place_is}
use Rattle.repair_laws.specs.Tables.{Tabled, SameTables}
use Rattle.repair_laws.specs.Black.{black_entry}
use Rattle.repair_laws.proofs.Tabled.{tables_off, linked_off}

module _ (g : Geometry) (z : Sized g) (B : Bytes) (t : Tabled g B) (h : directory_holds (volume g B) ≡ true) where
  abbrev dirs : List ℕ
  dirs = directory_sectors_of g B

  abbrev N : ℕ
  N = sector_count g B

  limit : N ≤ END
  limit = omega (arith, t.few)

  pub directory_linked : Linked (fat_cell g B) N dirs
  unfolding directory_holds directory_rules some_chain volume directory_sectors_of directory_sectors sector_space
  directory_linked =
      let f = fat_cell g B in
      let s = directory_start B in
      let us = follow f N N s in
      let c = (both (cell_rules (volume g B).sectors) (some_chain (volume g B).sectors us s && count_right (volume g B)) h).1 in
      let d = (both (some_chain (volume g B).sectors us s) (count_right (volume g B)) c).0 in
      let k = (both (leb 1 (length us)) (chain f N (length us) s) d).1 in
      subst (λ l. Linked f N l) (follow_units f N N s) (chain_linked f N (length us) s k).0

  pub directory_table_lem : Table g (length B) dirs
  directory_table_lem =
      record {
        once = λ s. linked_once (fat_cell g B) N limit dirs directory_linked s;
        room = λ s q. rw t.long (place_in_lem g N s g.sector_bytes (linked_below (fat_cell g B) N dirs directory_linked s q) (omega arith));
      }

  -- no table's sector is one of the directory's
  pub directory_off : (s : ℕ) → 0 < count s (fat_sectors g B) + count s (difat_sectors g B) → count s dirs ≡ 0
  directory_off s q = go (dec_lt 0 (count s dirs))
    where
      go : Dec (0 < count s dirs) → count s dirs ≡ 0
      go (yes k) = absurd (omega (arith, linked_off g B t dirs directory_linked s k))
      go (no k) = omega arith

  -- ---- the entries

  abbrev v : Volume
  v = volume g B

  -- the image when the entries below n are done
  abbrev done : ℕ → Bytes
  done n = blacken_below v n B

  done_step : (n : ℕ) → done (suc n) ≡ cond (has_colour (entry_in g B dirs n)) (put_bytes (done n) (entry_place g dirs n + 67) (1 ∷ [])) (done n)
  unfolding blacken_below blacken_entry
  done_step n = ap₂ (λ e p. cond (has_colour e) (put_bytes (done n) (p + 67) (1 ∷ [])) (done n)) (entry_is g B n) (entry_place_is g B n)

  module _ (n : ℕ) (l : n < entry_count g dirs) where
    one_kept : (t : Bool) → Kept g (Off dirs) (done n) (cond t (put_bytes (done n) (entry_place g dirs n + 67) (1 ∷ [])) (done n))
    one_kept true = put_kept_lem g z (length B) dirs directory_table_lem (done n) n 67 (1 ∷ []) l (omega arith)
    one_kept false = kept_refl g (Off dirs) (done n)

    one_other : (t : Bool) (i : ℕ) → i ≢ n → entry_in g (cond t (put_bytes (done n) (entry_place g dirs n + 67) (1 ∷ [])) (done n)) dirs i ≡ entry_in g (done n) dirs i
    one_other true i q = put_other g z (length B) dirs directory_table_lem (done n) n 67 (1 ∷ []) l (omega arith) i q
    one_other false i q = refl

    one_same : (t : Bool) → entry_in g (cond t (put_bytes (done n) (entry_place g dirs n + 67) (1 ∷ [])) (done n)) dirs n
        ≡ cond t (sets (entry_in g (done n) dirs n) 67 (1 ∷ [])) (entry_in g (done n) dirs n)
    one_same true = put_same g z (length B) dirs directory_table_lem (done n) n 67 (1 ∷ []) l (omega arith)
    one_same false = refl

  below_kept : (n : ℕ) → n ≤ entry_count g dirs → Kept g (Off dirs) B (done n)
  unfolding blacken_below
  below_kept zero k = kept_refl g (Off dirs) B
  below_kept (suc n) k =
      kept_trans g (Off dirs) B (done n) (done (suc n)) (below_kept n (omega arith))
      (subst (λ (x : Bytes). Kept g (Off dirs) (done n) x) (sym (done_step n)) (one_kept n (omega arith) (has_colour (entry_in g B dirs n))))

  -- from n on they are as they were
  below_out : (n i : ℕ) → n ≤ entry_count g dirs → n ≤ i → entry_in g (done n) dirs i ≡ entry_in g B dirs i
  unfolding blacken_below
  below_out zero i k m = refl
  below_out (suc n) i k m =
      ap (λ (x : Bytes). entry_in g x dirs i) (done_step n) ∙ one_other n (omega arith) (has_colour (entry_in g B dirs n)) i (omega arith) ∙ below_out n i (omega arith) (omega arith)

  below_in : (n i : ℕ) → n ≤ entry_count g dirs → i < n → entry_in g (done n) dirs i ≡ black_entry (entry_in g B dirs i)
  unfolding black_entry
  below_in zero i k m = absurd (omega arith)
  below_in (suc n) i k m =
      ap (λ (x : Bytes). entry_in g x dirs i) (done_step n)
      ∙ elim (ℕ_discrete i n) [
        | yes e ↦ subst (λ (j : ℕ). entry_in g (cond (has_colour (entry_in g B dirs n)) (put_bytes (done n) (entry_place g dirs n + 67) (1 ∷ [])) (done n)) dirs j
            ≡ cond (has_colour (entry_in g B dirs j)) (sets (entry_in g B dirs j) 67 (1 ∷ [])) (entry_in g B dirs j)) (sym e)
            (one_same n (omega arith) (has_colour (entry_in g B dirs n))
            ∙ ap (λ (x : Bytes). cond (has_colour (entry_in g B dirs n)) (sets x 67 (1 ∷ [])) x) (below_out n n (omega arith) (omega arith)))
        | no e ↦ one_other n (omega arith) (has_colour (entry_in g B dirs n)) i e ∙ below_in n i (omega arith) (omega arith)
      ]

  -- ---- the step

  abbrev C : Bytes
  C = blackened (volume g B) B

  all_done : C ≡ done (entry_count g dirs)
  unfolding blackened
  all_done = ap done (entry_count_is g B)

  pub second_kept : Kept g (Off dirs) B C
  second_kept = subst (λ (x : Bytes). Kept g (Off dirs) B x) (sym all_done) (below_kept (entry_count g dirs) (omega arith))

  pub second_tables : SameTables g B C × ((s : ℕ) → fat_cell g C s ≡ fat_cell g B s)
  second_tables = tables_off g z dirs B C t second_kept directory_off

  pub second_in : (i : ℕ) → i < entry_count g dirs → entry_in g C dirs i ≡ black_entry (entry_in g B dirs i)
  second_in i l = ap (λ (x : Bytes). entry_in g x dirs i) all_done ∙ below_in (entry_count g dirs) i (omega arith) l

  pub second_out : (i : ℕ) → entry_count g dirs ≤ i → entry_in g C dirs i ≡ entry_in g B dirs i
  second_out i l = ap (λ (x : Bytes). entry_in g x dirs i) all_done ∙ below_out (entry_count g dirs) i (omega arith) l
