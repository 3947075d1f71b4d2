-- Which cells may become free, by the marks of all chains: exactly those of the units that nobody owns.
use Prim.Native.Nat.{ℕ, ◌+◌, ◌≤◌, ◌<◌}
use mathlib.Core.Path.{◌≡◌, refl, sym, ap, ◌∙◌}
use mathlib.Core.Logic.{inl, inr}
use mathlib.Core.Bool.{Bool, true, false, not, ◌&&◌, ◌||◌, and-true}
use mathlib.Core.List.{List, ◌++◌}
use native.Mathlib.Decide.{dec_lt}
use native.Mathlib.Omega.{arith}
use lib.Dec.{eqb, ltb}
use borrow.Author.Tests.{lt-ltb, le-ltb, eq-eqb, ne_eqb}
use Rattle.format.specs.Basics.Lists.{all_below, join_below, pick_below, member}
use Rattle.format.specs.Basics.Bytes.{Bytes, u32at}
use Rattle.format.specs.Layout.Chain.{FREE, END, FATSECT, DIFSECT}
use Rattle.format.specs.Layout.Geometry.{Geometry, sector_count}
use Rattle.format.specs.Layout.Header.{fat_count}
use Rattle.format.specs.Layout.Tables.{fat_cell, fat_cells, fat_sectors, difat_sectors, sector_space}
use Rattle.format.specs.Layout.Volume.{volume}
use Rattle.format.specs.Rules.Cells.{table_mark, plain_cell}
use Rattle.format.specs.Rules.Mini.{mini_cell_right}
use Rattle.format.specs.Rules.Owners.{own_sectors, owned_sectors, owned_minis}
use Rattle.format.specs.Calls.SetLength.{release}
use Rattle.format.specs.Calls.RepairSteps.{is_unowned, unowned_freed_in}
use Rattle.theory.specs.Marks.{unmarked, marks_at}
use Rattle.theory.proofs.OwnerMarks.{member_append}
use Rattle.theory.proofs.Picks.{pick_same}
use Rattle.theory.proofs.Counts.{eqb_cases}
use Rattle.theory.proofs.Tests.{clash, below_at}
use Rattle.kinds.specs.Sizes.{geometry_of}
use Rattle.tables.specs.Listed.{FatListed}
use Rattle.tables.specs.Views.{volume_of, sectors_of}
use Rattle.tables.specs.declared.Tables.{Tables}
use Rattle.minis.specs.Listed.{MiniListed, minis_of}
use Rattle.minis.specs.declared.Minis.{Minis}
use Rattle.minis.proofs.ListLaws.{units_few}
use Rattle.system_chains.specs.System.{system_chains}
use Rattle.owners.proofs.Groups.{owned_are}
use Rattle.repair_laws.specs.Tables.{Tabled}
use Rattle.repair_laws.proofs.FreeAgain.{sectors_read}
use Rattle.repair_writes.specs.Cells.{cell_byte, table_in, may_free, MarksSay}
use Rattle.repair_writes.proofs.Tables.{fat_place, fat_picked, mini_picked}

-- no mark, told the other way round
no_mark : (m : ℕ → ℕ) (u : ℕ) → not (ltb 0 (m u)) ≡ unmarked m u
unfolding unmarked
no_mark m u =
    elim (dec_lt 0 (m u)) [
      | yes p ↦ rw (lt-ltb 0 (m u) p, ne_eqb (m u) 0 (omega arith))
      | no p ↦ rw (le-ltb 0 (m u) (omega arith), eq-eqb (m u) 0 (omega arith))
    ]

neither_is : (a b : Bool) → not (a || b) ≡ (not b && not a)
neither_is true true = refl
neither_is true false = refl
neither_is false true = refl
neither_is false false = refl

-- a cell that names a unit, ends a chain or is free marks no table sector
not_plain : (limit c : ℕ) → limit ≤ c → c < END → (ltb c limit || eqb c END || eqb c FREE) ≡ false
not_plain limit c h k = rw (le-ltb c limit h, ne_eqb c END (omega arith), ne_eqb c FREE (omega arith))

plain : (limit c : ℕ) → limit ≤ 0x400_0000 → (ltb c limit || eqb c END || eqb c FREE) ≡ true → table_mark c ≡ false
unfolding table_mark
plain limit c h q =
    elim (eqb_cases c FATSECT) [
      | inl e ↦ absurd (clash q (not_plain limit c (omega arith) (omega arith)))
      | inr e ↦
          elim (eqb_cases c DIFSECT) [
            | inl f ↦ absurd (clash q (not_plain limit c (omega arith) (omega arith)))
            | inr f ↦ rw (e.1, f.1)
          ]
    ]

-- ---- sectors. The marks stand in the work buffer from `at` on.

module _ {t : Tables} {img : Bytes} {work : List ℕ} (l : FatListed t img work) (k : Tabled (geometry_of t.geometry) img) (at : ℕ) where
  abbrev g : Geometry
  g = geometry_of t.geometry

  -- the units of every chain
  abbrev chained : List ℕ
  chained = system_chains (geometry_of t.geometry) img ++ join_below (volume (geometry_of t.geometry) img).directory.count (own_sectors (volume (geometry_of t.geometry) img))

  table_sector : (u : ℕ) → u < sector_count g img → member u (fat_sectors g img ++ difat_sectors g img) ≡ table_mark (fat_cell g img u)
  unfolding table_mark
  table_sector u h = let m = k.marks u h in rw (m.0, m.1) (member_append u (fat_sectors g img) (difat_sectors g img))

  cell_read : (u : ℕ) → u < sector_count g img → u32at img (cell_byte g work t.list u) ≡ fat_cell g img u
  unfolding volume sector_space fat_cells fat_count
  cell_read u h = ap (u32at img) (fat_place l u (omega (arith, l.covers))) ∙ sym (sectors_read g img u (omega (arith, l.covers)))

  module _ (o : MarksSay work at (sector_count (geometry_of t.geometry) img) chained) where
    unowned_sector : (u : ℕ) → u < sector_count g img → is_unowned (owned_sectors (volume g img)) u ≡ (unmarked (marks_at at work) u && not (table_mark (fat_cell g img u)))
    unfolding is_unowned
    unowned_sector u h =
        rw (owned_are g img, member_append u (fat_sectors g img ++ difat_sectors g img) chained, table_sector u h, ← o u h, neither_is, no_mark (marks_at at work) u)

    sector_test : (u : ℕ) → u < t.sectors → may_free g work t.list at img u ≡ is_unowned (owned_sectors (volume g img)) u
    unfolding may_free
    sector_test u h = let i : u < sector_count g img = omega (arith, l.count) in rw (cell_read u i) (sym (unowned_sector u i))

    pub sectors_freed : unowned_freed_in (sectors_of t img) (owned_sectors (volume_of t.geometry img)) img
        ≡ release (table_in g work t.list t.sectors t.sectors) (pick_below t.sectors (may_free g work t.list at img)) img
    unfolding unowned_freed_in sector_space
    sectors_freed =
        let owned = owned_sectors (volume_of t.geometry img) in
        let free = may_free g work t.list at img in
        ap (λ n. release (sectors_of t img) (pick_below n (is_unowned owned)) img) (sym l.count)
        ∙ ap (λ us. release (sectors_of t img) us img) (sym (pick_same (is_unowned owned) free t.sectors sector_test))
        ∙ fat_picked l free img

-- ---- mini sectors: no cell of theirs marks a table sector

module _ {m : Minis} {img : Bytes} {work : List ℕ} (l : MiniListed m img work) (at : ℕ)
    (o : MarksSay work at (minis_of m img).limit (owned_minis (volume_of m.geometry img)))
    (r : all_below (minis_of m img).limit (mini_cell_right (minis_of m img)) ≡ true) where
  abbrev gm : Geometry
  gm = geometry_of m.geometry

  mini_plain : (u : ℕ) → u < (minis_of m img).limit → table_mark ((minis_of m img).cell u) ≡ false
  unfolding mini_cell_right plain_cell
  mini_plain u h =
      plain (minis_of m img).limit ((minis_of m img).cell u) (units_few l)
      (below_at (minis_of m img).limit (mini_cell_right (minis_of m img)) r u h)

  unowned_mini : (u : ℕ) → u < (minis_of m img).limit → is_unowned (owned_minis (volume_of m.geometry img)) u ≡ unmarked (marks_at at work) u
  unfolding is_unowned
  unowned_mini u h = rw (← o u h) (no_mark (marks_at at work) u)

  -- an image in which the mini FAT's cells are those of this one
  module _ (b : Bytes) (same : (u : ℕ) → u < m.units → u32at b (cell_byte (geometry_of m.geometry) work m.list u) ≡ (minis_of m img).cell u) where
    mini_test : (u : ℕ) → u < m.units → may_free gm work m.list at b u ≡ is_unowned (owned_minis (volume_of m.geometry img)) u
    unfolding may_free
    mini_test u h =
        let i : u < (minis_of m img).limit = omega (arith, l.counts.count) in
        rw (same u h, mini_plain u i) (and-true (unmarked (marks_at at work) u) ∙ sym (unowned_mini u i))

    pub minis_freed : unowned_freed_in (minis_of m img) (owned_minis (volume_of m.geometry img)) b
        ≡ release (table_in gm work m.list m.units m.units) (pick_below m.units (may_free gm work m.list at b)) b
    unfolding unowned_freed_in
    minis_freed =
        let owned = owned_minis (volume_of m.geometry img) in
        let free = may_free gm work m.list at b in
        ap (λ n. release (minis_of m img) (pick_below n (is_unowned owned)) b) (sym l.counts.count)
        ∙ ap (λ us. release (minis_of m img) us b) (sym (pick_same (is_unowned owned) free m.units mini_test))
        ∙ mini_picked l free b
