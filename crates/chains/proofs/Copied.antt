-- Cells that have been copied into the work buffer: no unit has a mark.
use Prim.Native.Nat.{ℕ, ◌<◌}
use mathlib.Core.Path.{◌≡◌, ap, ◌∙◌}
use mathlib.Core.Logic.{inl, inr}
use mathlib.Core.Bool.{true, false, ◌||◌, or-true, or-false}
use mathlib.Core.List.{List}
use native.Mathlib.Omega.{arith}
use lib.Dec.{eqb, ltb}
use borrow.Author.Tests.{ltb-true, le-ltb}
use Rattle.format.specs.Basics.Bytes.{Bytes}
use Rattle.format.specs.Layout.Geometry.{Geometry, sector_count}
use Rattle.format.specs.Layout.Chain.{END, FREE, FATSECT, DIFSECT}
use Rattle.format.specs.Layout.Space.{Space}
use Rattle.format.specs.Layout.Tables.{fat_cell, sector_space}
use Rattle.format.specs.Rules.Cells.{plain_cell, table_mark, fat_cell_right, cell_rules}
use Rattle.theory.specs.Marks.{MARK, is_mark, mark_of, marks_at}
use Rattle.theory.proofs.Counts.{eqb_cases}
use Rattle.theory.proofs.Marks.{closed_none}
use Rattle.theory.proofs.OwnerMarks.{owning_none}
use Rattle.theory.proofs.Tests.{below_at, both}
use Rattle.tables.specs.Work.{Holds}
use Rattle.chains.specs.Answers.{CellsCopied}
use Rattle.chains.proofs.Walks.{mark_none}

-- a right cell is no mark
no_mark : (c limit : ℕ) → limit < 0x1000_0000 → (table_mark c || (ltb c limit || eqb c END || eqb c FREE)) ≡ true → is_mark c ≡ false
unfolding table_mark is_mark
no_mark c limit f h =
    elim (eqb_cases c FREE) [
      | inl a ↦ rw a.0
      | inr a ↦
          elim (eqb_cases c END) [
            | inl b ↦ rw b.0
            | inr b ↦
                elim (eqb_cases c FATSECT) [
                  | inl d ↦ rw d.0
                  | inr d ↦
                      elim (eqb_cases c DIFSECT) [
                        | inl e ↦ rw e.0
                        | inr e ↦
                            let l = ltb-true c limit (rw (a.1, b.1, d.1, e.1, or-false, or-false) at h) in
                            rw (le-ltb MARK c (omega arith))
                      ]
                ]
          ]
    ]

module _ (sp : Space) (f : sp.limit < 0x1000_0000) where
  fat_unmarked : cell_rules sp ≡ true → (u : ℕ) → u < sp.limit → is_mark (sp.cell u) ≡ false
  unfolding cell_rules fat_cell_right plain_cell
  fat_unmarked c u l = no_mark (sp.cell u) sp.limit f (below_at sp.limit (fat_cell_right sp) (both _ _ c).0 u l)

  pub plain_unmarked : (u : ℕ) → plain_cell sp (sp.cell u) ≡ true → is_mark (sp.cell u) ≡ false
  unfolding plain_cell
  plain_unmarked u h = no_mark (sp.cell u) sp.limit f (rw (h, or-true))

pub copied : (sp : Space) (at : ℕ) {w : List ℕ} → sp.limit < 0x1000_0000 → Holds w at sp.limit sp.cell → ((u : ℕ) → u < sp.limit → is_mark (sp.cell u) ≡ false) → CellsCopied sp at w
copied sp at {w} f h n =
    let none : (u : ℕ) → u < sp.limit → marks_at at w u ≡ 0 = λ u l. ap mark_of (h.here u l) ∙ mark_none _ (n u l) in
    record {
      markable = record { few = f; room = h.room; place = record { stands = λ u l e. h.here u l }; closed = closed_none none };
      clear = owning_none none;
    }

-- the FAT's, where group 12 holds
pub fat_copied : (g : Geometry) (img : Bytes) {w : List ℕ} → sector_count g img < 0x1000_0000 → Holds w 0 (sector_count g img) (fat_cell g img) → cell_rules (sector_space g img) ≡ true → CellsCopied (sector_space g img) 0 w
unfolding sector_space
fat_copied g img f h c = copied (sector_space g img) 0 f h (fat_unmarked (sector_space g img) f c)
