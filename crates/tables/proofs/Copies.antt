-- A table that is copied into the work buffer block by block, before the list of its sectors.
use Prim.Native.Nat.{ℕ, ◌+◌, ◌-◌, ◌/◌, ◌≤◌, ◌<◌}
use mathlib.Core.Path.{◌≡◌, sym, ◌∙◌, ap}
use mathlib.Core.List.{List, ◌++◌}
use mathlib.Core.Logic.{inr, ⊎_elim}
use native.Mathlib.Decide.{dec_lt}
use native.Mathlib.Omega.{arith}
use lib.ListN.{length, get_or, take, drop}
use lib.Seq.{sets, length-sets}
use Rattle.format.specs.Basics.Bytes.{Bytes}
use Rattle.format.specs.Basics.Lists.{list_below}
use Rattle.format.specs.Layout.Geometry.{Geometry, cells_in}
use Rattle.theory.proofs.Below.{length_below, get_or_below}
use Rattle.theory.proofs.Sets.{get_or_sets_out, get_or_sets_in, lent_back}
use Rattle.cells.specs.Cells.{cell_of}
use Rattle.tables.specs.Words.{sector_for, table_cell}
use Rattle.tables.specs.Work.{Wrote, Holds}
use Rattle.tables.specs.Listed.{TableListed}
use Rattle.tables.specs.declared.Block.{Block}
use Rattle.tables.proofs.WorkLaws.{wrote_none, holds_none}
use Rattle.tables.proofs.Blocks.{BlockOf, slice, slice_cell}

-- ---- what stands before the list may change

module _ {w w' : List ℕ} {at m list : ℕ} (r : Wrote w w' at m) (h : at + m ≤ list) where
  sector_kept : (g : Geometry) (i : ℕ) → sector_for g w' list i ≡ sector_for g w list i
  sector_kept g i = r.outside (list + i / cells_in g) (inr (omega arith))

  cell_kept : (g : Geometry) (img : Bytes) (i : ℕ) → table_cell g img w' list i ≡ table_cell g img w list i
  unfolding table_cell
  cell_kept g img i = rw (sector_kept g i)

  pub table_kept : {g : Geometry} {img : Bytes} {n : ℕ} → TableListed g img w list n → TableListed g img w' list n
  table_kept {g} l =
      record {
        sized = l.sized;
        room = λ i q. omega (arith, l.room i q, r.long);
        below = λ i q. rw (sector_kept g i) (l.below i q);
      }

  pub block_kept_lem : (g : Geometry) {img : Bytes} {low end : ℕ} {b : Block} → BlockOf img (table_cell g img w' list) low end b → BlockOf img (table_cell g img w list) low end b
  block_kept_lem g {img} {low} o = record { some = o.some; to = o.to; inside = o.inside; here = λ i q. o.here i q ∙ cell_kept g img (low + i) }

-- ---- the copy

-- the first i cells stand from a place on
pub record TableCopy (cell : ℕ → ℕ) (w₀ w : List ℕ) (at limit i : ℕ) : Type 0 where
  pub wrote : Wrote w₀ w at limit
  pub holds : Holds w at i cell

pub copy_none : (cell : ℕ → ℕ) (w : List ℕ) (at limit : ℕ) → at ≤ length w → TableCopy cell w w at limit 0
copy_none cell w at limit h = record { wrote = wrote_none w at limit; holds = holds_none w at cell h }

-- a block more, which was lent to the copy of its cells
pub copy_block : {img : Bytes} {cell : ℕ → ℕ} {w₀ w : List ℕ} {at limit i : ℕ} {b : Block} (x : List ℕ) → TableCopy cell w₀ w at limit i → at + limit ≤ length w₀
    → (o : BlockOf img cell i limit b) → x ≡ list_below b.cells (cell_of (slice o))
    → TableCopy cell w₀ (take (at + i) w ++ (x ++ drop (at + i + b.cells - (at + i)) (drop (at + i) w))) at limit (i + b.cells)
copy_block {cell = cell} {w₀} {w} {at} {limit} {i} {b} x a h o e =
    let n : length x ≡ b.cells = ap length e ∙ length_below b.cells (cell_of (slice o)) in
    let l = a.wrote.long in
    let t = o.to in
    rw (lent_back w x (at + i) (at + i + b.cells) (omega arith) (omega arith)) record {
      wrote =
          record {
            long = length-sets w (at + i) x ∙ l;
            outside = λ k p.
                get_or_sets_out w (at + i) x k 0 (λ q r z. ⊎_elim (λ y. omega arith) (λ y. omega arith) p) ∙ a.wrote.outside k p;
          };
      holds =
          record {
            room = omega (arith, length-sets w (at + i) x);
            here = λ j p.
                elim (dec_lt j i) [
                  | yes q ↦ get_or_sets_out w (at + i) x (at + j) 0 (λ k r z. omega arith) ∙ a.holds.here j q
                  | no q ↦
                      let z : i + (j - i) ≡ j = omega arith in
                      let y : at + i + (j - i) ≡ at + j = omega arith in
                      let s : j - i < b.cells = omega arith in
                      ap (λ k. get_or (sets w (at + i) x) k 0) (sym y)
                      ∙ get_or_sets_in w (at + i) x (j - i) 0 (omega arith) (omega arith)
                      ∙ rw e (get_or_below b.cells (cell_of (slice o)) (j - i) 0 s)
                      ∙ slice_cell o (j - i) s
                      ∙ ap cell z
                ];
          };
    }
