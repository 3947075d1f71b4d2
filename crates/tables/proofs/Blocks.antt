-- The cells of a table by blocks: those of one sector are a part of the image.
use Prim.Native.Nat.{ℕ, ◌+◌, ◌-◌, ◌*◌, ◌/◌, ◌%◌, ◌≤◌, ◌<◌}
use mathlib.Core.Path.{◌≡◌, sym, ◌∙◌, ap}
use mathlib.Core.Bool.{Bool, ◌&&◌}
use mathlib.Core.List.{List}
use native.Mathlib.Nat.{add_assoc}
use native.Mathlib.Omega.{arith}
use lib.ListN.{length, take, drop}
use Rattle.format.specs.Basics.Bytes.{Bytes, AreBytes, part, number, u32at}
use Rattle.format.specs.Basics.Lists.{all_below}
use Rattle.format.specs.Layout.Geometry.{Geometry, cells_in}
use Rattle.format.specs.Layout.Chain.{is_free}
use Rattle.format.specs.Layout.Tables.{fat_cell}
use Rattle.theory.proofs.Bytes.{u32_lt}
use Rattle.theory.proofs.ByteTests.{part_part, length_part}
use Rattle.theory.proofs.Scale.{near_div, near_mod}
use Rattle.header.specs.Sized.{F}
use Rattle.cells.specs.Cells.{cell_of, cell_right}
use Rattle.cells.proofs.Turns.{Passed, passed_block}
use Rattle.tables.specs.Words.{word_in, sector_for, table_cell, free_from, block_at}
use Rattle.tables.specs.Work.{Holds}
use Rattle.tables.specs.Listed.{FatListedAt, TableListed}
use Rattle.tables.specs.declared.Block.{Block}
use Rattle.tables.proofs.WorkLaws.{holds_same}
use Rattle.tables.proofs.Places.{sector_inside, cells_bytes, cell_is, cell_sector, cell_index}

-- the cells from `low` on, as many as the block has, are the part of the image at its place
pub record BlockOf (img : Bytes) (cell : ℕ → ℕ) (low end : ℕ) (b : Block) : Type 0 where
  pub some : 0 < b.cells
  pub to : low + b.cells ≤ end
  pub inside : b.place + 4 * b.cells ≤ length img
  pub here : (i : ℕ) → i < b.cells → u32at img (b.place + 4 * i) ≡ cell (low + i)

module _ {g : Geometry} {img : Bytes} {w : List ℕ} {list end : ℕ} (l : TableListed g img w list end) (low : ℕ) (h : low < end) where
  pub block_of : {b : Block} → b ≡ block_at g w list low end → BlockOf img (table_cell g img w list) low end b
  unfolding block_at table_cell word_in
  block_of e =
      let m = cell_index l.sized low in
      let s = sector_inside l.sized (sector_for g w list low) (l.below low h) in
      let c = cells_bytes l.sized in
      rw e record {
        some = omega arith;
        to = omega arith;
        inside = omega arith;
        here = λ i q.
            let k : low % cells_in g + i < cells_in g = omega arith in
            rw (near_div (cells_in g) low i k, near_mod (cells_in g) low i k) (ap (u32at img) (omega arith));
      }

-- a cell is a number of 32 bits
pub cell_small : (g : Geometry) (img : Bytes) (w : List ℕ) (list i : ℕ) → AreBytes img → table_cell g img w list i < 0x1_0000_0000
unfolding table_cell word_in
cell_small g img w list i h = u32_lt img _ h

-- ---- that part, as a slice

-- n numbers from p on, as code cuts them out
pub cut_out : (b : List ℕ) (p n : ℕ) → take (p + n - p) (drop p b) ≡ part b p n
unfolding part
cut_out b p n = let e : p + n - p ≡ n = omega arith in rw e

pub cut_length : (b : List ℕ) (p n : ℕ) → p + n ≤ length b → length (take (p + n - p) (drop p b)) ≡ n
cut_length b p n h = rw (cut_out b p n) (length_part b p n h)

module _ {img : Bytes} {cell : ℕ → ℕ} {low end : ℕ} {b : Block} (o : BlockOf img cell low end b) where
  abbrev pub slice : Bytes
  slice = take (b.place + 4 * b.cells - b.place) (drop b.place img)

  pub slice_length : length slice ≡ 4 * b.cells
  slice_length = cut_length img b.place (4 * b.cells) o.inside

  pub slice_count : length slice / 4 ≡ b.cells
  slice_count = omega (arith, slice_length)

  pub slice_cell : (i : ℕ) → i < b.cells → cell_of slice i ≡ cell (low + i)
  unfolding cell_of u32at
  slice_cell i h = rw (cut_out img b.place (4 * b.cells)) (ap number (part_part img b.place (4 * b.cells) (4 * i) 4 (omega arith)) ∙ o.here i h)

-- ---- loops over the blocks

module _ {img : Bytes} {cell : ℕ → ℕ} {ok t : Bool} {b : Block} where
  pub right_block : (limit special : ℕ) {n i : ℕ} → Passed (cell_right limit special cell) n ok i → (o : BlockOf img cell i n b)
      → t ≡ all_below b.cells (cell_right limit special (cell_of (slice o))) → Passed (cell_right limit special cell) n (ok && t) (i + b.cells)
  unfolding cell_right
  right_block limit special a o e = passed_block a _ o.to e (λ j h. rw (slice_cell o j h))

  pub free_block : (low end : ℕ) {i : ℕ} → Passed (free_from cell low) (end - low) ok i → (o : BlockOf img cell (low + i) end b)
      → t ≡ all_below b.cells (is_free (cell_of (slice o))) → Passed (free_from cell low) (end - low) (ok && t) (i + b.cells)
  unfolding free_from
  free_block low end {i} a o e = passed_block a _ (omega (arith, o.to)) e (λ j h. rw (slice_cell o j h, add_assoc))

-- ---- the FAT is such a table

module _ {g : Geometry} {img : Bytes} {w : List ℕ} {n list : ℕ} (l : FatListedAt g img w n list) where
  pub fat_listed : (m : ℕ) → m ≤ cells_in g * F img → TableListed g img w list m
  fat_listed m h =
      record {
        sized = l.sized;
        room = λ i q. omega (arith, cell_sector l.sized i (omega arith), l.room);
        below = λ i q. let k = cell_sector l.sized i (omega arith) in rw (l.fats _ k) (l.below _ k);
      }

  pub fat_cell_lem : (s : ℕ) → s < cells_in g * F img → table_cell g img w list s ≡ fat_cell g img s
  unfolding table_cell
  fat_cell_lem s h = rw (l.fats _ (cell_sector l.sized s h)) (sym (cell_is l.sized s h))

  -- a copy of its first cells
  pub fat_held : {w' : List ℕ} {at m : ℕ} → m ≤ cells_in g * F img → Holds w' at m (table_cell g img w list) → Holds w' at m (fat_cell g img)
  fat_held h c = holds_same c (λ s q. fat_cell_lem s (omega arith))
