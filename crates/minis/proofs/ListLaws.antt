-- The list of the mini FAT's sectors: where it stays, the bounds that it gives, and the cells by it.
use Prim.Native.Nat.{ℕ, ◌+◌, ◌*◌, ◌/◌, ◌≤◌, ◌<◌}
use mathlib.Core.Path.{◌≡◌, ◌∙◌}
use mathlib.Core.Logic.{◌⊎◌, inl, inr}
use mathlib.Core.List.{List}
use native.Mathlib.Omega.{arith}
use lib.ListN.{length}
use borrow.Author.Tests.{lt-ltb}
use Rattle.format.specs.Basics.Bytes.{Bytes}
use Rattle.format.specs.Layout.Geometry.{Geometry, place_in, cells_in}
use Rattle.format.specs.Layout.Header.{mini_fat_count}
use Rattle.format.specs.Layout.Tables.{cell_in, cell_place_in}
use Rattle.format.specs.Layout.Volume.{mini_cells, mini_space}
use Rattle.kinds.specs.Sizes.{geometry_of}
use Rattle.theory.proofs.Scale.{scale_div, scale_mod, scale_below}
use Rattle.tables.specs.Words.{word_in, table_cell}
use Rattle.tables.specs.Work.{Wrote, Holds}
use Rattle.tables.specs.Listed.{TableListed}
use Rattle.tables.proofs.Places.{cells_some, cells_bytes, cells_short as short}
use Rattle.tables.proofs.WorkLaws.{holds_same}
use Rattle.minis.specs.Listed.{MiniListed, minis_of}
use Rattle.minis.specs.declared.Minis.{Minis}

-- ---- the list stays

module _ {t : Minis} {img : Bytes} {w w' : List ℕ} {at m : ℕ} (l : MiniListed t img w) (r : Wrote w w' at m) where
  still : (at + m ≤ t.list) ⊎ (t.list + t.sectors ≤ at) → MiniListed t img w'
  still d =
      record {
        sized = l.sized;
        counts = l.counts;
        sectors = l.sectors;
        small = l.small;
        apart = l.apart;
        room = omega (arith, l.room, r.long);
        here = λ k h. r.outside _ (apart k h d) ∙ l.here k h;
        below = l.below;
      }
    where
      apart : (k : ℕ) → k < t.sectors → (at + m ≤ t.list) ⊎ (t.list + t.sectors ≤ at) → (t.list + k < at) ⊎ (at + m ≤ t.list + k)
      apart k h (inl q) = inr (omega arith)
      apart k h (inr q) = inl (omega arith)

  -- where only what stands before it changes
  pub listed_kept : at + m ≤ t.list → MiniListed t img w'
  listed_kept h = still (inl h)

module _ {t : Minis} {img : Bytes} {w : List ℕ} (l : MiniListed t img w) where
  abbrev g : Geometry
  g = geometry_of t.geometry

  -- ---- bounds

  -- no mini sector has one of the special values for its number
  pub units_few : (minis_of t img).limit ≤ 0x400_0000
  units_few = omega (arith, l.counts.count, l.counts.few, l.sized.short)

  -- every mini sector has a cell
  pub cells_cover : t.units ≤ cells_in g * t.sectors
  cells_cover = rw l.sectors l.counts.covers

  -- the cells take no more bytes than the image has
  pub cells_short : 4 * (cells_in g * t.sectors) ≤ length img
  cells_short = short l.sized t.sectors l.small

  -- ---- the cell of m is a number of the sector that the list has for it

  module _ (m : ℕ) (h : m < cells_in g * t.sectors) where
    cell_sector : m / cells_in g < t.sectors
    cell_sector = let c = cells_some l.sized in scale_below (cells_in g) t.sectors m (omega arith) h

    pub mini_cell_lem : table_cell g img w t.list m ≡ (minis_of t img).cell m
    unfolding table_cell mini_space mini_cells cell_in cell_place_in place_in word_in
    mini_cell_lem =
        let s : m < cells_in g * mini_fat_count img = rw (← l.sectors) h in
        rw (lt-ltb m (cells_in g * mini_fat_count img) s, scale_div 4 (cells_in g) (cells_bytes l.sized) (omega arith) m, scale_mod 4 (cells_in g) (cells_bytes l.sized) (omega arith) m, l.here _ cell_sector)

  -- the mini FAT's sectors stand listed
  pub mini_listed : (n : ℕ) → n ≤ cells_in g * t.sectors → TableListed g img w t.list n
  mini_listed n h =
      record {
        sized = l.sized;
        room = λ i q. omega (arith, cell_sector i (omega arith), l.room);
        below = λ i q. let k = cell_sector i (omega arith) in rw (l.here _ k) (l.below _ k);
      }

  -- a copy of its first cells
  pub mini_held : {w' : List ℕ} {at n : ℕ} → n ≤ cells_in g * t.sectors → Holds w' at n (table_cell g img w t.list) → Holds w' at n (minis_of t img).cell
  mini_held h c = holds_same c (λ s q. mini_cell_lem s (omega arith))
