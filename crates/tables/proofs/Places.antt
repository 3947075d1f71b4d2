-- Where numbers stand in sectors: inside the image; and the cells of the FAT by these places.
use Prim.Native.Nat.{ℕ, suc, ◌+◌, ◌-◌, ◌*◌, ◌/◌, ◌%◌, ◌≤◌, ◌<◌}
use mathlib.Core.Path.{◌≡◌, refl, ap}
use native.Mathlib.Nat.{mod-lt, mul-le-mul_left}
use native.Mathlib.Omega.{arith}
use lib.ListN.{length}
use borrow.Author.Tests.{lt-ltb, le-ltb}
use Rattle.format.specs.Basics.Bytes.{Bytes, u32at}
use Rattle.format.specs.Layout.Geometry.{Geometry, header_difat, sector_count, sector_place, place_in, cells_in, difat_in}
use Rattle.format.specs.Layout.Header.{fat_count, difat_start}
use Rattle.format.specs.Layout.Tables.{difat_sector, difat_entry, fat_sectors, fat_cells, fat_cell, cell_in, cell_place_in}
use Rattle.theory.proofs.Below.{get_or_below}
use Rattle.theory.proofs.Scale.{scale_div, scale_mod, scale_below}
use Rattle.frame.proofs.Kept.{place_in_lem}
use Rattle.header.specs.Sized.{ImageSized, F}
use Rattle.tables.specs.Words.{word_in}

module _ {g : Geometry} {img : Bytes} (z : ImageSized g img) where
  -- a sector lies whole in the image
  pub sector_inside : (s : ℕ) → s < sector_count g img → sector_place g s + g.sector_bytes ≤ length img
  sector_inside s h = rw z.long (place_in_lem g (sector_count g img) s g.sector_bytes h (omega arith))

  pub cells_bytes : 4 * cells_in g ≡ g.sector_bytes
  unfolding cells_in
  cells_bytes = let e = z.even in omega arith

  pub cells_some : 128 ≤ cells_in g
  unfolding cells_in
  cells_some = let w = z.wide in omega arith

  pub cells_few : cells_in g ≤ 1024
  unfolding cells_in
  cells_few = let w = z.narrow in omega arith

  pub difat_is : suc (difat_in g) ≡ cells_in g
  unfolding difat_in
  difat_is = let c = cells_some in omega arith

  -- the cells of no more sectors than there are take no more bytes than the image has
  pub cells_short : (n : ℕ) → n ≤ sector_count g img → 4 * (cells_in g * n) ≤ length img
  cells_short n h =
      let a = mul-le-mul_left (cells_in g) h in
      let b = ap (λ k. (sector_count g img + 1) * k) cells_bytes in
      omega (arith, z.long)

  -- a number in a sector lies in the image
  pub word_inside : (s i : ℕ) → s < sector_count g img → i < cells_in g → sector_place g s + 4 * i + 4 ≤ length img
  word_inside s i h l = omega (arith, sector_inside s h, cells_bytes)

  -- the cell of s is a number of the FAT sector that holds it
  pub cell_is : (s : ℕ) → s < cells_in g * F img → fat_cell g img s ≡ word_in g img (difat_entry g img (s / cells_in g)) (s % cells_in g)
  unfolding fat_cell cell_in cell_place_in place_in fat_cells fat_sectors fat_count word_in
  cell_is s h =
      let c = cells_some in
      let k = scale_below (cells_in g) (u32at img 44) s (omega arith) h in
      rw (lt-ltb s (cells_in g * u32at img 44) h, scale_div 4 (cells_in g) cells_bytes (omega arith) s, scale_mod 4 (cells_in g) cells_bytes (omega arith) s, get_or_below (u32at img 44) (difat_entry g img) (s / cells_in g) 0 k)

  pub cell_sector : (s : ℕ) → s < cells_in g * F img → s / cells_in g < F img
  cell_sector s h = let c = cells_some in scale_below (cells_in g) (F img) s (omega arith) h

  pub cell_index : (s : ℕ) → s % cells_in g < cells_in g
  cell_index s = let c = cells_some in mod-lt s (omega arith)

-- ---- the DIFAT by these places

pub difat_first : (g : Geometry) (img : Bytes) → difat_sector g img 0 ≡ difat_start img
unfolding difat_sector
difat_first g img = refl

pub difat_next : (g : Geometry) (img : Bytes) (k : ℕ) → difat_sector g img (suc k) ≡ word_in g img (difat_sector g img k) (difat_in g)
unfolding difat_sector word_in
difat_next g img k = refl

pub entry_later : (g : Geometry) (img : Bytes) (i : ℕ) → 109 ≤ i → difat_entry g img i ≡ word_in g img (difat_sector g img ((i - 109) / difat_in g)) ((i - 109) % difat_in g)
unfolding difat_entry header_difat word_in
entry_later g img i h = rw (le-ltb i 109 h)
