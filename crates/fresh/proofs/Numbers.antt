-- What a plan that is not refused says of its numbers.
use Prim.Native.Nat.{suc, ◌+◌, ◌-◌, ◌*◌, ◌%◌, ◌≤◌, ◌<◌}
use mathlib.Core.Path.{◌≡◌, refl}
use mathlib.Core.Bool.{◌&&◌}
use native.Mathlib.Nat.{mul-le-mul_left, mul-le-mul_right, mul_comm}
use native.Mathlib.Omega.{arith}
use lib.Dec.{eqb, leb}
use borrow.Author.Tests.{leb-true, eqb-true}
use Rattle.format.specs.Layout.Geometry.{Geometry, header_difat, cells_in, difat_in, entries_in, entry_bytes}
use Rattle.format.specs.Layout.Need.{round_up}
use Rattle.format.specs.Rules.Length.{least_image, greatest_image, length_allowed}
use Rattle.format.specs.Rules.Tables.{difat_need}
use Rattle.theory.proofs.RoundUp.{round_enough, round_lt}
use Rattle.theory.proofs.Tests.{both}
use Rattle.frame.specs.Kept.{Sized}
use Rattle.frame.proofs.Lengths.{greatest_few}
use Rattle.format.specs.Fresh.Plan.{Plan, fat_part, difat_part, mini_stream_bytes, mini_stream_part, difat_from, directory_from, mini_fat_from, mini_stream_from, spare_from, parts_fit}
use Rattle.fresh.specs.Facts.{Planned}

-- ---- what a sector holds

module _ (g : Geometry) (z : Sized g) where
  pub sector_some : 0 < g.sector_bytes
  sector_some = let w = z.wide in omega arith

  pub cells_fill : 4 * cells_in g ≡ g.sector_bytes
  unfolding cells_in
  cells_fill = let e = z.even in omega arith

  pub cells_some : 128 ≤ cells_in g
  unfolding cells_in
  cells_some = let w = z.wide in omega arith

  pub difat_one_less : cells_in g ≡ suc (difat_in g)
  unfolding difat_in
  difat_one_less = let w = cells_some in omega arith

  pub entries_fill : 128 * entries_in g ≡ g.sector_bytes
  unfolding entries_in entry_bytes
  entries_fill = let e = z.even in omega arith

  pub entries_some : 4 ≤ entries_in g
  entries_some = let w = z.wide in omega (arith, entries_fill)

-- ---- the plan's numbers

module _ (g : Geometry) (p : Plan) (z : Sized g) (q : Planned g p) where
  length_parts : (suc p.sectors * g.sector_bytes % g.sector_bytes ≡ 0) × (3 * g.sector_bytes ≤ suc p.sectors * g.sector_bytes) × (suc p.sectors * g.sector_bytes ≤ greatest_image)
  unfolding length_allowed least_image
  length_parts =
      let n = suc p.sectors * g.sector_bytes in
      let a = both (eqb (n % g.sector_bytes) 0 && leb (3 * g.sector_bytes) n) (leb n greatest_image) q.allowed in
      let b = both (eqb (n % g.sector_bytes) 0) (leb (3 * g.sector_bytes) n) a.0 in
      (eqb-true (n % g.sector_bytes) 0 b.0, leb-true (3 * g.sector_bytes) n b.1, leb-true n greatest_image a.1)

  fit_parts : (1 ≤ p.directory) × (p.minis ≤ cells_in g * p.mini_fat) × (spare_from g p ≤ p.sectors)
  unfolding parts_fit
  fit_parts =
      let a = both (leb 1 p.directory && leb p.minis (cells_in g * p.mini_fat)) (leb (spare_from g p) p.sectors) q.fits in
      let b = both (leb 1 p.directory) (leb p.minis (cells_in g * p.mini_fat)) a.0 in
      (leb-true 1 p.directory b.0, leb-true p.minis (cells_in g * p.mini_fat) b.1, leb-true (spare_from g p) p.sectors a.1)

  pub directory_some : 1 ≤ p.directory
  directory_some = fit_parts.0

  pub minis_have_cells : p.minis ≤ cells_in g * p.mini_fat
  minis_have_cells = fit_parts.1

  pub parts_fit_lem : spare_from g p ≤ p.sectors
  parts_fit_lem = fit_parts.2

  -- the image is short, and so N is small
  pub image_short : suc p.sectors * g.sector_bytes ≤ 0x400_0000
  image_short = omega (arith, length_parts.2, greatest_few)

  pub sectors_few : p.sectors < 0x2_0000
  sectors_few = omega (arith, image_short, mul-le-mul_left (suc p.sectors) z.wide)

  -- the order of the parts
  pub record Order : Type 0 where
    pub difat : difat_from g p ≡ fat_part g p
    pub directory : directory_from g p ≡ fat_part g p + difat_part g p
    pub mini_fat : mini_fat_from g p ≡ directory_from g p + p.directory
    pub mini_stream : mini_stream_from g p ≡ mini_fat_from g p + p.mini_fat
    pub free : spare_from g p ≡ mini_stream_from g p + mini_stream_part g p
    pub some : 1 ≤ p.directory
    pub fits : spare_from g p ≤ p.sectors
    pub few : p.sectors < 0x2_0000

  pub order : Order
  unfolding difat_from directory_from mini_fat_from mini_stream_from spare_from
  order =
      record {
        difat = refl;
        directory = refl;
        mini_fat = refl;
        mini_stream = refl;
        free = refl;
        some = directory_some;
        fits = parts_fit_lem;
        few = sectors_few;
      }

  -- F has a cell for each sector, and is at least 1
  pub cells_enough : p.sectors ≤ cells_in g * fat_part g p
  unfolding fat_part
  cells_enough =
      let a = round_enough p.sectors (cells_in g) (omega (arith, cells_some g z)) in
      omega (arith, mul_comm (cells_in g) (round_up p.sectors (cells_in g)))

  pub fat_some : 1 ≤ fat_part g p
  unfolding fat_part
  fat_some = omega (arith, order, round_lt 0 p.sectors (cells_in g) (omega (arith, cells_some g z)) (omega (arith, order)))

  -- the DIFAT has an entry for each FAT sector
  pub entries_enough : fat_part g p ≤ 109 + difat_in g * difat_part g p
  unfolding difat_part difat_need header_difat
  entries_enough =
      let a = round_enough (fat_part g p - 109) (difat_in g) (omega (arith, cells_some g z, difat_one_less g z)) in
      omega (arith, a, mul_comm (difat_in g) (round_up (fat_part g p - 109) (difat_in g)))

  -- the mini stream is shorter than the image
  pub stream_short : mini_stream_bytes p ≤ 0x400_0000
  unfolding mini_stream_part
  stream_short =
      let n = round_up (mini_stream_bytes p) g.sector_bytes in
      let a = round_enough (mini_stream_bytes p) g.sector_bytes (sector_some g z) in
      let k : n ≤ suc p.sectors = omega (arith, order.free, order.fits) in
      omega (arith, a, mul-le-mul_right g.sector_bytes k, image_short)
