-- What groups 10 and 11 say of an image that may keep no other rule, and two images with the same tables.
use Rattle.std.specs.Prelude.{ℕ, ◌+◌, ◌*◌, ◌≤◌, ◌<◌, ◌≡◌, eqb, length}
use Rattle.format.specs.Basics.Lists.{count, member}
use Rattle.format.specs.Basics.Bytes.{Bytes}
use Rattle.format.specs.Layout.Geometry.{Geometry, sector_count}
use Rattle.format.specs.Layout.Header.{fat_count, difat_count}
use Rattle.format.specs.Layout.Chain.{FATSECT, DIFSECT}
use Rattle.format.specs.Layout.Tables.{fat_sectors, difat_sectors, fat_cells, fat_cell}
use Rattle.format.specs.Rules.Tables.{difat_need}

pub record Tabled (g : Geometry) (img : Bytes) : Type 0 where
  pub long : length img ≡ (sector_count g img + 1) * g.sector_bytes
  pub few : sector_count g img < 0x100_0000
  pub needs : difat_count img ≡ difat_need g (fat_count img)
  pub enough : sector_count g img ≤ fat_cells g img
  pub once : (s : ℕ) → count s (fat_sectors g img) + count s (difat_sectors g img) ≤ 1
  pub below : (s : ℕ) → 0 < count s (fat_sectors g img) + count s (difat_sectors g img) → s < sector_count g img
  pub marks : (s : ℕ) → s < sector_count g img →
      (eqb (fat_cell g img s) FATSECT ≡ member s (fat_sectors g img)) × (eqb (fat_cell g img s) DIFSECT ≡ member s (difat_sectors g img))

pub record SameTables (g : Geometry) (a b : Bytes) : Type 0 where
  pub size : length b ≡ length a
  pub sectors : sector_count g b ≡ sector_count g a
  pub fats : fat_count b ≡ fat_count a
  pub difats : difat_count b ≡ difat_count a
  pub fat : fat_sectors g b ≡ fat_sectors g a
  pub difat : difat_sectors g b ≡ difat_sectors g a
  pub cells : (s : ℕ) → s < sector_count g a → fat_cell g b s ≡ fat_cell g a s
