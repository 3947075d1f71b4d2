-- An image of an allowed length, as arithmetic reads it.
use Rattle.std.specs.Prelude.{ℕ, ◌+◌, ◌*◌, ◌/◌, ◌%◌, ◌≤◌, ◌<◌, ◌≡◌, length}
use Rattle.format.specs.Basics.Bytes.{Bytes, u32at}
use Rattle.format.specs.Layout.Geometry.{Geometry, sector_count}

pub record ImageSized (g : Geometry) (img : Bytes) : Type 0 where
  -- the sector size
  pub wide : 512 ≤ g.sector_bytes
  pub narrow : g.sector_bytes ≤ 4096
  pub even : g.sector_bytes % 128 ≡ 0
  -- a header, and N sectors; the last three bounds are those of images of up to 64 MiB
  pub long : length img ≡ (sector_count g img + 1) * g.sector_bytes
  pub head : 1536 ≤ length img
  pub many : sector_count g img < length img / 512
  pub few : sector_count g img < 0x100_0000
  pub short : length img ≤ 0x400_0000

-- F, D and W, as arithmetic reads them
abbrev pub F : Bytes → ℕ
F img = u32at img 44

abbrev pub D : Bytes → ℕ
D img = u32at img 72

abbrev pub W : Bytes → ℕ
W img = 13 * (length img / 512)
