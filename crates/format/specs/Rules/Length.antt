-- Answers 1 and 2: which lengths an image and a work buffer may have ("What is handed over").
use Rattle.std.specs.Prelude.{ℕ, ◌*◌, ◌/◌, ◌%◌, Bool, ◌&&◌, eqb, leb}
use Rattle.format.specs.Layout.Geometry.{Geometry}

-- a header and two sectors: one for the FAT, one for the directory
unfoldable pub least_image : Geometry → ℕ
least_image g = 3 * g.sector_bytes

unfoldable pub greatest_image : ℕ
greatest_image = 67_108_864

-- an image of n bytes may be looked at
unfoldable pub length_allowed : Geometry → ℕ → Bool
length_allowed g n = eqb (n % g.sector_bytes) 0 && leb (least_image g) n && leb n greatest_image

-- W: how many numbers a work buffer has at least, for an image of n bytes. The 512 is 01's own, whatever the sector size.
unfoldable pub work_need : ℕ → ℕ
work_need n = 13 * (n / 512)
