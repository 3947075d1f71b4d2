-- The sizes and places that the sector size fixes. Every definition takes the geometry as an argument.
use Rattle.std.specs.Prelude.{ℕ, ◌+◌, ◌-◌, ◌*◌, ◌/◌, ◌%◌, Bool, not, cond, List, eqb, length, get_or}
use Rattle.format.specs.Basics.Bytes.{Bytes}

pub record Geometry : Type 0 where
  -- the major version, and the sector shift, as the header has them
  pub major : ℕ
  pub shift : ℕ
  pub sector_bytes : ℕ

unfoldable pub version3 : Geometry
version3 = record { major = 3; shift = 9; sector_bytes = 512 }

unfoldable pub version4 : Geometry
version4 = record { major = 4; shift = 12; sector_bytes = 4096 }

-- ---- sizes that are the same for every sector size

unfoldable pub mini_bytes : ℕ
mini_bytes = 64

unfoldable pub entry_bytes : ℕ
entry_bytes = 128

-- the bytes of the header that hold fields; the rest of its sector is zero
unfoldable pub header_bytes : ℕ
header_bytes = 512

-- the DIFAT entries that stand in the header
unfoldable pub header_difat : ℕ
header_difat = 109

-- ---- what the version decides

-- how many of the eight bytes of a size count: in version 3, where old programs left the upper ones unset, the lower four
unfoldable pub size_width : Geometry → ℕ
size_width g = cond (eqb g.major 3) 4 8

-- the header says how many sectors the directory has; in version 3 the field is 0
unfoldable pub counts_directory : Geometry → Bool
counts_directory g = not (eqb g.major 3)

-- ---- what the sector size decides

-- N, the number of sectors: the header takes the place of one
unfoldable pub sector_count : Geometry → Bytes → ℕ
sector_count g img = length img / g.sector_bytes - 1

-- the byte where a sector starts: sector 0 stands behind the header
unfoldable pub sector_place : Geometry → ℕ → ℕ
sector_place g s = (s + 1) * g.sector_bytes

-- the byte of the image that is byte i of what these sectors hold, laid end to end: of a table, of the directory, of the mini stream
unfoldable pub place_in : Geometry → List ℕ → ℕ → ℕ
place_in g sectors i = sector_place g (get_or sectors (i / g.sector_bytes) 0) + i % g.sector_bytes

-- the cells of a FAT or mini FAT sector
unfoldable pub cells_in : Geometry → ℕ
cells_in g = g.sector_bytes / 4

-- the entries of a DIFAT sector, whose last four bytes are a link
unfoldable pub difat_in : Geometry → ℕ
difat_in g = cells_in g - 1

-- the directory entries of a sector
unfoldable pub entries_in : Geometry → ℕ
entries_in g = g.sector_bytes / entry_bytes
