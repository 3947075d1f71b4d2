-- The header sector of a fresh image.
use Rattle.std.specs.Prelude.{ℕ, ◌-◌, cond, ◌++◌, replicate}
use Rattle.format.specs.Basics.Lists.{join_below}
use Rattle.format.specs.Basics.Bytes.{Bytes, le16, le32}
use Rattle.format.specs.Layout.Geometry.{Geometry, header_bytes, header_difat, counts_directory}
use Rattle.format.specs.Layout.Need.{cutoff}
use Rattle.format.specs.Rules.Header.{signature, byte_order, mini_shift}
use Rattle.format.specs.Fresh.Plan.{Plan, fat_part, difat_part, difat_from, directory_from, mini_fat_from, start_from}
use Rattle.format.specs.Fresh.Cells.{fresh_difat}

unfoldable pub minor_version : ℕ
minor_version = 0x3E

-- the field at 40, where the version counts the directory's sectors
unfoldable pub directory_field : Geometry → Plan → ℕ
directory_field g p = cond (counts_directory g) p.directory 0

-- numbers of four bytes, end to end: f 0, f 1 .. f (n - 1)
abbrev pub bytes_at : (ℕ → ℕ) → ℕ → Bytes
bytes_at f i = le32 (f i)

unfoldable pub numbers_below : ℕ → (ℕ → ℕ) → Bytes
numbers_below n f = join_below n (bytes_at f)

-- bytes 0 to 39: the same for all plans of a version
unfoldable pub header_front : Geometry → Bytes
header_front g =
    signature
    ++ replicate 16 0
    ++ (le16 minor_version ++ le16 g.major ++ le16 byte_order ++ le16 g.shift ++ le16 mini_shift)
    ++ replicate 6 0

-- bytes 40 to 75: where the tables are. The transaction number, at 52, is 0.
unfoldable pub header_fields : Geometry → Plan → Bytes
header_fields g p =
    (le32 (directory_field g p) ++ le32 (fat_part g p) ++ le32 (directory_from g p) ++ le32 0 ++ le32 cutoff)
    ++ (le32 (start_from (mini_fat_from g p) p.mini_fat) ++ le32 p.mini_fat)
    ++ (le32 (start_from (difat_from g p) (difat_part g p)) ++ le32 (difat_part g p))

-- these, the first DIFAT entries, and zeros up to the first sector
unfoldable pub fresh_header : Geometry → Plan → Bytes
fresh_header g p =
    header_front g
    ++ header_fields g p
    ++ numbers_below header_difat (fresh_difat g p)
    ++ replicate (g.sector_bytes - header_bytes) 0
