-- The numbers and entries of a sector, as a loop counts them.
use Rattle.std.specs.Prelude.{ℕ, ◌+◌, ◌-◌, cond, ltb}
use Rattle.format.specs.Basics.Bytes.{Bytes}
use Rattle.format.specs.Layout.Geometry.{Geometry}
use Rattle.format.specs.Fresh.Plan.{Plan, difat_from, directory_from}
use Rattle.format.specs.Fresh.Cells.{difat_number}
use Rattle.format.specs.Fresh.Image.{fresh_entry, fat_number, mini_number}

-- number i of sector s of a table: FAT, DIFAT and mini FAT alike are numbers of four bytes
unfoldable pub table_number : Geometry → Plan → ℕ → ℕ → ℕ
table_number g p s =
    cond (ltb s (difat_from g p)) (fat_number g p s)
    (cond (ltb s (directory_from g p)) (difat_number g p (s - difat_from g p)) mini_number)

-- entry i behind entry `first`
unfoldable pub entry_from : Geometry → Plan → ℕ → ℕ → Bytes
entry_from g p first i = fresh_entry g p (first + i)
