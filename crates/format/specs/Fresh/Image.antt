-- A fresh image: the header sector, and after it the sectors, by the part that each stands in.
use Rattle.std.specs.Prelude.{ℕ, zero, suc, ◌+◌, ◌-◌, ◌*◌, cond, [], ◌∷◌, ◌++◌, ltb, replicate}
use Rattle.format.specs.Basics.Lists.{join_below}
use Rattle.format.specs.Basics.Bytes.{Bytes}
use Rattle.format.specs.Layout.Geometry.{Geometry, cells_in, entries_in}
use Rattle.format.specs.Layout.Chain.{FREE}
use Rattle.format.specs.Layout.Name.{Name}
use Rattle.format.specs.Layout.NewEntry.{new_entry, blank_entry}
use Rattle.format.specs.Fresh.Plan.{Plan, mini_stream_bytes, mini_stream_part, difat_from, directory_from, mini_fat_from, mini_stream_from, start_from}
use Rattle.format.specs.Fresh.Cells.{fresh_cell, difat_number}
use Rattle.format.specs.Fresh.Header.{numbers_below, fresh_header}

-- ---- the entries

-- `Root Entry`
unfoldable pub root_name : Name
root_name = 0x52 ∷ 0x6F ∷ 0x6F ∷ 0x74 ∷ 0x20 ∷ 0x45 ∷ 0x6E ∷ 0x74 ∷ 0x72 ∷ 0x79 ∷ []

-- a root of which the mini stream's start and length are given
unfoldable pub root_entry : (start size : ℕ) → Bytes
root_entry start size = new_entry root_name 5 start size

-- entry i: the root is entry 0, and all others are blank
unfoldable pub fresh_entry : Geometry → Plan → ℕ → Bytes
fresh_entry g p zero = root_entry (start_from (mini_stream_from g p) (mini_stream_part g p)) (mini_stream_bytes p)
fresh_entry g p (suc i) = blank_entry

-- ---- the sectors of each part, numbered from 0 in it

-- number i of FAT sector j
unfoldable pub fat_number : Geometry → Plan → ℕ → ℕ → ℕ
fat_number g p j i = fresh_cell g p (cells_in g * j + i)

unfoldable pub fat_block : Geometry → Plan → ℕ → Bytes
fat_block g p j = numbers_below (cells_in g) (fat_number g p j)

unfoldable pub difat_block : Geometry → Plan → ℕ → Bytes
difat_block g p j = numbers_below (cells_in g) (difat_number g p j)

-- entry i of directory sector j
unfoldable pub directory_entry : Geometry → Plan → ℕ → ℕ → Bytes
directory_entry g p j i = fresh_entry g p (entries_in g * j + i)

unfoldable pub directory_block : Geometry → Plan → ℕ → Bytes
directory_block g p j = join_below (entries_in g) (directory_entry g p j)

-- every mini cell is free
unfoldable pub mini_number : ℕ → ℕ
mini_number i = FREE

unfoldable pub mini_fat_block : Geometry → Bytes
mini_fat_block g = numbers_below (cells_in g) mini_number

-- ---- the image

-- sector s; what units hold is zero
unfoldable pub fresh_sector : Geometry → Plan → ℕ → Bytes
fresh_sector g p s =
    cond (ltb s (difat_from g p)) (fat_block g p s)
    (cond (ltb s (directory_from g p)) (difat_block g p (s - difat_from g p))
    (cond (ltb s (mini_fat_from g p)) (directory_block g p (s - directory_from g p))
    (cond (ltb s (mini_stream_from g p)) (mini_fat_block g) (replicate g.sector_bytes 0))))

unfoldable pub fresh_image : Geometry → Plan → Bytes
fresh_image g p = fresh_header g p ++ join_below p.sectors (fresh_sector g p)
