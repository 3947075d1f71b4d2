-- The numbers in the tables of a fresh image: the FAT's cells, and the DIFAT's entries and links.
use Rattle.std.specs.Prelude.{ℕ, suc, ◌+◌, ◌*◌, cond, eqb, ltb}
use Rattle.format.specs.Layout.Geometry.{Geometry, header_difat, difat_in}
use Rattle.format.specs.Layout.Chain.{FREE, END, FATSECT, DIFSECT}
use Rattle.format.specs.Fresh.Plan.{Plan, fat_part, difat_from, directory_from, mini_fat_from, mini_stream_from, spare_from}

-- the link of sector s in a part that ends right before sector `end`: the next sector, and in the last END
unfoldable pub link_in : ℕ → ℕ → ℕ
link_in end s = cond (eqb (suc s) end) END (suc s)

-- the cell of sector s; past the last sector it is free too
unfoldable pub fresh_cell : Geometry → Plan → ℕ → ℕ
fresh_cell g p s =
    cond (ltb s (difat_from g p)) FATSECT
    (cond (ltb s (directory_from g p)) DIFSECT
    (cond (ltb s (mini_fat_from g p)) (link_in (mini_fat_from g p) s)
    (cond (ltb s (mini_stream_from g p)) (link_in (mini_stream_from g p) s)
    (cond (ltb s (spare_from g p)) (link_in (spare_from g p) s) FREE))))

-- DIFAT entry i: FAT sector i is sector i; past the last one the entries are free
unfoldable pub fresh_difat : Geometry → Plan → ℕ → ℕ
fresh_difat g p i = cond (ltb i (fat_part g p)) i FREE

-- number i of DIFAT sector j: its entries, and then the link
unfoldable pub difat_number : Geometry → Plan → ℕ → ℕ → ℕ
difat_number g p j i =
    cond (ltb i (difat_in g))
    (fresh_difat g p (header_difat + (difat_in g * j + i)))
    (link_in (directory_from g p) (difat_from g p + j))
