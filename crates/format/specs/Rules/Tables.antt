-- Group 11: the sectors of the FAT and of the DIFAT.
use Rattle.std.specs.Prelude.{ℕ, ◌+◌, ◌-◌, ◌*◌, Bool, ◌&&◌, ◌++◌, eqb, ltb, leb}
use Rattle.std.specs.Bool.{beq}
use Rattle.format.specs.Basics.Lists.{all_below, all, member, distinct}
use Rattle.format.specs.Basics.Bytes.{Bytes}
use Rattle.format.specs.Layout.Geometry.{Geometry, header_difat, difat_in, sector_count}
use Rattle.format.specs.Layout.Need.{round_up}
use Rattle.format.specs.Layout.Chain.{FREE, END, FATSECT, DIFSECT}
use Rattle.format.specs.Layout.Header.{fat_count, difat_count}
use Rattle.format.specs.Layout.Tables.{difat_sector, difat_sectors, difat_entry, fat_sectors, fat_cells, fat_cell}

-- ---- the counts F and D

-- the DIFAT sectors that F FAT sectors need beside the header's entries; a difference below 0 counts as 0
unfoldable pub difat_need : Geometry → ℕ → ℕ
difat_need g f = round_up (f - header_difat) (difat_in g)

unfoldable pub table_counts : Geometry → Bytes → Bool
table_counts g img =
    leb 1 (fat_count img)
    && leb (sector_count g img) (fat_cells g img)
    && eqb (difat_count img) (difat_need g (fat_count img))

-- ---- the DIFAT

-- what the last link holds, or the header's field where there is no DIFAT sector
unfoldable pub difat_ends : Geometry → Bytes → Bool
difat_ends g img = eqb (difat_sector g img (difat_count img)) END

-- entry i of those that name no FAT sector is free
unfoldable pub spare_entry_free : Geometry → Bytes → ℕ → Bool
spare_entry_free g img i = eqb (difat_entry g img (fat_count img + i)) FREE

-- the entries from F on, in the header and in the DIFAT sectors
unfoldable pub difat_rest : Geometry → Bytes → Bool
difat_rest g img = all_below (header_difat + difat_in g * difat_count img - fat_count img) (spare_entry_free g img)

-- ---- the sectors

unfoldable pub is_sector : Geometry → Bytes → ℕ → Bool
is_sector g img s = ltb s (sector_count g img)

unfoldable pub table_sectors : Geometry → Bytes → Bool
table_sectors g img =
    all (is_sector g img) (fat_sectors g img ++ difat_sectors g img)
    && distinct (fat_sectors g img ++ difat_sectors g img)

-- the cell of sector s says FATSECT, or DIFSECT, exactly if it is such a sector
unfoldable pub mark_right : Geometry → Bytes → ℕ → Bool
mark_right g img s =
    beq (eqb (fat_cell g img s) FATSECT) (member s (fat_sectors g img))
    && beq (eqb (fat_cell g img s) DIFSECT) (member s (difat_sectors g img))

unfoldable pub table_marks : Geometry → Bytes → Bool
table_marks g img = all_below (sector_count g img) (mark_right g img)

-- GROUP 11
unfoldable pub table_rules : Geometry → Bytes → Bool
table_rules g img = table_counts g img && difat_ends g img && difat_rest g img && table_sectors g img && table_marks g img
