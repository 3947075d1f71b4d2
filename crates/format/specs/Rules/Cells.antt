-- Group 12: the cells of the FAT; and the rules on cells that the mini FAT keeps too.
use Rattle.std.specs.Prelude.{ℕ, ◌+◌, ◌-◌, Bool, ◌&&◌, ◌||◌, eqb, ltb}
use Rattle.format.specs.Basics.Lists.{all_below}
use Rattle.format.specs.Layout.Chain.{FREE, END, FATSECT, DIFSECT, is_free}
use Rattle.format.specs.Layout.Space.{Space}

-- ---- for either table

-- a cell value that names a unit, ends a chain or is free
unfoldable pub plain_cell : Space → ℕ → Bool
plain_cell sp c = ltb c sp.limit || eqb c END || eqb c FREE

-- cell i of those behind the last unit's
unfoldable pub spare_cell_free : Space → ℕ → Bool
spare_cell_free sp i = is_free sp.cell (sp.limit + i)

-- the cells from the limit on are free
unfoldable pub rest_free : Space → Bool
rest_free sp = all_below (sp.cells - sp.limit) (spare_cell_free sp)

-- ---- the FAT

-- a value that marks a table sector; where group 11 holds, exactly the cells of FAT and DIFAT sectors have one
unfoldable pub table_mark : ℕ → Bool
table_mark c = eqb c FATSECT || eqb c DIFSECT

unfoldable pub fat_cell_right : Space → ℕ → Bool
fat_cell_right sp s = table_mark (sp.cell s) || plain_cell sp (sp.cell s)

-- GROUP 12
unfoldable pub cell_rules : Space → Bool
cell_rules sp = all_below sp.limit (fat_cell_right sp) && rest_free sp
