-- The DIFAT names the FAT's sectors, and the FAT has a cell for each sector.
use Rattle.std.specs.Prelude.{ℕ, zero, suc, ◌+◌, ◌-◌, ◌*◌, ◌/◌, ◌%◌, cond, List, ltb}
use Rattle.format.specs.Basics.Lists.{list_below}
use Rattle.format.specs.Basics.Bytes.{Bytes, u32at}
use Rattle.format.specs.Layout.Geometry.{Geometry, header_difat, sector_place, place_in, cells_in, difat_in, sector_count}
use Rattle.format.specs.Layout.Chain.{FREE}
use Rattle.format.specs.Layout.Space.{Space}
use Rattle.format.specs.Layout.Header.{fat_count, difat_start, difat_count, difat_place}

-- ---- the DIFAT

-- DIFAT sector k: the header names the first, the last four bytes of each name the next. So number D is what the last link holds.
unfoldable pub difat_sector : Geometry → Bytes → ℕ → ℕ
difat_sector g img zero = difat_start img
difat_sector g img (suc k) = u32at img (sector_place g (difat_sector g img k) + 4 * difat_in g)

unfoldable pub difat_sectors : Geometry → Bytes → List ℕ
difat_sectors g img = list_below (difat_count img) (difat_sector g img)

-- DIFAT entry i: the first stand in the header, the others in the DIFAT sectors
unfoldable pub difat_entry : Geometry → Bytes → ℕ → ℕ
difat_entry g img i =
    let j = i - header_difat in
    cond (ltb i header_difat)
    (u32at img (difat_place + 4 * i))
    (u32at img (sector_place g (difat_sector g img (j / difat_in g)) + 4 * (j % difat_in g)))

-- the first F entries are the FAT's sectors
unfoldable pub fat_sectors : Geometry → Bytes → List ℕ
fat_sectors g img = list_below (fat_count img) (difat_entry g img)

-- ---- a table of cells, four bytes each, laid over sectors

unfoldable pub cell_place_in : Geometry → List ℕ → ℕ → ℕ
cell_place_in g sectors s = place_in g sectors (4 * s)

-- cell s of a table of n cells; past the table there is nothing to read, and the cell counts as free
unfoldable pub cell_in : Geometry → Bytes → List ℕ → ℕ → ℕ → ℕ
cell_in g img sectors n s = cond (ltb s n) (u32at img (cell_place_in g sectors s)) FREE

-- ---- the FAT

unfoldable pub fat_cells : Geometry → Bytes → ℕ
fat_cells g img = cells_in g * fat_count img

unfoldable pub fat_cell : Geometry → Bytes → ℕ → ℕ
fat_cell g img s = cell_in g img (fat_sectors g img) (fat_cells g img) s

-- the space of sectors
unfoldable pub sector_space : Geometry → Bytes → Space
sector_space g img =
    record {
      limit = sector_count g img;
      cells = fat_cells g img;
      unit = g.sector_bytes;
      cell = fat_cell g img;
      cell_place = cell_place_in g (fat_sectors g img);
      unit_place = sector_place g;
    }
