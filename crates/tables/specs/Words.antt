-- Numbers in sectors, and the cells of a table by the list of its sectors.
use Rattle.std.specs.Prelude.{ℕ, ◌+◌, ◌-◌, ◌*◌, ◌/◌, ◌%◌, min, Bool, List, get_or}
use Rattle.format.specs.Basics.Bytes.{Bytes, u32at}
use Rattle.format.specs.Layout.Geometry.{Geometry, sector_place, cells_in}
use Rattle.format.specs.Layout.Chain.{is_free}
use Rattle.tables.specs.declared.Block.{Block}

-- the number that stands at index i of a sector of 32-bit numbers
unfoldable pub word_in : Geometry → Bytes → ℕ → ℕ → ℕ
word_in g img s i = u32at img (sector_place g s + 4 * i)

-- the sector that holds number i of a table whose sectors stand in the work buffer from a place on
abbrev pub sector_for : Geometry → List ℕ → ℕ → ℕ → ℕ
sector_for g work list i = get_or work (list + i / cells_in g) 0

-- number i of such a table
unfoldable pub table_cell : Geometry → Bytes → List ℕ → ℕ → ℕ → ℕ
table_cell g img work list i = word_in g img (sector_for g work list i) (i % cells_in g)

-- cell i of those from `low` on is free
unfoldable pub free_from : (ℕ → ℕ) → ℕ → ℕ → Bool
free_from cell low i = is_free cell (low + i)

-- the cells from `low` on and below `end` that lie in one sector
unfoldable pub block_at : Geometry → List ℕ → ℕ → ℕ → ℕ → Block
block_at g work list low end =
    record {
      place = sector_place g (sector_for g work list low) + 4 * (low % cells_in g);
      cells = min (cells_in g - low % cells_in g) (end - low);
    }
