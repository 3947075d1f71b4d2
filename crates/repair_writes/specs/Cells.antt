-- A table of cells as the list of its sectors in the work buffer shows it, with no look at the image.
use Rattle.std.specs.Prelude.{ℕ, ◌+◌, ◌*◌, ◌/◌, ◌≤◌, ◌<◌, ◌≡◌, ◌≢◌, Bool, not, ◌&&◌, List, ltb, length}
use Rattle.format.specs.Basics.Lists.{member}
use Rattle.format.specs.Basics.Bytes.{Bytes, u32at}
use Rattle.format.specs.Layout.Geometry.{Geometry}
use Rattle.format.specs.Layout.Chain.{FREE}
use Rattle.format.specs.Layout.Space.{Space}
use Rattle.format.specs.Rules.Cells.{table_mark}
use Rattle.theory.specs.Marks.{unmarked, marks_at}
use Rattle.spaces.specs.Spaces.{listed_place}

-- the byte where cell u starts
abbrev pub cell_byte : Geometry → List ℕ → (list u : ℕ) → ℕ
cell_byte g work list u = listed_place g work list (4 * u)

-- A whole `Space`, because `format`'s writes take one; they go by the places of the cells, by the limit and by how many cells there are.
abbrev pub table_in : Geometry → List ℕ → (list limit cells : ℕ) → Space
table_in g work list limit cells =
    record { limit = limit; cells = cells; unit = 0; cell = λ u. FREE; cell_place = cell_byte g work list; unit_place = λ u. 0 }

-- the sector of cell u stands in the list, and the cell lies in an image of len bytes
pub record CellRoom (g : Geometry) (work : List ℕ) (list len u : ℕ) : Type 0 where
  pub wide : 512 ≤ g.sector_bytes
  pub narrow : g.sector_bytes ≤ 4096
  pub few : 4 * u < 0x1_0000_0000
  pub here : list + 4 * u / g.sector_bytes < length work
  pub inside : cell_byte g work list u + 4 ≤ len

-- so do the first n cells
abbrev pub TableRoom : Geometry → List ℕ → (list len n : ℕ) → Type 0
TableRoom g work list len n = (u : ℕ) → u < n → CellRoom g work list len u

-- no two of them share a byte
abbrev pub CellsApart : Geometry → List ℕ → (list n : ℕ) → Type 0
CellsApart g work list n = (x y i j : ℕ) → x ≢ y → x < n → y < n → i < 4 → j < 4 → cell_byte g work list x + i ≢ cell_byte g work list y + j

-- A cell that may become free: its unit has no mark, and it is not the cell of a table sector. The units' numbers stand in the work buffer from `at` on.
unfoldable pub may_free : Geometry → List ℕ → (list at : ℕ) → Bytes → ℕ → Bool
may_free g work list at img u = unmarked (marks_at at work) u && not (table_mark (u32at img (cell_byte g work list u)))

-- of the first n units, those that are owned have a mark, and no others
abbrev pub MarksSay : List ℕ → (at n : ℕ) → (owned : List ℕ) → Type 0
MarksSay work at n owned = (u : ℕ) → u < n → ltb 0 (marks_at at work u) ≡ member u owned
