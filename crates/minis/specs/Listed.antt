-- The mini FAT's sectors stand listed in the work buffer, so that every cell can be looked up at once.
use Rattle.std.specs.Prelude.{ℕ, ◌+◌, ◌*◌, ◌/◌, ◌≤◌, ◌<◌, ◌≡◌, Bool, true, List, length, get_or}
use Rattle.format.specs.Basics.Bytes.{Bytes}
use Rattle.format.specs.Basics.Lists.{all_below}
use Rattle.format.specs.Layout.Geometry.{Geometry, sector_count, cells_in}
use Rattle.format.specs.Layout.Chain.{chain}
use Rattle.format.specs.Layout.Space.{Space}
use Rattle.format.specs.Layout.Header.{mini_fat_count, mini_fat_start}
use Rattle.format.specs.Layout.Tables.{fat_cell}
use Rattle.format.specs.Layout.Volume.{mini_fat_sectors, mini_space}
use Rattle.format.specs.Rules.Mini.{mini_cell_right}
use Rattle.kinds.specs.Sizes.{geometry_of}
use Rattle.header.specs.Sized.{ImageSized}
use Rattle.tables.specs.Work.{Wrote}
use Rattle.tables.specs.declared.Tables.{Tables}
use Rattle.chains.specs.Answers.{CellsCopied}
use Rattle.minis.specs.declared.Minis.{Minis}

-- K mini sectors, no more than an image has place for or the mini FAT has cells for; the mini FAT is a chain
pub record MiniCounts (g : Geometry) (img : Bytes) (units : ℕ) : Type 0 where
  pub count : units ≡ (mini_space g img).limit
  pub few : units ≤ 8 * (length img / 512)
  pub covers : units ≤ cells_in g * mini_fat_count img
  pub chained : chain (fat_cell g img) (sector_count g img) (mini_fat_count img) (mini_fat_start img) ≡ true

-- the list at a place of the work buffer
abbrev pub minis_at : Tables → Bytes → ℕ → ℕ → Minis
minis_at t img units at = record { geometry = t.geometry; units = units; sectors = mini_fat_count img; list = at }

-- the space of mini sectors
abbrev pub minis_of : Minis → Bytes → Space
minis_of t img = mini_space (geometry_of t.geometry) img

-- the list stands behind the marks of the mini sectors
pub record MiniListed (t : Minis) (img : Bytes) (work : List ℕ) : Type 0 where
  pub sized : ImageSized (geometry_of t.geometry) img
  pub counts : MiniCounts (geometry_of t.geometry) img t.units
  pub sectors : t.sectors ≡ mini_fat_count img
  pub small : t.sectors ≤ sector_count (geometry_of t.geometry) img
  pub apart : t.units ≤ t.list
  pub room : t.list + t.sectors ≤ length work
  pub here : (k : ℕ) → k < t.sectors → get_or work (t.list + k) 0 ≡ get_or (mini_fat_sectors (geometry_of t.geometry) img) k 0
  pub below : (k : ℕ) → k < t.sectors → get_or (mini_fat_sectors (geometry_of t.geometry) img) k 0 < sector_count (geometry_of t.geometry) img

-- The cells of the mini sectors have been copied into the work buffer from a place on, if they are right.
pub record MinisCopied (t : Minis) (img : Bytes) (at : ℕ) (before after : List ℕ) (r : Bool) : Type 0 where
  pub answer : r ≡ all_below (minis_of t img).limit (mini_cell_right (minis_of t img))
  pub copied : r ≡ true → CellsCopied (minis_of t img) at after
  pub wrote : Wrote before after at t.units
