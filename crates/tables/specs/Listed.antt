-- The FAT's sectors stand listed in the work buffer, so that every cell can be looked up at once.
use Rattle.std.specs.Prelude.{ℕ, ◌+◌, ◌-◌, ◌*◌, ◌/◌, ◌≤◌, ◌<◌, ◌≡◌, List, length, get_or}
use Rattle.format.specs.Basics.Bytes.{Bytes}
use Rattle.format.specs.Layout.Geometry.{Geometry, sector_count, cells_in}
use Rattle.format.specs.Layout.Tables.{difat_entry}
use Rattle.kinds.specs.declared.Geometry.{Geometry as Sizes}
use Rattle.kinds.specs.Sizes.{geometry_of}
use Rattle.header.specs.Sized.{ImageSized, F, D, W}
use Rattle.tables.specs.Words.{sector_for}
use Rattle.tables.specs.declared.Tables.{Tables}

-- n is N; the list starts at a place behind the marks of the sectors
pub record FatListedAt (g : Geometry) (img : Bytes) (work : List ℕ) (n list : ℕ) : Type 0 where
  pub sized : ImageSized g img
  pub count : n ≡ sector_count g img
  pub apart : sector_count g img ≤ list
  pub room : list + F img ≤ length work
  pub covers : sector_count g img ≤ cells_in g * F img
  pub few : F img + D img ≤ sector_count g img
  pub fats : (k : ℕ) → k < F img → get_or work (list + k) 0 ≡ difat_entry g img k
  pub below : (k : ℕ) → k < F img → difat_entry g img k < sector_count g img

-- the list is where the tables say
abbrev pub FatListed : Tables → Bytes → List ℕ → Type 0
FatListed t img work = FatListedAt (geometry_of t.geometry) img work t.sectors t.list

-- the sectors of the first n cells of any table stand listed from a place on, each one that there is
pub record TableListed (g : Geometry) (img : Bytes) (work : List ℕ) (list n : ℕ) : Type 0 where
  pub sized : ImageSized g img
  pub room : (i : ℕ) → i < n → list + i / cells_in g < length work
  pub below : (i : ℕ) → i < n → sector_for g work list i < sector_count g img

-- where the list of table sectors starts: it ends with the part of the work buffer that is ours
abbrev pub list_place : Bytes → ℕ
list_place img = W img - (F img + D img)

abbrev pub tables_of : Sizes → Bytes → Tables
tables_of g img = record { geometry = g; sectors = sector_count (geometry_of g) img; list = list_place img }
