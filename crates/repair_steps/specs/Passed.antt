-- What the second and the third step are called with: the groups before hold, and the FAT's sectors stand listed.
use Rattle.std.specs.Prelude.{ℕ, ◌≤◌, ◌≡◌, true, List, length}
use Rattle.format.specs.Basics.Bytes.{Bytes}
use Rattle.format.specs.Layout.Geometry.{Geometry, sector_count}
use Rattle.format.specs.Layout.Volume.{volume}
use Rattle.format.specs.Calls.RepairSteps.{tables_hold, directory_holds}
use Rattle.header.specs.Sized.{W}
use Rattle.tables.specs.Listed.{FatListedAt, list_place}
use Rattle.volume.specs.Passed.{TablesHold}

-- groups 10 and 11
pub record TablesPassed (g : Geometry) (img : Bytes) (work : List ℕ) : Type 0 where
  pub listed : FatListedAt g img work (sector_count g img) (list_place img)
  pub whole : W img ≤ length work
  pub tables : tables_hold g img ≡ true

-- and 12 and 13; the directory has n sectors
pub record DirectoryPassed (g : Geometry) (img : Bytes) (work : List ℕ) (n : ℕ) : Type 0 where
  pub tables : tables_hold g img ≡ true
  pub directory : directory_holds (volume g img) ≡ true
  pub hold : TablesHold g img work n
