-- The chains of all streams are marked beside those of the system.
use Rattle.std.specs.Prelude.{ℕ, ◌≡◌, Bool, true, cond, ◌&&◌, List, ◌++◌, length}
use Rattle.format.specs.Basics.Bytes.{Bytes}
use Rattle.format.specs.Basics.Lists.{join_below}
use Rattle.format.specs.Layout.Geometry.{Geometry}
use Rattle.format.specs.Layout.Volume.{Volume, volume}
use Rattle.format.specs.Rules.Length.{work_need}
use Rattle.format.specs.Rules.Owners.{own_sectors, owned_minis}
use Rattle.format.specs.Rules.Streams.{stream_rules}
use Rattle.format.specs.Calls.RepairSteps.{tables_hold, directory_holds, entries_hold, unowned_freed}
use Rattle.kinds.specs.Sizes.{geometry_of}
use Rattle.tables.specs.Work.{Wrote}
use Rattle.tables.specs.Views.{volume_of, sector_count_of}
use Rattle.minis.specs.Listed.{minis_of}
use Rattle.system_chains.specs.System.{system_chains}
use Rattle.volume.specs.Passed.{ListsStand}
use Rattle.volume.specs.declared.mini_stage.System.{System}
use Rattle.repair_writes.specs.Cells.{MarksSay}

-- groups 10 to 16 but for the mini FAT's cells from K on
abbrev pub system_holds : Geometry → Bytes → Bool
system_holds g img = tables_hold g img && directory_holds (volume g img) && entries_hold (volume g img)

-- the sectors of all chains: the system's and the streams'
abbrev pub chain_sectors : Geometry → Bytes → List ℕ
chain_sectors g img = system_chains g img ++ join_below (volume g img).directory.count (own_sectors (volume g img))

-- the lists stand, and the marks are those of all chains
pub record StreamsMarked (s : System) (img : Bytes) (work : List ℕ) : Type 0 where
  pub lists : ListsStand s.tables s.directory s.minis img work
  pub sectors : MarksSay work 0 (sector_count_of s.tables img) (chain_sectors (geometry_of s.tables.geometry) img)
  pub minis : MarksSay work (sector_count_of s.tables img) (minis_of s.minis img).limit (owned_minis (volume_of s.minis.geometry img))

-- group 17's answer, and that they are marked where it holds
pub record StreamsLeft (s : System) (img : Bytes) (before after : List ℕ) (r : Bool) : Type 0 where
  pub answer : r ≡ stream_rules (volume_of s.tables.geometry img)
  pub marked : r ≡ true → StreamsMarked s img after
  pub wrote : Wrote before after 0 (work_need (length img))

-- what is left of the fourth step where groups 10 to 16 hold
abbrev pub streams_freed : Volume → Bytes → Bytes
streams_freed v img = cond (stream_rules v) (unowned_freed v img) img
