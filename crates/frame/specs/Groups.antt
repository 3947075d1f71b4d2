-- What acceptance says, group by group.
use Rattle.std.specs.Prelude.{◌≡◌, true, length}
use Rattle.format.specs.Basics.Bytes.{Bytes}
use Rattle.format.specs.Layout.Geometry.{Geometry}
use Rattle.format.specs.Layout.Volume.{Volume, volume}
use Rattle.format.specs.Rules.Length.{length_allowed}
use Rattle.format.specs.Rules.Header.{header_rules}
use Rattle.format.specs.Rules.Tables.{table_rules}
use Rattle.format.specs.Rules.Cells.{cell_rules}
use Rattle.format.specs.Rules.Directory.{directory_rules}
use Rattle.format.specs.Rules.Entries.{entry_rules}
use Rattle.format.specs.Rules.Trees.{tree_rules}
use Rattle.format.specs.Rules.Mini.{mini_rules}
use Rattle.format.specs.Rules.Streams.{stream_rules}
use Rattle.format.specs.Rules.Owners.{owner_rules}

-- groups 12 to 18
pub record VolumeGroups (v : Volume) : Type 0 where
  pub cells : cell_rules v.sectors ≡ true
  pub directory : directory_rules v ≡ true
  pub entries : entry_rules v.directory ≡ true
  pub trees : tree_rules v.directory ≡ true
  pub minis : mini_rules v ≡ true
  pub chains : stream_rules v ≡ true
  pub owners : owner_rules v ≡ true

-- the length, and groups 10 to 18
pub record ImageGroups (g : Geometry) (img : Bytes) : Type 0 where
  pub allowed : length_allowed g (length img) ≡ true
  pub header : header_rules g img ≡ true
  pub tables : table_rules g img ≡ true
  pub volume : VolumeGroups (volume g img)
