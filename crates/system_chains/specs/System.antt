-- The chains that the system has, and the lists that the walks along them need.
use Rattle.std.specs.Prelude.{ℕ, ◌≤◌, ◌≡◌, Bool, ◌&&◌, Option, List, ◌++◌}
use Rattle.format.specs.Basics.Bytes.{Bytes}
use Rattle.format.specs.Layout.Geometry.{Geometry}
use Rattle.format.specs.Layout.Volume.{Volume, directory_sectors_of, mini_fat_sectors, mini_stream_sectors}
use Rattle.format.specs.Rules.Mini.{mini_fat_chain, mini_stream_chain}
use Rattle.theory.specs.Marks.{Owning, marks_at}
use Rattle.kinds.specs.Sizes.{geometry_of}
use Rattle.tables.specs.Views.{volume_of, sector_count_of, cells_of, sectors_of}
use Rattle.tables.specs.declared.Tables.{Tables}
use Rattle.header.specs.Sized.{ImageSized}
use Rattle.chains.specs.Answers.{Markable, ChainsMarked}
use Rattle.directory.specs.Listed.{DirectoryListed}
use Rattle.directory.specs.declared.Directory.{Directory}

-- chains of sectors may be marked: their numbers stand at the start of the work buffer
pub record SectorsMarkable (t : Tables) (img : Bytes) (work : List ℕ) : Type 0 where
  pub sized : ImageSized (geometry_of t.geometry) img
  pub count : t.sectors ≡ sector_count_of t img
  pub units : Markable (sectors_of t img) 0 work

-- and the directory's sectors stand listed behind them
pub record SystemMarkable (t : Tables) (d : Directory) (img : Bytes) (work : List ℕ) : Type 0 where
  pub sectors : SectorsMarkable t img work
  pub directory : DirectoryListed d img work
  pub same : d.geometry ≡ t.geometry
  pub behind : sector_count_of t img ≤ d.list

-- the units of the chains: the directory's, the mini FAT's, the mini stream's
abbrev pub system_chains : Geometry → Bytes → List ℕ
system_chains g img = (directory_sectors_of g img ++ mini_fat_sectors g img) ++ mini_stream_sectors g img

-- the two whose chains group 16 judges are right
abbrev pub system_right : Volume → Bool
system_right v = mini_fat_chain v && mini_stream_chain v

-- all of them have been marked
abbrev pub SystemWalked : Tables → Bytes → List ℕ → List ℕ → Option Bool → Type 0
SystemWalked t img before after a =
    ChainsMarked (sectors_of t img) 0 (system_right (volume_of t.geometry img)) (system_chains (geometry_of t.geometry) img) before after a

-- and own their sectors; `shared` says whether two of them share one
abbrev pub SystemOwned : Tables → Bytes → List ℕ → Bool → Type 0
SystemOwned t img work shared = Owning (cells_of t img) (sector_count_of t img) (system_chains (geometry_of t.geometry) img) (marks_at 0 work) shared
