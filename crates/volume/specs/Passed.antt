-- What each stage builds on: the groups before it hold, and so stands the work buffer.
use Rattle.std.specs.Prelude.{ℕ, ◌+◌, ◌-◌, ◌*◌, ◌/◌, ◌≤◌, ◌≡◌, Bool, true, false, cond, ◌&&◌, Option, Some, None, Result, Ok, Err, List, [], leb, length}
use Rattle.format.specs.Basics.Lists.{all_below}
use Rattle.format.specs.Basics.Bytes.{Bytes}
use Rattle.format.specs.Layout.Geometry.{Geometry, sector_count}
use Rattle.format.specs.Layout.Header.{mini_fat_count}
use Rattle.format.specs.Layout.Tables.{sector_space}
use Rattle.format.specs.Layout.Volume.{Volume, volume, directory, directory_sectors_of}
use Rattle.format.specs.Rules.Length.{work_need}
use Rattle.format.specs.Rules.Tables.{table_rules}
use Rattle.format.specs.Rules.Cells.{cell_rules}
use Rattle.format.specs.Rules.Directory.{directory_rules}
use Rattle.format.specs.Rules.Entries.{entry_rules}
use Rattle.format.specs.Rules.Trees.{tree_rules}
use Rattle.format.specs.Rules.Mini.{mini_fat_chain, mini_stream_chain, mini_cell_right}
use Rattle.theory.specs.Marks.{Owning, marks_at}
use Rattle.kinds.specs.declared.Geometry.{Geometry as Sizes}
use Rattle.kinds.specs.Sizes.{geometry_of}
use Rattle.header.specs.Sized.{W}
use Rattle.tables.specs.Work.{Wrote}
use Rattle.tables.specs.Views.{volume_of, sector_count_of, cells_of}
use Rattle.tables.specs.Listed.{FatListedAt, FatListed, list_place, tables_of}
use Rattle.tables.specs.declared.Tables.{Tables}
use Rattle.directory.specs.Listed.{DirectoryListed}
use Rattle.directory.specs.declared.Directory.{Directory}
use Rattle.minis.specs.Listed.{MiniListed, minis_at}
use Rattle.minis.specs.declared.Minis.{Minis}
use Rattle.chains.specs.Answers.{CellsCopied}
use Rattle.system_chains.specs.System.{SystemMarkable}
use Rattle.owners.specs.Streams.{minis_in, StreamsMarkable, CellsRight, OnlySystem}
use Rattle.kinds.specs.declared.Refusal.{Refusal}
use Rattle.kinds.specs.declared.Refusal.TheVariants.{Entries, Trees}
use Rattle.volume.specs.declared.mini_stage.System.{System}

-- ---- after group 13

-- the directory has n sectors, and the FAT's sectors stand listed
pub record TablesHold (g : Geometry) (img : Bytes) (work : List ℕ) (n : ℕ) : Type 0 where
  pub listed : FatListedAt g img work (sector_count g img) (list_place img)
  pub whole : W img ≤ length work
  pub tables : table_rules g img ≡ true
  pub cells : cell_rules (sector_space g img) ≡ true
  pub chained : directory_rules (volume g img) ≡ true
  pub count : n ≡ length (directory_sectors_of g img)

-- ---- after groups 14 and 15

unfoldable pub entries_answer : (fields trees : Bool) → Result Unit Refusal
entries_answer fields trees = cond fields (cond trees (Ok tt) (Err Trees)) (Err Entries)

-- their answer, and what was listed before them still is
pub record EntriesLeft (g : Geometry) (img : Bytes) (n : ℕ) (before after : List ℕ) (r : Result Unit Refusal) : Type 0 where
  pub answer : r ≡ entries_answer (entry_rules (directory g img)) (tree_rules (directory g img))
  pub hold : TablesHold g img after n
  pub wrote : Wrote before after 0 (work_need (length img))

-- ---- in group 16

-- the FAT's cells stand at the start of the work buffer without a mark, and the directory's sectors are listed before the FAT's
pub record TablesCopied (t : Tables) (d : Directory) (img : Bytes) (before after : List ℕ) : Type 0 where
  pub fat : FatListed t img after
  pub system : SystemMarkable t d img after
  pub clear : Owning (cells_of t img) (sector_count_of t img) [] (marks_at 0 after) false
  pub room : 9 * (length img / 512) + 2 * sector_count_of t img ≤ d.list
  pub wrote : Wrote before after 0 (work_need (length img))

-- The chains of the mini FAT and of the mini stream are right; the directory's sectors stand listed before the FAT's, and before them there
-- is room for the mini FAT's, the mini stream's, and a mark for each sector and each mini sector.
pub record MiniRoom (t : Tables) (d : Directory) (img : Bytes) (work : List ℕ) : Type 0 where
  pub fat : FatListed t img work
  pub directory : DirectoryListed d img work
  pub same : d.geometry ≡ t.geometry
  pub tables : table_rules (geometry_of t.geometry) img ≡ true
  pub table : mini_fat_chain (volume_of t.geometry img) ≡ true
  pub stream : mini_stream_chain (volume_of t.geometry img) ≡ true
  pub before : d.list + d.sectors ≤ t.list
  pub within : t.list ≤ W img
  pub room : 9 * (length img / 512) + 2 * sector_count_of t img ≤ d.list

-- the rules on the mini FAT's cells below K
unfoldable pub mini_cell_rules : Volume → Bool
mini_cell_rules v = leb v.minis.limit v.minis.cells && all_below v.minis.limit (mini_cell_right v.minis)

abbrev pub TableRight : Tables → Directory → Bytes → List ℕ → Option Minis → Type 0
TableRight t d img work None = mini_cell_rules (volume_of t.geometry img) ≡ false
TableRight t d img work (Some m) =
    (mini_cell_rules (volume_of t.geometry img) ≡ true)
    × ((m ≡ minis_at t img (minis_in t img).limit (d.list - mini_fat_count img)) × (MiniListed m img work × CellsCopied (minis_in t img) (sector_count_of t img) work))

-- ---- after group 16

-- the lists stand one before the other, with room for the mini stream's before them
pub record ListsStand (t : Tables) (d : Directory) (m : Minis) (img : Bytes) (work : List ℕ) : Type 0 where
  pub mini : MiniRoom t d img work
  pub minis : MiniListed m img work
  pub same : m.geometry ≡ t.geometry
  pub before : m.list + m.sectors ≤ d.list
  pub room : 9 * (length img / 512) + sector_count_of t img ≤ m.list

-- and the chains of the system are marked, those of streams not yet; `shared` says whether two of the system's share a sector
pub record SystemMarked (t : Tables) (d : Directory) (m : Minis) (img : Bytes) (work : List ℕ) (shared : Bool) : Type 0 where
  pub lists : ListsStand t d m img work
  pub streams : StreamsMarkable t m d img work
  pub only : OnlySystem t img work shared
  pub cells : CellsRight t img

-- the rules hold and the lists are those of the image's own tables, or one is broken
abbrev pub SystemRight : Sizes → Bytes → Bool → List ℕ → Option System → Type 0
SystemRight g img holds work None = holds ≡ false
SystemRight g img holds work (Some s) =
    (holds ≡ true) × ((s.tables ≡ tables_of g img) × SystemMarked s.tables s.directory s.minis img work s.shared)

pub record SystemLeft (g : Sizes) (img : Bytes) (holds : Bool) (before after : List ℕ) (r : Option System) : Type 0 where
  pub answer : SystemRight g img holds after r
  pub wrote : Wrote before after 0 (work_need (length img))
