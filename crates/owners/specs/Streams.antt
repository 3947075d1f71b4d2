-- The streams of both spaces: marking their chains, and the answer on owners.
use Rattle.std.specs.Prelude.{ℕ, ◌+◌, ◌≤◌, ◌≡◌, Bool, true, false, not, cond, ◌&&◌, ◌||◌, Option, Result, Ok, Err, List, [], ◌++◌}
use Rattle.format.specs.Basics.Bytes.{Bytes}
use Rattle.format.specs.Basics.Lists.{all_below, join_below}
use Rattle.format.specs.Layout.Space.{Space}
use Rattle.format.specs.Layout.Tables.{fat_sectors, difat_sectors}
use Rattle.format.specs.Layout.Volume.{mini_space}
use Rattle.format.specs.Rules.Tables.{table_rules}
use Rattle.format.specs.Rules.Cells.{cell_rules}
use Rattle.format.specs.Rules.Mini.{mini_cell_right}
use Rattle.format.specs.Rules.Streams.{stream_rules}
use Rattle.format.specs.Rules.Owners.{own_sectors, owned_minis}
use Rattle.theory.specs.Marks.{Owning, covered, marks_at}
use Rattle.kinds.specs.Sizes.{geometry_of}
use Rattle.tables.specs.Work.{Wrote}
use Rattle.tables.specs.Views.{volume_of, sector_count_of, cells_of, sectors_of}
use Rattle.tables.specs.declared.Tables.{Tables}
use Rattle.chains.specs.Answers.{is_broken, is_shared, Markable}
use Rattle.directory.specs.Listed.{DirectoryListed}
use Rattle.directory.specs.declared.Directory.{Directory}
use Rattle.stream_chains.specs.Asked.{right_from, sectors_from, minis_from}
use Rattle.minis.specs.declared.Minis.{Minis}
use Rattle.system_chains.specs.System.{SectorsMarkable, SystemOwned}
use Rattle.kinds.specs.declared.Refusal.{Refusal}
use Rattle.kinds.specs.declared.Refusal.TheVariants.{Streams, Owners}

-- ---- marking

-- the mini sectors of the image
abbrev pub minis_in : Tables → Bytes → Space
minis_in t img = mini_space (geometry_of t.geometry) img

-- Chains of both kinds may be marked: the numbers of the sectors stand at the start of the work buffer, those of the mini sectors behind them, and
-- behind these the directory's sectors are listed.
pub record StreamsMarkable (t : Tables) (m : Minis) (d : Directory) (img : Bytes) (work : List ℕ) : Type 0 where
  pub sectors : SectorsMarkable t img work
  pub minis : Markable (minis_in t img) (sector_count_of t img) work
  pub units : m.units ≡ (minis_in t img).limit
  pub directory : DirectoryListed d img work
  pub same : d.geometry ≡ t.geometry
  pub behind : sector_count_of t img + (minis_in t img).limit ≤ d.list

-- what marking chains of a space says of its owners: `own` are owned too, and `shared` says whether one of these has another owner
abbrev pub Owns : Space → (at : ℕ) → (own : List ℕ) → (shared : Bool) → (before after : List ℕ) → Type 0
Owns sp at own shared before after =
    (owned : List ℕ) (s : Bool) → Owning sp.cell sp.limit owned (marks_at at before) s
    → Owning sp.cell sp.limit (owned ++ own) (marks_at at after) (s || shared)

-- the same of both spaces
pub record BothOwn (t : Tables) (img : Bytes) (sectors minis before after : List ℕ) (shared : Bool) : Type 0 where
  pub large : Bool
  pub small : Bool
  pub either : shared ≡ (large || small)
  pub in_sectors_lem : Owns (sectors_of t img) 0 sectors large before after
  pub in_minis_lem : Owns (minis_in t img) (sector_count_of t img) minis small before after

-- Chains of both kinds have been marked: `right` says whether all of them are chains, `sectors` and `minis` are their units.
pub record BothMarked (t : Tables) (m : Minis) (d : Directory) (img : Bytes) (right : Bool) (sectors minis before after : List ℕ) (a : Option Bool) : Type 0 where
  pub answer : is_broken a ≡ not right
  pub stands : right ≡ true → StreamsMarkable t m d img after
  pub owners : right ≡ true → BothOwn t img sectors minis before after (is_shared a)
  pub wrote : Wrote before after 0 (sector_count_of t img + (minis_in t img).limit)

-- the chains of the streams among n entries from x on have been marked; and those of all entries
abbrev pub BlockMarked : Tables → Minis → Directory → Bytes → (x n : ℕ) → List ℕ → List ℕ → Option Bool → Type 0
BlockMarked t m d img x n before after a =
    let v = volume_of t.geometry img in
    BothMarked t m d img (all_below n (right_from v x)) (join_below n (sectors_from v x)) (join_below n (minis_from v x)) before after a

abbrev pub StreamsMarked : Tables → Minis → Directory → Bytes → List ℕ → List ℕ → Option Bool → Type 0
StreamsMarked t m d img before after a =
    let v = volume_of t.geometry img in
    BothMarked t m d img (stream_rules v) (join_below v.directory.count (own_sectors v)) (owned_minis v) before after a

-- ---- owners

-- the cells are right: groups 11 and 12, and the rules on the mini FAT's cells
pub record CellsRight (t : Tables) (img : Bytes) : Type 0 where
  pub tables : table_rules (geometry_of t.geometry) img ≡ true
  pub sectors : cell_rules (sectors_of t img) ≡ true
  pub minis : all_below (minis_in t img).limit (mini_cell_right (minis_in t img)) ≡ true

-- the tables' own sectors
abbrev pub table_sectors_of : Tables → Bytes → List ℕ
table_sectors_of t img = fat_sectors (geometry_of t.geometry) img ++ difat_sectors (geometry_of t.geometry) img

-- group 18 has nothing against any unit
abbrev pub all_covered : Tables → Bytes → List ℕ → Bool
all_covered t img work =
    all_below (sector_count_of t img) (covered (cells_of t img) (marks_at 0 work) (table_sectors_of t img))
    && all_below (minis_in t img).limit (covered (minis_in t img).cell (marks_at (sector_count_of t img) work) [])

-- the system's chains are marked, and no chain of mini sectors
pub record OnlySystem (t : Tables) (img : Bytes) (work : List ℕ) (shared : Bool) : Type 0 where
  pub sectors : SystemOwned t img work shared
  pub minis : Owning (minis_in t img).cell (minis_in t img).limit [] (marks_at (sector_count_of t img) work) false

-- the answer: a stream's chain is wrong; or a unit has two owners, or none though its cell is not free; or neither
unfoldable pub owners_answer : Bool → Bool → Result Unit Refusal
owners_answer chains owners = cond chains (cond owners (Ok tt) (Err Owners)) (Err Streams)
