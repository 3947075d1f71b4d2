-- What the groups say of a volume, as facts, alike for both spaces: `b` is true for the mini sectors and false for the sectors.
use Rattle.std.specs.Prelude.{ℕ, ◌%◌, ◌≤◌, ◌<◌, ◌≡◌, Bool, true, cond, ◌&&◌, List, [], eqb, ltb, leb, length}
use Rattle.std.specs.Bool.{beq}
use Rattle.format.specs.Rules.Directory.{count_right}
use Rattle.format.specs.Basics.Lists.{list_below}
use Rattle.format.specs.Layout.Need.{cutoff, round_up}
use Rattle.format.specs.Layout.Geometry.{mini_bytes}
use Rattle.format.specs.Layout.Space.{Space}
use Rattle.format.specs.Layout.Entry.{start, is_stream}
use Rattle.format.specs.Layout.Volume.{Volume, system_sectors, root, root_size}
use Rattle.format.specs.Layout.Stream.{stream_units, stream_size}
use Rattle.format.specs.Layout.Chain.{END, start_of}
use Rattle.format.specs.Rules.Cells.{plain_cell, rest_free, cell_rules}
use Rattle.format.specs.Rules.Entries.{entry_rules}
use Rattle.format.specs.Rules.Trees.{tree_rules}
use Rattle.theory.specs.Links.{Linked}
use Rattle.theory.specs.Owned.{Owned}

abbrev pub space_of : Volume → Bool → Space
space_of v b = cond b v.minis v.sectors

abbrev pub system_of : Volume → Bool → List ℕ
system_of v b = cond b [] (system_sectors v)

-- the space that the stream of entry i lies in
abbrev pub side_of : Volume → ℕ → Bool
side_of v i = ltb (stream_size v i) cutoff

-- the units of the space b that entry i has
unfoldable pub units_of : Volume → Bool → ℕ → List ℕ
units_of v b i = cond (is_stream (v.directory.entry i) && beq b (side_of v i)) (stream_units v i) []

-- the units of each entry
unfoldable pub entry_units : Volume → Bool → List (List ℕ)
entry_units v b = list_below v.directory.count (units_of v b)

-- a chain of these units, from a start, of a number of units
pub record Chain (sp : Space) (us : List ℕ) (start number : ℕ) : Type 0 where
  pub linked : Linked sp.cell sp.limit us
  pub head : start_of us ≡ start
  pub long : length us ≡ number

pub record Good (v : Volume) : Type 0 where
  pub lim : (b : Bool) → (space_of v b).limit ≤ END
  pub unit : (b : Bool) → 0 < (space_of v b).unit
  -- groups 12, 14, 15
  pub cells : cell_rules v.sectors ≡ true
  pub entries : entry_rules v.directory ≡ true
  pub trees : tree_rules v.directory ≡ true
  -- 13
  pub directory : Chain v.sectors v.directory_sectors v.directory_start (length v.directory_sectors)
  pub directory_long : leb 1 (length v.directory_sectors) ≡ true
  pub directory_counted : count_right v ≡ true
  -- 16
  pub mini_fat : Chain v.sectors v.mini_fat v.mini_fat_start v.mini_fat_count
  pub mini_stream : Chain v.sectors v.mini_stream (start (root v)) (round_up (root_size v) v.sectors.unit)
  pub root_size : eqb (root_size v % mini_bytes) 0 ≡ true
  pub mini_table : leb v.minis.limit v.minis.cells ≡ true
  pub mini_cells : (m : ℕ) → m < v.minis.limit → plain_cell v.minis (v.minis.cell m) ≡ true
  pub mini_rest : rest_free v.minis ≡ true
  -- 17
  pub chains : (i : ℕ) → i < v.directory.count → is_stream (v.directory.entry i) ≡ true
      → Chain (space_of v (side_of v i)) (stream_units v i) (start (v.directory.entry i))
      (round_up (stream_size v i) (space_of v (side_of v i)).unit)
  -- 11 and 18
  pub owned : (b : Bool) → Owned (space_of v b).limit (system_of v b) (space_of v b).cell (entry_units v b)
