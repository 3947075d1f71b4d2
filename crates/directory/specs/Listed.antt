-- The directory's sectors stand listed in the work buffer, so that every entry can be looked up at once.
use Rattle.std.specs.Prelude.{ℕ, ◌+◌, ◌*◌, ◌/◌, ◌%◌, ◌≤◌, ◌<◌, ◌≡◌, List, length, get_or}
use Rattle.format.specs.Basics.Bytes.{Bytes}
use Rattle.format.specs.Layout.Geometry.{sector_count, sector_place, entries_in}
use Rattle.format.specs.Layout.Directory.{Directory}
use Rattle.format.specs.Layout.Volume.{directory_sectors_of, directory}
use Rattle.kinds.specs.Sizes.{geometry_of}
use Rattle.header.specs.Sized.{ImageSized}
use Rattle.tables.specs.declared.Tables.{Tables}
use Rattle.entries.specs.Entry.{Named}
use Rattle.directory.specs.declared.Directory.{Directory as Where}

-- the entries of the image
abbrev pub entries_of : Where → Bytes → Directory
entries_of d img = directory (geometry_of d.geometry) img

abbrev pub count_of : Where → ℕ
count_of d = entries_in (geometry_of d.geometry) * d.sectors

-- the byte where entry x starts, by the list
abbrev pub place_of : Where → List ℕ → ℕ → ℕ
place_of d work x =
    let g = geometry_of d.geometry in
    sector_place g (get_or work (d.list + x / entries_in g) 0) + 128 * (x % entries_in g)

-- the list of n sectors at a place of the work buffer
abbrev pub directory_at : Tables → ℕ → ℕ → Where
directory_at t n at = record { geometry = t.geometry; sectors = n; list = at }

-- an entry whose sector stands in the list
pub record Placed (d : Where) (work : List ℕ) (x : ℕ) : Type 0 where
  pub wide : 512 ≤ d.geometry.bytes
  pub narrow : d.geometry.bytes ≤ 4096
  pub room : d.list + d.sectors ≤ length work
  pub inside : x / entries_in (geometry_of d.geometry) < d.sectors

pub record DirectoryListed (d : Where) (img : Bytes) (work : List ℕ) : Type 0 where
  pub sized : ImageSized (geometry_of d.geometry) img
  pub count : d.sectors ≡ length (directory_sectors_of (geometry_of d.geometry) img)
  pub some : 0 < d.sectors
  pub few : d.sectors ≤ sector_count (geometry_of d.geometry) img
  pub room : d.list + d.sectors ≤ length work
  pub here : (k : ℕ) → k < d.sectors → get_or work (d.list + k) 0 ≡ get_or (directory_sectors_of (geometry_of d.geometry) img) k 0
  pub below : (k : ℕ) → k < d.sectors → get_or (directory_sectors_of (geometry_of d.geometry) img) k 0 < sector_count (geometry_of d.geometry) img

-- an entry whose name lies in its place
pub record NamedIn (e : Directory) (x : ℕ) : Type 0 where
  pub inside : x < e.count
  pub named : Named (e.entry x)

-- what group 14 says of names: every name but the root's lies in its place
pub record Ruled (e : Directory) : Type 0 where
  pub names : (x : ℕ) → 0 < x → x < e.count → NamedIn e x
