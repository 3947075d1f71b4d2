-- What can be written: units whose cells and bytes have places by the lists in the work buffer and lie in the image, and such an entry.
use Rattle.std.specs.Prelude.{ℕ, ◌+◌, ◌≤◌, ◌<◌, List, length, get_or}
use Rattle.directory.specs.Listed.{Placed, place_of}
use Rattle.directory.specs.declared.Directory.{Directory}
use Rattle.volume.specs.declared.Volume.{Volume as Opened}
use Rattle.spaces.specs.declared.Kind.{Kind}
use Rattle.spaces.specs.Spaces.{unit_bytes, listed_space, CellListed, UnitListed}

-- the first n units that stand in the work buffer can be written: their cells and bytes lie in an image of len bytes
pub record Writable (v : Opened) (work : List ℕ) (kind : Kind) (len n : ℕ) : Type 0 where
  pub room : n ≤ length work
  pub short : len < 0x1_0000_0000
  pub some : 0 < unit_bytes v kind
  pub cells : (j : ℕ) → j < n → CellListed v work kind (get_or work j 0)
  pub cell_room : (j : ℕ) → j < n → (listed_space v work kind).cell_place (get_or work j 0) + 4 ≤ len
  pub units : (j : ℕ) → j < n → UnitListed v work kind (get_or work j 0)
  pub unit_room : (j : ℕ) → j < n → (listed_space v work kind).unit_place (get_or work j 0) + unit_bytes v kind ≤ len

-- the entry has a place by the list in the work buffer, and lies in an image of len bytes
pub record EntryRoom (d : Directory) (work : List ℕ) (x len : ℕ) : Type 0 where
  pub placed : Placed d work x
  pub inside : place_of d work x + 128 ≤ len
