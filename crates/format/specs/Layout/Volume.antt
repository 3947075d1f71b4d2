-- All that groups 12 to 18 look at, and all that a call looks up, read off an image.
use Rattle.std.specs.Prelude.{ℕ, ◌*◌, ◌/◌, List, ◌++◌, length}
use Rattle.format.specs.Basics.Bytes.{Bytes}
use Rattle.format.specs.Layout.Geometry.{Geometry, mini_bytes, place_in, cells_in}
use Rattle.format.specs.Layout.Chain.{units}
use Rattle.format.specs.Layout.Space.{Space, units_for}
use Rattle.format.specs.Layout.Header.{directory_count, directory_start, mini_fat_start, mini_fat_count}
use Rattle.format.specs.Layout.Tables.{cell_place_in, cell_in, fat_cell, fat_sectors, difat_sectors, sector_space}
use Rattle.format.specs.Layout.Entry.{start}
use Rattle.format.specs.Layout.Directory.{Directory, directory_sectors, directory_of, entry_place, size_of}

-- ---- the parts

unfoldable pub directory_sectors_of : Geometry → Bytes → List ℕ
directory_sectors_of g img = directory_sectors (sector_space g img) (directory_start img)

unfoldable pub directory : Geometry → Bytes → Directory
directory g img = let sectors = directory_sectors_of g img in directory_of g img sectors

unfoldable pub mini_fat_sectors : Geometry → Bytes → List ℕ
mini_fat_sectors g img = units (fat_cell g img) (mini_fat_count img) (mini_fat_start img)

-- the sectors that hold the mini stream: the root's size and start say where it is
unfoldable pub mini_stream_sectors : Geometry → Bytes → List ℕ
mini_stream_sectors g img =
    let d = directory g img in
    units_for (sector_space g img) (size_of d 0) (start (d.entry 0))

unfoldable pub mini_cells : Geometry → Bytes → ℕ
mini_cells g img = cells_in g * mini_fat_count img

-- the space of mini sectors: K of them, one after the other in the mini stream
unfoldable pub mini_space : Geometry → Bytes → Space
mini_space g img =
    let table = mini_fat_sectors g img in
    let stream = mini_stream_sectors g img in
    record {
      limit = size_of (directory g img) 0 / mini_bytes;
      cells = mini_cells g img;
      unit = mini_bytes;
      cell = cell_in g img table (mini_cells g img);
      cell_place = cell_place_in g table;
      unit_place = λ m. place_in g stream (mini_bytes * m);
    }

-- ---- the whole

pub record Volume : Type 0 where
  pub geometry : Geometry
  pub sectors : Space
  pub minis : Space
  -- the system's sectors
  pub fat : List ℕ
  pub difat : List ℕ
  pub directory_sectors : List ℕ
  pub mini_fat : List ℕ
  pub mini_stream : List ℕ
  -- what the header says of the directory and of the mini FAT
  pub directory_count : ℕ
  pub directory_start : ℕ
  pub mini_fat_start : ℕ
  pub mini_fat_count : ℕ
  -- the directory, and the byte where each entry starts
  pub directory : Directory
  pub entry_place : ℕ → ℕ

unfoldable pub volume : Geometry → Bytes → Volume
volume g img =
    record {
      geometry = g;
      sectors = sector_space g img;
      minis = mini_space g img;
      fat = fat_sectors g img;
      difat = difat_sectors g img;
      directory_sectors = directory_sectors_of g img;
      mini_fat = mini_fat_sectors g img;
      mini_stream = mini_stream_sectors g img;
      directory_count = directory_count img;
      directory_start = directory_start img;
      mini_fat_start = mini_fat_start img;
      mini_fat_count = mini_fat_count img;
      directory = directory g img;
      entry_place = entry_place g (directory_sectors_of g img);
    }

unfoldable pub root : Volume → Bytes
root v = v.directory.entry 0

unfoldable pub root_size : Volume → ℕ
root_size v = size_of v.directory 0

-- the sectors of the system, all together
unfoldable pub system_sectors : Volume → List ℕ
system_sectors v = v.fat ++ v.difat ++ v.directory_sectors ++ v.mini_fat ++ v.mini_stream

-- 01's "fixed number" of sectors
unfoldable pub fixed_number : Volume → ℕ
fixed_number v = length (system_sectors v)
