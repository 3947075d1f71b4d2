-- The views of an image that contracts cite, by the sizes and by the tables that code hands on.
use Rattle.std.specs.Prelude.{ℕ}
use Rattle.format.specs.Basics.Bytes.{Bytes}
use Rattle.format.specs.Layout.Geometry.{sector_count}
use Rattle.format.specs.Layout.Space.{Space}
use Rattle.format.specs.Layout.Tables.{fat_cell, sector_space}
use Rattle.format.specs.Layout.Volume.{Volume, volume}
use Rattle.kinds.specs.declared.Geometry.{Geometry as Sizes}
use Rattle.kinds.specs.Sizes.{geometry_of}
use Rattle.tables.specs.declared.Tables.{Tables}

abbrev pub volume_of : Sizes → Bytes → Volume
volume_of g img = volume (geometry_of g) img

-- N, the cell of each sector, and the space of sectors
abbrev pub sector_count_of : Tables → Bytes → ℕ
sector_count_of t img = sector_count (geometry_of t.geometry) img

abbrev pub cells_of : Tables → Bytes → ℕ → ℕ
cells_of t img = fat_cell (geometry_of t.geometry) img

abbrev pub sectors_of : Tables → Bytes → Space
sectors_of t img = sector_space (geometry_of t.geometry) img
