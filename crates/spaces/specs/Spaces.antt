-- The two kinds of unit: their spaces, and the places that the lists in the work buffer give.
use Rattle.std.specs.Prelude.{ℕ, ◌+◌, ◌*◌, ◌/◌, ◌%◌, ◌≤◌, ◌<◌, cond, List, ltb, length, get_or}
use Rattle.format.specs.Basics.Bytes.{Bytes}
use Rattle.format.specs.Layout.Geometry.{Geometry, sector_place, mini_bytes}
use Rattle.format.specs.Layout.Need.{cutoff}
use Rattle.format.specs.Layout.Chain.{FREE}
use Rattle.format.specs.Layout.Space.{Space}
use Rattle.format.specs.Layout.Volume.{Volume, volume}
use Rattle.kinds.specs.Sizes.{geometry_of}
use Rattle.volume.specs.declared.Volume.{Volume as Opened}
use Rattle.spaces.specs.declared.Kind.{Kind}
use Rattle.spaces.specs.declared.Kind.TheVariants.{Sectors, Minis}

-- the kind of unit that a stream of n bytes lies in
unfoldable pub kind_for : ℕ → Kind
kind_for n = cond (ltb n cutoff) Minis Sectors

-- ---- the spaces of an opened volume

-- the volume that an image is
abbrev pub volume_in : Opened → Bytes → Volume
volume_in v img = volume (geometry_of v.tables.geometry) img

-- a kind's space of a volume
abbrev pub space_in : Volume → Kind → Space
space_in vol Sectors = vol.sectors
space_in vol Minis = vol.minis

-- and of an image
abbrev pub space_at : Opened → Bytes → Kind → Space
space_at v img kind = space_in (volume_in v img) kind

-- ---- sizes, with no look at the image

-- how many bytes a unit has
abbrev pub unit_bytes : Opened → Kind → ℕ
unit_bytes v Sectors = v.tables.geometry.bytes
unit_bytes v Minis = mini_bytes

-- how many units there are
abbrev pub unit_count : Opened → Kind → ℕ
unit_count v Sectors = v.tables.sectors
unit_count v Minis = v.minis.units

-- ---- places by the lists

-- the byte of the image that is byte i of what the sectors of a list hold, laid end to end
unfoldable pub listed_place : Geometry → List ℕ → ℕ → ℕ → ℕ
listed_place g work list i = sector_place g (get_or work (list + i / g.sector_bytes) 0) + i % g.sector_bytes

-- where a kind's table is listed
abbrev pub cell_list : Opened → Kind → ℕ
cell_list v Sectors = v.tables.list
cell_list v Minis = v.minis.list

-- the byte where a unit starts
abbrev pub listed_unit : Opened → List ℕ → Kind → ℕ → ℕ
listed_unit v work Sectors u = sector_place (geometry_of v.tables.geometry) u
listed_unit v work Minis u = listed_place (geometry_of v.tables.geometry) work v.stream (64 * u)

-- A kind's space as an opened volume has it in hand, with no look at the image. It is a whole `Space` because `format`'s writes take one, and
-- these go by the places alone. The cells stand in the image and nowhere else, so they are left out: here each is free.
abbrev pub listed_space : Opened → List ℕ → Kind → Space
listed_space v work kind =
    record {
      limit = unit_count v kind;
      cells = 0;
      unit = unit_bytes v kind;
      cell = λ u. FREE;
      cell_place = λ u. listed_place (geometry_of v.tables.geometry) work (cell_list v kind) (4 * u);
      unit_place = listed_unit v work kind;
    }

-- the sector that holds a unit's cell stands in the list
pub record CellListed (v : Opened) (work : List ℕ) (kind : Kind) (u : ℕ) : Type 0 where
  pub wide : 512 ≤ v.tables.geometry.bytes
  pub narrow : v.tables.geometry.bytes ≤ 4096
  pub here : cell_list v kind + 4 * u / v.tables.geometry.bytes < length work

-- and so does the one that holds a mini sector; a sector needs no list
abbrev pub StreamListed : Opened → List ℕ → Kind → ℕ → Type 0
StreamListed v work Sectors u = Unit {0}
StreamListed v work Minis u = v.stream + 64 * u / v.tables.geometry.bytes < length work

pub record UnitListed (v : Opened) (work : List ℕ) (kind : Kind) (u : ℕ) : Type 0 where
  pub wide : 512 ≤ v.tables.geometry.bytes
  pub narrow : v.tables.geometry.bytes ≤ 4096
  pub here : StreamListed v work kind u
