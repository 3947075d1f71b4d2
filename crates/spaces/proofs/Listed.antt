-- Where a volume is ready, the lists reach every unit of either kind, and the places that they give are those of its space.
use Prim.Native.Nat.{ℕ, ◌+◌, ◌*◌, ◌/◌, ◌≤◌, ◌<◌}
use mathlib.Core.Path.{◌≡◌, refl, sym, ◌∙◌, ap}
use mathlib.Core.List.{List}
use native.Mathlib.Nat.{mul_comm}
use native.Mathlib.Omega.{arith}
use lib.ListN.{length, get_or}
use Rattle.format.specs.Basics.Bytes.{Bytes}
use Rattle.format.specs.Layout.Geometry.{Geometry, sector_count, place_in, cells_in, mini_bytes}
use Rattle.format.specs.Layout.Header.{fat_count}
use Rattle.format.specs.Layout.Tables.{difat_entry, cell_place_in, fat_sectors, sector_space}
use Rattle.format.specs.Layout.Volume.{volume, mini_space, mini_fat_sectors}
use Rattle.theory.proofs.Below.{get_or_below}
use Rattle.frame.proofs.Places.{thing_fits, thing_index}
use Rattle.frame.proofs.Blocks.{Units}
use Rattle.kinds.specs.Sizes.{geometry_of}
use Rattle.header.specs.Sized.{ImageSized, F}
use Rattle.tables.proofs.Places.{sector_inside, cells_bytes}
use Rattle.volume.specs.Opened.{Readied}
use Rattle.volume.specs.declared.Volume.{Volume as Opened}
use Rattle.spaces.specs.Spaces.{space_at, unit_bytes, unit_count, listed_place, listed_space, CellListed, UnitListed}
use Rattle.spaces.specs.declared.Kind.{Kind}
use Rattle.spaces.specs.declared.Kind.TheVariants.{Sectors, Minis}
use Rattle.spaces.proofs.Stands.{sectors_stand, minis_stand, minis_same, sector_cell, mini_cell_lem, mini_listed, mini_place_is}

-- things of w bytes in the sectors of a list
module _ {g : Geometry} {img : Bytes} (z : ImageSized g img) (w c : ℕ) (e : g.sector_bytes ≡ c * w) (secs work : List ℕ) (list n : ℕ)
    (here : (k : ℕ) → k < n → get_or work (list + k) 0 ≡ get_or secs k 0) (below : (k : ℕ) → k < n → get_or secs k 0 < sector_count g img) (u : ℕ) (h : u < c * n) where
  some : 0 < g.sector_bytes
  some = let w = z.wide in omega arith

  index : w * u / g.sector_bytes < n
  index = thing_index g.sector_bytes w c e some n u h

  pub thing_listed : list + n ≤ length work → list + w * u / g.sector_bytes < length work
  thing_listed r = omega (arith, index)

  pub thing_place : listed_place g work list (w * u) ≡ place_in g secs (w * u)
  unfolding listed_place place_in
  thing_place = rw (here (w * u / g.sector_bytes) index)

  pub thing_inside : place_in g secs (w * u) + w ≤ length img
  unfolding place_in
  thing_inside = omega (arith, sector_inside z (get_or secs (w * u / g.sector_bytes) 0) (below _ index), thing_fits g.sector_bytes w c e some u)

-- ---- the spaces of a volume that is ready

module _ {v : Opened} {img : Bytes} {work : List ℕ} (r : Readied v img work) where
  abbrev g : Geometry
  g = geometry_of v.tables.geometry

  cells_are : g.sector_bytes ≡ cells_in g * 4
  cells_are = sym (cells_bytes r.lists.mini.fat.sized) ∙ mul_comm 4 (cells_in g)

  mini_fat_here : (k : ℕ) → k < v.minis.sectors → get_or work (v.minis.list + k) 0 ≡ get_or (mini_fat_sectors g img) k 0
  mini_fat_here k h = r.lists.minis.here k h ∙ ap (λ s. get_or (mini_fat_sectors (geometry_of s) img) k 0) r.lists.same

  mini_fat_below : (k : ℕ) → k < v.minis.sectors → get_or (mini_fat_sectors g img) k 0 < sector_count g img
  mini_fat_below k h = rw (ap geometry_of r.lists.same) at (r.lists.minis.below k h)

  fat_here : (k : ℕ) → k < F img → get_or work (v.tables.list + k) 0 ≡ get_or (fat_sectors g img) k 0
  unfolding fat_sectors fat_count
  fat_here k h = r.lists.mini.fat.fats k h ∙ sym (get_or_below (F img) (difat_entry g img) k 0 h)

  fat_below_lem : (k : ℕ) → k < F img → get_or (fat_sectors g img) k 0 < sector_count g img
  unfolding fat_sectors fat_count
  fat_below_lem k h = rw (get_or_below (F img) (difat_entry g img) k 0 h) (r.lists.mini.fat.below k h)

  mini_cell_in : (u : ℕ) → u < (mini_space g img).limit → u < cells_in g * v.minis.sectors
  mini_cell_in u h = rw (ap geometry_of r.lists.same) at (mini_cell_lem r u h)

  -- ---- sizes

  pub unit_same : (k : Kind) → unit_bytes v k ≡ (space_at v img k).unit
  unfolding volume sector_space mini_space
  unit_same Sectors = refl
  unit_same Minis = refl

  pub unit_many : (k : Kind) → 1 < unit_bytes v k
  unfolding mini_bytes
  unit_many Sectors = let z = r.lists.mini.fat.sized.wide in omega arith
  unit_many Minis = omega arith

  pub count_same : (k : Kind) → unit_count v k ≡ (space_at v img k).limit
  unfolding volume sector_space
  count_same Sectors = r.lists.mini.fat.count
  count_same Minis = r.lists.minis.counts.count ∙ ap (λ sp. sp.limit) (minis_same r)

  pub units_stand : (k : Kind) → Units (space_at v img k) (length img)
  unfolding volume
  units_stand Sectors = sectors_stand r
  units_stand Minis = minis_stand r

  -- ---- cells

  pub cell_listed : (k : Kind) (u : ℕ) → u < (space_at v img k).limit → CellListed v work k u
  unfolding volume sector_space
  cell_listed Sectors u h =
      let z = r.lists.mini.fat.sized in
      record {
        wide = z.wide;
        narrow = z.narrow;
        here = thing_listed z 4 (cells_in g) cells_are (fat_sectors g img) work v.tables.list (F img) fat_here fat_below_lem u (sector_cell r u h) r.lists.mini.fat.room;
      }
  cell_listed Minis u h =
      let z = r.lists.mini.fat.sized in
      record {
        wide = z.wide;
        narrow = z.narrow;
        here = thing_listed z 4 (cells_in g) cells_are (mini_fat_sectors g img) work v.minis.list v.minis.sectors mini_fat_here mini_fat_below u (mini_cell_in u h) r.lists.minis.room;
      }

  pub cell_place_lem : (k : Kind) (u : ℕ) → u < (space_at v img k).limit → (listed_space v work k).cell_place u ≡ (space_at v img k).cell_place u
  unfolding volume sector_space mini_space cell_place_in
  cell_place_lem Sectors u h =
      thing_place r.lists.mini.fat.sized 4 (cells_in g) cells_are (fat_sectors g img) work v.tables.list (F img) fat_here fat_below_lem u (sector_cell r u h)
  cell_place_lem Minis u h =
      thing_place r.lists.mini.fat.sized 4 (cells_in g) cells_are (mini_fat_sectors g img) work v.minis.list v.minis.sectors mini_fat_here mini_fat_below u (mini_cell_in u h)

  pub cell_inside : (k : Kind) (u : ℕ) → u < (space_at v img k).limit → (space_at v img k).cell_place u + 4 ≤ length img
  unfolding volume sector_space mini_space cell_place_in
  cell_inside Sectors u h =
      thing_inside r.lists.mini.fat.sized 4 (cells_in g) cells_are (fat_sectors g img) work v.tables.list (F img) fat_here fat_below_lem u (sector_cell r u h)
  cell_inside Minis u h =
      thing_inside r.lists.mini.fat.sized 4 (cells_in g) cells_are (mini_fat_sectors g img) work v.minis.list v.minis.sectors mini_fat_here mini_fat_below u (mini_cell_in u h)

  -- ---- units

  pub unit_listed : (k : Kind) (u : ℕ) → u < (space_at v img k).limit → UnitListed v work k u
  unfolding volume
  unit_listed Sectors u h = let z = r.lists.mini.fat.sized in record { wide = z.wide; narrow = z.narrow; here = tt }
  unit_listed Minis u h = let z = r.lists.mini.fat.sized in record { wide = z.wide; narrow = z.narrow; here = mini_listed r u h }

  pub unit_place_lem : (k : Kind) (u : ℕ) → u < (space_at v img k).limit → (listed_space v work k).unit_place u ≡ (space_at v img k).unit_place u
  unfolding volume sector_space listed_place
  unit_place_lem Sectors u h = refl
  unit_place_lem Minis u h = sym (mini_place_is r u h)
