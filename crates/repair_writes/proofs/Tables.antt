-- The FAT and the mini FAT of an image by their lists: every cell has its room, no two share a byte, and what is freed is the same.
use Prim.Native.Nat.{ℕ, ◌+◌, ◌-◌, ◌*◌, ◌≤◌, ◌<◌}
use mathlib.Core.Path.{◌≡◌, refl, sym, ap, ◌∙◌}
use mathlib.Core.Bool.{Bool, true}
use mathlib.Core.List.{List}
use native.Mathlib.Nat.{mul_comm}
use native.Mathlib.Omega.{arith}
use native.Mathlib.Decide.{dec_lt}
use lib.ListN.{length, get_or}
use Rattle.format.specs.Basics.Lists.{count, pick_below}
use Rattle.format.specs.Basics.Bytes.{Bytes}
use Rattle.format.specs.Layout.Geometry.{Geometry, sector_count, cells_in}
use Rattle.format.specs.Layout.Header.{fat_count}
use Rattle.format.specs.Layout.Space.{Space}
use Rattle.format.specs.Layout.Tables.{difat_entry, fat_sectors, fat_cells, cell_place_in, sector_space}
use Rattle.format.specs.Layout.Volume.{volume, mini_fat_sectors, mini_cells, mini_space}
use Rattle.format.specs.Rules.Mini.{mini_fat_chain}
use Rattle.format.specs.Calls.SetLength.{release}
use Rattle.format.specs.Calls.RepairSteps.{rest_unit, rest_units, rest_freed}
use Rattle.theory.proofs.Below.{get_or_below, length_below}
use Rattle.theory.proofs.Chains.{length_units}
use Rattle.theory.proofs.Picks.{pick_above}
use Rattle.frame.specs.Kept.{Sized, Table}
use Rattle.frame.proofs.Things.{thing_far}
use Rattle.kinds.specs.Sizes.{geometry_of}
use Rattle.header.specs.Sized.{ImageSized, F}
use Rattle.tables.specs.Listed.{FatListed}
use Rattle.tables.specs.Views.{sectors_of}
use Rattle.tables.specs.declared.Tables.{Tables}
use Rattle.tables.proofs.Places.{cells_bytes, cells_short}
use Rattle.minis.specs.Listed.{MiniListed, minis_of}
use Rattle.minis.specs.declared.Minis.{Minis}
use Rattle.spaces.proofs.SameCells.{SameCells, release_same}
use Rattle.spaces.proofs.Listed.{thing_listed, thing_place, thing_inside}
use Rattle.repair_laws.specs.Tables.{Tabled}
use Rattle.repair_laws.proofs.Tabled.{rest_range, fat_table}
use Rattle.repair_laws.proofs.Freeing.{mini_table_lem}
use Rattle.repair_writes.specs.Cells.{cell_byte, table_in, TableRoom, CellsApart}

-- ---- a table whose n sectors stand in the work buffer

module _ {g : Geometry} {img : Bytes} (z : ImageSized g img) (secs work : List ℕ) (list n : ℕ)
    (here : (k : ℕ) → k < n → get_or work (list + k) 0 ≡ get_or secs k 0) (below : (k : ℕ) → k < n → get_or secs k 0 < sector_count g img) where
  four : g.sector_bytes ≡ cells_in g * 4
  four = sym (cells_bytes z) ∙ mul_comm 4 (cells_in g)

  place : (u : ℕ) → u < cells_in g * n → cell_byte g work list u ≡ cell_place_in g secs u
  unfolding cell_place_in
  place u h = thing_place z 4 (cells_in g) four secs work list n here below u h

  room : list + n ≤ length work → n ≤ sector_count g img → TableRoom g work list (length img) (cells_in g * n)
  unfolding cell_place_in
  room r small u h =
      record {
        wide = z.wide;
        narrow = z.narrow;
        few = omega (arith, cells_short z n small, z.short);
        here = thing_listed z 4 (cells_in g) four secs work list n here below u h r;
        inside = rw (place u h) (thing_inside z 4 (cells_in g) four secs work list n here below u h);
      }

  apart : length secs ≡ n → Table g (length img) secs → CellsApart g work list (cells_in g * n)
  unfolding cell_place_in
  apart e t x y i j q hx hy hi hj =
      rw (place x hx, place y hy)
      (thing_far g 4 (cells_in g) four (omega (arith, z.wide)) (length img) secs t x y i j q (rw e hx) (rw e hy) hi hj)

  module _ (sp : Space) (at : (u : ℕ) → sp.cell_place u ≡ cell_place_in g secs u) where
    -- units whose cells stand in the table
    same : (limit cells : ℕ) (us : List ℕ) → ((u : ℕ) → 0 < count u us → u < cells_in g * n) → SameCells sp (table_in g work list limit cells) us
    same limit cells us h u q = at u ∙ sym (place u (h u q))

    rest : (limit cells : ℕ) → limit ≡ sp.limit → cells ≡ sp.cells → cells ≡ cells_in g * n → (b : Bytes) → rest_freed sp b ≡ rest_freed (table_in g work list limit cells) b
    unfolding rest_freed rest_units rest_unit
    rest limit cells e k c b =
        rw (e, k)
        (release_same sp (table_in g work list sp.limit sp.cells) (rest_units sp) b
        (same sp.limit sp.cells (rest_units sp)
        (λ u q. let r = rest_range sp (sp.cells - sp.limit) u q in omega (arith, r.0, r.1, k, c))))

    picked : (limit : ℕ) → limit ≤ cells_in g * n → (p : ℕ → Bool) (b : Bytes) → release sp (pick_below limit p) b ≡ release (table_in g work list limit limit) (pick_below limit p) b
    picked limit h p b =
        release_same sp (table_in g work list limit limit) (pick_below limit p) b
        (same limit limit (pick_below limit p) (λ u q. elim (dec_lt u limit) [ yes k ↦ omega arith | no k ↦ absurd (omega (arith, q, pick_above p u limit (omega arith))) ]))

-- ---- the FAT

module _ {t : Tables} {img : Bytes} {work : List ℕ} (l : FatListed t img work) where
  abbrev g : Geometry
  g = geometry_of t.geometry

  fats_here : (k : ℕ) → k < F img → get_or work (t.list + k) 0 ≡ get_or (fat_sectors g img) k 0
  unfolding fat_sectors fat_count
  fats_here k h = l.fats k h ∙ sym (get_or_below (F img) (difat_entry g img) k 0 h)

  fats_below : (k : ℕ) → k < F img → get_or (fat_sectors g img) k 0 < sector_count g img
  unfolding fat_sectors fat_count
  fats_below k h = rw (get_or_below (F img) (difat_entry g img) k 0 h) (l.below k h)

  fats_many : length (fat_sectors g img) ≡ F img
  unfolding fat_sectors fat_count
  fats_many = length_below (F img) (difat_entry g img)

  fat_at : (u : ℕ) → (sectors_of t img).cell_place u ≡ cell_place_in g (fat_sectors g img) u
  unfolding sector_space
  fat_at u = refl

  pub fat_place : (u : ℕ) → u < cells_in g * F img → cell_byte g work t.list u ≡ (sectors_of t img).cell_place u
  fat_place u h = place l.sized (fat_sectors g img) work t.list (F img) fats_here fats_below u h ∙ sym (fat_at u)

  pub fat_room : TableRoom g work t.list (length img) (cells_in g * F img)
  fat_room = room l.sized (fat_sectors g img) work t.list (F img) fats_here fats_below l.room (omega (arith, l.few))

  sized : Sized g
  sized = record { wide = l.sized.wide; even = l.sized.even }

  pub fat_apart : Tabled g img → CellsApart g work t.list (cells_in g * F img)
  fat_apart k = apart l.sized (fat_sectors g img) work t.list (F img) fats_here fats_below fats_many (fat_table g sized img k)

  pub fat_rest : (b : Bytes) → rest_freed (sectors_of t img) b ≡ rest_freed (table_in g work t.list t.sectors (cells_in g * F img)) b
  unfolding sector_space fat_cells fat_count
  fat_rest b =
      rest l.sized (fat_sectors g img) work t.list (F img) fats_here fats_below (sectors_of t img) fat_at t.sectors (cells_in g * F img) l.count refl
      refl b

  pub fat_picked : (p : ℕ → Bool) (b : Bytes)
      → release (sectors_of t img) (pick_below t.sectors p) b ≡ release (table_in g work t.list t.sectors t.sectors) (pick_below t.sectors p) b
  fat_picked p b =
      picked l.sized (fat_sectors g img) work t.list (F img) fats_here fats_below (sectors_of t img) fat_at t.sectors (omega (arith, l.count, l.covers)) p b

-- ---- the mini FAT

module _ {m : Minis} {img : Bytes} {work : List ℕ} (l : MiniListed m img work) where
  abbrev gm : Geometry
  gm = geometry_of m.geometry

  minis_many : length (mini_fat_sectors gm img) ≡ m.sectors
  unfolding mini_fat_sectors
  minis_many = length_units _ _ _ ∙ sym l.sectors

  mini_at : (u : ℕ) → (minis_of m img).cell_place u ≡ cell_place_in gm (mini_fat_sectors gm img) u
  unfolding mini_space
  mini_at u = refl

  pub mini_place : (u : ℕ) → u < cells_in gm * m.sectors → cell_byte gm work m.list u ≡ (minis_of m img).cell_place u
  mini_place u h = place l.sized (mini_fat_sectors gm img) work m.list m.sectors l.here l.below u h ∙ sym (mini_at u)

  pub mini_room : TableRoom gm work m.list (length img) (cells_in gm * m.sectors)
  mini_room = room l.sized (mini_fat_sectors gm img) work m.list m.sectors l.here l.below l.room l.small

  pub mini_sized_lem : Sized gm
  mini_sized_lem = record { wide = l.sized.wide; even = l.sized.even }

  pub mini_chain : mini_fat_chain (volume gm img) ≡ true
  unfolding mini_fat_chain volume sector_space
  mini_chain = l.counts.chained

  pub mini_apart : Tabled gm img → CellsApart gm work m.list (cells_in gm * m.sectors)
  mini_apart k = apart l.sized (mini_fat_sectors gm img) work m.list m.sectors l.here l.below minis_many (mini_table_lem gm mini_sized_lem img k mini_chain)

  pub mini_rest_lem : (b : Bytes) → rest_freed (minis_of m img) b ≡ rest_freed (table_in gm work m.list m.units (cells_in gm * m.sectors)) b
  unfolding mini_space mini_cells
  mini_rest_lem b =
      rest l.sized (mini_fat_sectors gm img) work m.list m.sectors l.here l.below (minis_of m img) mini_at m.units (cells_in gm * m.sectors) l.counts.count
      (ap (λ k. cells_in gm * k) l.sectors) refl b

  pub mini_picked : (p : ℕ → Bool) (b : Bytes)
      → release (minis_of m img) (pick_below m.units p) b ≡ release (table_in gm work m.list m.units m.units) (pick_below m.units p) b
  mini_picked p b =
      picked l.sized (mini_fat_sectors gm img) work m.list m.sectors l.here l.below (minis_of m img) mini_at m.units (rw l.sectors l.counts.covers) p b
