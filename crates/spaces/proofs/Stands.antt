-- The two spaces of an opened volume: their units lie in the image, and do not meet.
use Prim.Native.Nat.{ℕ, ◌+◌, ◌*◌, ◌/◌, ◌%◌, ◌<◌}
use mathlib.Core.Path.{◌≡◌, ◌∙◌, ap}
use mathlib.Core.Bool.{true}
use mathlib.Core.List.{List}
use native.Mathlib.Nat.{mul_comm}
use native.Mathlib.Omega.{arith}
use lib.ListN.{length, get_or}
use Rattle.format.specs.Basics.Bytes.{Bytes}
use Rattle.format.specs.Layout.Geometry.{Geometry, sector_count, sector_place, place_in, cells_in, mini_bytes}
use Rattle.format.specs.Layout.Need.{round_up}
use Rattle.format.specs.Layout.Entry.{start}
use Rattle.format.specs.Layout.Directory.{size_of}
use Rattle.format.specs.Layout.Tables.{fat_cell, sector_space}
use Rattle.format.specs.Layout.Volume.{volume, directory, mini_space, mini_stream_sectors}
use Rattle.format.specs.Rules.Mini.{mini_stream_chain}
use Rattle.theory.specs.Links.{Linked}
use Rattle.theory.proofs.Chains.{chain_linked, linked_once, linked_below, length_units}
use Rattle.theory.proofs.RoundUp.{round_enough}
use Rattle.frame.specs.Kept.{Table}
use Rattle.frame.proofs.Kept.{place_eq}
use Rattle.frame.proofs.Places.{thing_index}
use Rattle.frame.proofs.Things.{thing_far, thing_room}
use Rattle.frame.proofs.Blocks.{Units}
use Rattle.kinds.specs.Sizes.{geometry_of}
use Rattle.header.specs.Sized.{ImageSized, F}
use Rattle.tables.proofs.Places.{sector_inside}
use Rattle.minis.proofs.ListLaws.{cells_cover}
use Rattle.volume.specs.Opened.{Readied}
use Rattle.volume.specs.declared.Volume.{Volume}
use Rattle.volume.proofs.MiniCounts.{units_are, mini_stream_chain_lem}
use Rattle.volume.proofs.StreamList.{stream_is}

module _ {g : Geometry} {img : Bytes} (z : ImageSized g img) where
  bytes_some : 0 < g.sector_bytes
  bytes_some = let w = z.wide in omega arith

  pub sector_units : Units (sector_space g img) (length img)
  unfolding sector_space
  sector_units =
      record {
        some = bytes_some;
        far = λ x y i j n hx hy hi hj q. n (place_eq g x y i j hi hj q).0;
        room = λ x h. sector_inside z x h;
      }

  -- a sector is cut into mini sectors
  pub minis_in_sector : g.sector_bytes ≡ g.sector_bytes / 64 * 64
  minis_in_sector = let e = z.even in omega arith

  module _ (h : mini_stream_chain (volume g img) ≡ true) where
    linked : Linked (fat_cell g img) (sector_count g img) (mini_stream_sectors g img)
    linked = rw (stream_is g img) (chain_linked (fat_cell g img) (sector_count g img) _ _ (mini_stream_chain_lem g img h)).0

    stream_table : Table g (length img) (mini_stream_sectors g img)
    stream_table =
        record {
          once = linked_once (fat_cell g img) (sector_count g img) (omega (arith, z.few)) (mini_stream_sectors g img) linked;
          room = λ s q. sector_inside z s (linked_below (fat_cell g img) (sector_count g img) (mini_stream_sectors g img) linked s q);
        }

    -- every mini sector lies in the mini stream
    mini_index : (m : ℕ) → m < (mini_space g img).limit → m < g.sector_bytes / 64 * length (mini_stream_sectors g img)
    mini_index m l =
        let n = size_of (directory g img) 0 in
        let k = round_up n g.sector_bytes in
        let a = round_enough n g.sector_bytes bytes_some in
        let b : k * g.sector_bytes ≡ g.sector_bytes / 64 * k * 64 = ap (λ n. k * n) minis_in_sector ∙ omega (arith, mul_comm k (g.sector_bytes / 64)) in
        rw (stream_is g img, length_units (fat_cell g img) k (start ((directory g img).entry 0))) (omega (arith, a, b, l, units_are g img))

    pub mini_sector_lem : (m : ℕ) → m < (mini_space g img).limit → 64 * m / g.sector_bytes < length (mini_stream_sectors g img)
    mini_sector_lem m l = thing_index g.sector_bytes 64 (g.sector_bytes / 64) minis_in_sector bytes_some _ m (mini_index m l)

    pub mini_units : Units (mini_space g img) (length img)
    unfolding mini_space mini_bytes
    mini_units =
        record {
          some = omega arith;
          far = λ x y i j n hx hy. thing_far g 64 (g.sector_bytes / 64) minis_in_sector bytes_some (length img) (mini_stream_sectors g img) stream_table x y i j n (mini_index x hx) (mini_index y hy);
          room = λ x hx. thing_room g 64 (g.sector_bytes / 64) minis_in_sector bytes_some (length img) (mini_stream_sectors g img) stream_table x (mini_index x hx);
        }

module _ {v : Volume} {img : Bytes} {work : List ℕ} (r : Readied v img work) where
  abbrev g : Geometry
  g = geometry_of v.tables.geometry

  pub sectors_stand : Units (sector_space g img) (length img)
  sectors_stand = sector_units r.lists.mini.fat.sized

  pub minis_stand : Units (mini_space g img) (length img)
  minis_stand = mini_units r.lists.mini.fat.sized r.lists.mini.stream

  -- every sector and every mini sector has a cell
  pub sector_cell : (s : ℕ) → s < sector_count g img → s < cells_in g * F img
  sector_cell s h = omega (arith, r.lists.mini.fat.covers)

  pub minis_same : mini_space (geometry_of v.minis.geometry) img ≡ mini_space g img
  minis_same = ap (λ k. mini_space (geometry_of k) img) r.lists.same

  pub mini_cell_lem : (m : ℕ) → m < (mini_space g img).limit → m < cells_in (geometry_of v.minis.geometry) * v.minis.sectors
  mini_cell_lem m h = omega (arith, cells_cover r.lists.minis, r.lists.minis.counts.count, ap (λ sp. sp.limit) minis_same)

  -- the list has the sector of a mini sector
  pub mini_listed : (m : ℕ) → m < (mini_space g img).limit → v.stream + 64 * m / g.sector_bytes < length work
  mini_listed m h = omega (arith, mini_sector_lem r.lists.mini.fat.sized r.lists.mini.stream m h, r.stream.room)

  pub mini_place_is : (m : ℕ) → m < (mini_space g img).limit → (mini_space g img).unit_place m ≡ sector_place g (get_or work (v.stream + 64 * m / g.sector_bytes) 0) + 64 * m % g.sector_bytes
  unfolding mini_space mini_bytes place_in
  mini_place_is m h = rw (r.stream.here _ (mini_sector_lem r.lists.mini.fat.sized r.lists.mini.stream m h))
