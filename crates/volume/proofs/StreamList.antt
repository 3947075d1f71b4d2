-- The list of the mini stream's sectors, the last that makes a volume ready.
use Prim.Native.Nat.{ℕ, ◌-◌, ◌≤◌}
use mathlib.Core.Path.{◌≡◌, refl, sym, ◌∙◌, ap, ap₂}
use mathlib.Core.Bool.{true}
use mathlib.Core.List.{List}
use native.Mathlib.Omega.{arith}
use lib.ListN.{length}
use Rattle.format.specs.Basics.Bytes.{Bytes}
use Rattle.format.specs.Layout.Geometry.{Geometry, sector_count}
use Rattle.format.specs.Layout.Need.{round_up}
use Rattle.format.specs.Layout.Chain.{chain, units}
use Rattle.format.specs.Layout.Space.{units_for}
use Rattle.format.specs.Layout.Entry.{start}
use Rattle.format.specs.Layout.Directory.{size_of}
use Rattle.format.specs.Layout.Tables.{fat_cell, sector_space}
use Rattle.format.specs.Layout.Volume.{directory, mini_stream_sectors}
use Rattle.theory.proofs.Chains.{length_units}
use Rattle.kinds.specs.Sizes.{geometry_of}
use Rattle.tables.specs.Work.{Wrote, Holds}
use Rattle.tables.specs.declared.Tables.{Tables}
use Rattle.chains.specs.Answers.{unit_at}
use Rattle.directory.specs.declared.Directory.{Directory}
use Rattle.minis.specs.declared.Minis.{Minis}
use Rattle.volume.specs.Passed.{ListsStand}
use Rattle.volume.specs.Opened.{Readied}
use Rattle.volume.proofs.ListsKept.{lists_kept}
use Rattle.volume.proofs.MiniCounts.{stream_short, mini_stream_chain_lem}

pub stream_is : (g : Geometry) (img : Bytes) → mini_stream_sectors g img ≡ units (fat_cell g img) (round_up (size_of (directory g img) 0) g.sector_bytes) (start ((directory g img).entry 0))
unfolding mini_stream_sectors units_for sector_space
stream_is g img = refl

module _ {t : Tables} {d : Directory} {m : Minis} {img : Bytes} {w : List ℕ} (l : ListsStand t d m img w) (n s : ℕ)
    (k : n ≡ round_up (size_of (directory (geometry_of t.geometry) img) 0) t.geometry.bytes) (h : s ≡ start ((directory (geometry_of t.geometry) img).entry 0)) where
  abbrev g : Geometry
  g = geometry_of t.geometry

  -- it fits before the mini FAT's list
  pub stream_fits : n ≤ m.list
  stream_fits = omega (arith, k, stream_short g img l.mini.fat.sized l.mini.stream, l.room)

  pub stream_chain_lem : chain (fat_cell g img) (sector_count g img) n s ≡ true
  stream_chain_lem = rw (k, h) (mini_stream_chain_lem g img l.mini.stream)

  units_are : units (fat_cell g img) n s ≡ mini_stream_sectors g img
  units_are = ap₂ (λ x y. units (fat_cell g img) x y) k h ∙ sym (stream_is g img)

  pub stream_ready : {w' : List ℕ} → Wrote w w' (m.list - n) n → Holds w' (m.list - n) n (unit_at (units (fat_cell g img) n s))
      → Readied (record { tables = t; directory = d; minis = m; stream = m.list - n }) img w'
  stream_ready x y =
      let z : length (mini_stream_sectors g img) ≡ n = ap length (sym units_are) ∙ length_units (fat_cell g img) n s in
      record {
        lists = lists_kept x l (omega (arith, stream_fits));
        stream = rw (z, ← units_are) y;
        before = omega arith;
        room = omega (arith, k, stream_short g img l.mini.fat.sized l.mini.stream, l.room);
      }
