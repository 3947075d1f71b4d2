-- The walks along the chains that the system has, by what `format` says of them.
use Prim.Native.Nat.{ℕ, ◌+◌, ◌%◌, ◌≤◌, ◌<◌}
use Rattle.std.specs.Prelude.{Option}
use mathlib.Core.Path.{◌≡◌, sym, ◌∙◌, ap, ap₂}
use mathlib.Core.Bool.{Bool, true, false}
use mathlib.Core.List.{List}
use native.Mathlib.Omega.{arith}
use lib.Dec.{eqb}
use lib.ListN.{length}
use borrow.Author.Tests.{eq-eqb, ne_eqb}
use Rattle.format.specs.Basics.Bytes.{Bytes}
use Rattle.format.specs.Layout.Geometry.{Geometry, size_width, sector_count, mini_bytes}
use Rattle.format.specs.Layout.Need.{round_up}
use Rattle.format.specs.Layout.Chain.{chain, units}
use Rattle.format.specs.Layout.Space.{chain_for, units_for}
use Rattle.format.specs.Layout.Header.{directory_start, mini_fat_start, mini_fat_count}
use Rattle.format.specs.Layout.Entry.{size, start}
use Rattle.format.specs.Layout.Tables.{fat_cell, sector_space}
use Rattle.format.specs.Layout.Directory.{directory_of, size_of}
use Rattle.format.specs.Layout.Volume.{volume, root, root_size, directory, directory_sectors_of, mini_fat_sectors, mini_stream_sectors}
use Rattle.format.specs.Rules.Directory.{directory_rules}
use Rattle.format.specs.Rules.Mini.{mini_fat_chain, mini_stream_chain}
use Rattle.kinds.specs.declared.Geometry.{Geometry as Sizes}
use Rattle.kinds.specs.Sizes.{geometry_of}
use Rattle.tables.specs.Work.{Wrote}
use Rattle.tables.specs.Views.{volume_of, sector_count_of, sectors_of}
use Rattle.tables.specs.declared.Tables.{Tables}
use Rattle.chains.specs.Answers.{Markable, UnitsWalked, ChainsMarked}
use Rattle.chains.proofs.Owners.{marked_chain}
use Rattle.entries.specs.Entry.{entry_at}
use Rattle.directory.specs.Listed.{entries_of, place_of, DirectoryListed}
use Rattle.directory.specs.declared.Directory.{Directory}
use Rattle.directory.proofs.Places.{entry_is, root_inside, directory_kept}
use Rattle.directory.proofs.Sectors.{directory_chain, directory_units}
use Rattle.system_chains.specs.System.{SectorsMarkable, SystemMarkable}

-- the entry that stands at its place
pub entry_read : {d : Directory} {img : Bytes} {work : List ℕ} (g : Sizes) (x p : ℕ) → DirectoryListed d img work → d.geometry ≡ g → x < (entries_of d img).count
    → p ≡ place_of d work x → entry_at img p ≡ (volume_of g img).directory.entry x
unfolding volume
entry_read {img = img} g x p l e h q = ap (entry_at img) q ∙ sym (entry_is l x h) ∙ ap (λ k. (directory (geometry_of k) img).entry x) e

-- and the root's
pub root_read : {d : Directory} {img : Bytes} {w : List ℕ} (s : Sizes) (p : ℕ) → DirectoryListed d img w → d.geometry ≡ s → p ≡ place_of d w 0 → entry_at img p ≡ (directory (geometry_of s) img).entry 0
unfolding volume
root_read s p l e q = entry_read s 0 p l e (root_inside l) q

-- and its size
pub size_read : (g : Geometry) (img : Bytes) (x : ℕ) {e : Bytes} {n : ℕ} → n ≡ size (size_width g) e → e ≡ (volume g img).directory.entry x
    → n ≡ size_of (volume g img).directory x
unfolding size_of volume directory directory_of
size_read g img x h e = h ∙ ap (size (size_width g)) e

-- chains may still be marked where some have been
pub markable_after : {t : Tables} {d : Directory} {img : Bytes} {w w' : List ℕ} → SystemMarkable t d img w → Markable (sectors_of t img) 0 w' → Wrote w w' 0 (sector_count_of t img) → SystemMarkable t d img w'
markable_after m u r =
    record {
      sectors = record { sized = m.sectors.sized; count = m.sectors.count; units = u };
      directory = directory_kept m.directory r (omega (arith, m.behind));
      same = m.same;
      behind = m.behind;
    }

-- ---- one chain

module _ {t : Tables} {img : Bytes} {w : List ℕ} (z : SectorsMarkable t img w) where
  abbrev g : Geometry
  g = geometry_of t.geometry

  pub in_work : (0 + t.sectors ≤ length w) × (t.sectors < 0x1000_0000)
  unfolding sector_space
  in_work = (omega (arith, z.units.room, z.count), omega (arith, z.units.few, z.count))

  -- a chain of n sectors from s
  module _ (n s : ℕ) {w' : List ℕ} {a : Option Bool} (r : UnitsWalked 0 t.sectors n s w w' a) where
    pub sectors_marked : ChainsMarked (sector_space g img) 0 (chain (fat_cell g img) (sector_count g img) n s) (units (fat_cell g img) n s) w w' a
    unfolding sector_space
    sectors_marked = marked_chain n s z.units (r (sector_space g img) (sym z.count) z.units)

    pub directory_marked : directory_rules (volume g img) ≡ true → n ≡ length (directory_sectors_of g img) → s ≡ directory_start img → ChainsMarked (sector_space g img) 0 true (directory_sectors_of g img) w w' a
    directory_marked h k l =
        let c : chain (fat_cell g img) (sector_count g img) n s ≡ true = rw (k, l) (directory_chain g img h) in
        let u : units (fat_cell g img) n s ≡ directory_sectors_of g img = ap₂ (λ x y. units (fat_cell g img) x y) k l ∙ directory_units g img h in
        rw (c, u) at sectors_marked

    pub mini_fat_marked : n ≡ mini_fat_count img → s ≡ mini_fat_start img → ChainsMarked (sector_space g img) 0 (mini_fat_chain (volume g img)) (mini_fat_sectors g img) w w' a
    unfolding mini_fat_chain volume sector_space mini_fat_sectors
    mini_fat_marked k l = rw (k, l) at sectors_marked

    pub mini_stream_marked : (b : ℕ) → b ≡ size_of (directory g img) 0 → b % 64 ≡ 0 → n ≡ round_up b g.sector_bytes → s ≡ start ((directory g img).entry 0)
        → ChainsMarked (sector_space g img) 0 (mini_stream_chain (volume g img)) (mini_stream_sectors g img) w w' a
    unfolding mini_stream_chain volume root root_size chain_for sector_space mini_stream_sectors units_for mini_bytes
    mini_stream_marked b d h k l =
        let x : eqb (size_of (directory g img) 0 % 64) 0 ≡ true = rw (← d) (eq-eqb (b % 64) 0 h) in
        rw x (rw (k, l, d) at sectors_marked)

-- the root's size is not of whole mini sectors
pub size_odd : (g : Geometry) (img : Bytes) (z : ℕ) → z ≡ size_of (directory g img) 0 → 0 < z % 64 → mini_stream_chain (volume g img) ≡ false
unfolding mini_stream_chain volume root_size mini_bytes
size_odd g img b d h =
    let x : eqb (size_of (directory g img) 0 % 64) 0 ≡ false = rw (← d) (ne_eqb (b % 64) 0 (omega arith)) in
    rw x
