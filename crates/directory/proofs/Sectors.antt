-- The directory's sectors are those of a chain, and the list of them that the chain's walk leaves.
use Prim.Native.Nat.{ℕ, ◌≤◌, ◌<◌}
use mathlib.Core.Path.{◌≡◌, ◌∙◌, ap, ap₂}
use mathlib.Core.Bool.{true}
use mathlib.Core.List.{List}
use native.Mathlib.Omega.{arith}
use lib.Dec.{leb}
use lib.ListN.{length, get_or}
use borrow.Author.Tests.{leb-true}
use Rattle.format.specs.Basics.Bytes.{Bytes}
use Rattle.format.specs.Layout.Geometry.{Geometry, sector_count}
use Rattle.format.specs.Layout.Chain.{END, chain, units}
use Rattle.format.specs.Layout.Header.{directory_start}
use Rattle.format.specs.Layout.Tables.{fat_cell, sector_space}
use Rattle.format.specs.Layout.Directory.{directory_sectors}
use Rattle.format.specs.Layout.Volume.{directory_sectors_of, volume}
use Rattle.format.specs.Rules.Directory.{some_chain, count_right, directory_rules}
use Rattle.kinds.specs.Sizes.{geometry_of}
use Rattle.theory.specs.Links.{Linked}
use Rattle.theory.proofs.Tests.{both}
use Rattle.theory.proofs.Counts.{count_at}
use Rattle.theory.proofs.Chains.{chain_linked, follow_units, linked_below, linked_short}
use Rattle.tables.specs.Work.{Holds}
use Rattle.tables.specs.Listed.{FatListed}
use Rattle.tables.specs.declared.Tables.{Tables}
use Rattle.chains.specs.Answers.{unit_at}
use Rattle.directory.specs.Listed.{directory_at, DirectoryListed}

module _ (g : Geometry) (img : Bytes) (h : directory_rules (volume g img) ≡ true) where
  -- group 13's two rules on the chain
  rules : (leb 1 (length (directory_sectors_of g img)) ≡ true) × (chain (fat_cell g img) (sector_count g img) (length (directory_sectors_of g img)) (directory_start img) ≡ true)
  unfolding directory_rules some_chain volume sector_space
  rules =
      let v = volume g img in
      let there = (both (some_chain v.sectors v.directory_sectors v.directory_start) (count_right v) h).0 in
      both (leb 1 (length (directory_sectors_of g img))) (chain (fat_cell g img) (sector_count g img) (length (directory_sectors_of g img)) (directory_start img)) there

  pub directory_some : 1 ≤ length (directory_sectors_of g img)
  directory_some = leb-true 1 (length (directory_sectors_of g img)) rules.0

  pub directory_chain : chain (fat_cell g img) (sector_count g img) (length (directory_sectors_of g img)) (directory_start img) ≡ true
  directory_chain = rules.1

  pub directory_units : units (fat_cell g img) (length (directory_sectors_of g img)) (directory_start img) ≡ directory_sectors_of g img
  unfolding directory_sectors_of directory_sectors sector_space
  directory_units = follow_units (fat_cell g img) (sector_count g img) (sector_count g img) (directory_start img)

  pub directory_linked : Linked (fat_cell g img) (sector_count g img) (directory_sectors_of g img)
  directory_linked = rw directory_units at (chain_linked (fat_cell g img) (sector_count g img) (length (directory_sectors_of g img)) (directory_start img) directory_chain).0

  pub directory_few : sector_count g img ≤ END → length (directory_sectors_of g img) ≤ sector_count g img
  directory_few l = linked_short (fat_cell g img) (sector_count g img) l (directory_sectors_of g img) directory_linked

  directory_below : (k : ℕ) → k < length (directory_sectors_of g img) → get_or (directory_sectors_of g img) k 0 < sector_count g img
  directory_below k l = linked_below (fat_cell g img) (sector_count g img) (directory_sectors_of g img) directory_linked _ (count_at (directory_sectors_of g img) k 0 l)

-- the walk that lists the chain: what it is called with, and what it leaves
module _ {img : Bytes} {w : List ℕ} (t : Tables) (n s : ℕ) (l : FatListed t img w)
    (e : n ≡ length (directory_sectors_of (geometry_of t.geometry) img)) (d : s ≡ directory_start img) (h : directory_rules (volume (geometry_of t.geometry) img) ≡ true) where
  abbrev g : Geometry
  g = geometry_of t.geometry

  few : n ≤ sector_count g img
  few = omega (arith, directory_few g img h (omega (arith, l.sized.few)))

  pub listing_chain : chain (fat_cell g img) (sector_count g img) n s ≡ true
  listing_chain = rw (e, d) (directory_chain g img h)

  units_are : units (fat_cell g img) n s ≡ directory_sectors_of g img
  units_are = ap₂ (λ k u. units (fat_cell g img) k u) e d ∙ directory_units g img h

  pub listing_left : {w' : List ℕ} {at : ℕ} → Holds w' at n (unit_at (units (fat_cell g img) n s)) → DirectoryListed (directory_at t n at) img w'
  listing_left a =
      record {
        sized = l.sized;
        count = e;
        some = omega (arith, directory_some g img h);
        few = few;
        room = a.room;
        here = λ k p. a.here k p ∙ ap (λ xs. get_or xs k 0) units_are;
        below = λ k p. directory_below g img h k (omega arith);
      }
