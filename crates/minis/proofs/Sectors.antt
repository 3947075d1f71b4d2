-- The list of the mini FAT's sectors that the chain's walk leaves.
use Prim.Native.Nat.{ℕ, ◌≤◌, ◌<◌}
use mathlib.Core.Path.{◌≡◌, refl, ◌∙◌, ap}
use mathlib.Core.Bool.{true}
use mathlib.Core.List.{List}
use native.Mathlib.Omega.{arith}
use lib.ListN.{get_or}
use Rattle.format.specs.Basics.Bytes.{Bytes}
use Rattle.format.specs.Layout.Geometry.{Geometry, sector_count}
use Rattle.format.specs.Layout.Chain.{chain, units}
use Rattle.format.specs.Layout.Header.{mini_fat_start, mini_fat_count}
use Rattle.format.specs.Layout.Tables.{fat_cell}
use Rattle.format.specs.Layout.Volume.{mini_fat_sectors}
use Rattle.kinds.specs.Sizes.{geometry_of}
use Rattle.theory.proofs.Counts.{count_at}
use Rattle.theory.proofs.Chains.{length_units, chain_linked, linked_below, chain_short}
use Rattle.tables.specs.Work.{Holds}
use Rattle.tables.specs.Listed.{FatListed}
use Rattle.tables.specs.declared.Tables.{Tables}
use Rattle.chains.specs.Answers.{unit_at}
use Rattle.minis.specs.Listed.{MiniCounts, MiniListed}

sectors_are : (g : Geometry) (img : Bytes) → mini_fat_sectors g img ≡ units (fat_cell g img) (mini_fat_count img) (mini_fat_start img)
unfolding mini_fat_sectors
sectors_are g img = refl

-- every unit of a chain lies below the limit
pub unit_below : (f : ℕ → ℕ) (limit n s : ℕ) → chain f limit n s ≡ true → (k : ℕ) → k < n → get_or (units f n s) k 0 < limit
unit_below f limit n s h k l =
    linked_below f limit (units f n s) (chain_linked f limit n s h).0 _ (count_at (units f n s) k 0 (omega (arith, length_units f n s)))

-- what the walk is called with, and what it leaves
module _ {img : Bytes} {w : List ℕ} (t : Tables) {K : ℕ} (at n s : ℕ) (l : FatListed t img w)
    (m : MiniCounts (geometry_of t.geometry) img K) (e : n ≡ mini_fat_count img) (d : s ≡ mini_fat_start img) where
  abbrev g : Geometry
  g = geometry_of t.geometry

  listing_chain : chain (fat_cell g img) (sector_count g img) n s ≡ true
  listing_chain = rw (e, d) m.chained

  units_are : units (fat_cell g img) n s ≡ mini_fat_sectors g img
  units_are = rw (e, d, sectors_are)

  pub listing_left : {w' : List ℕ} → K ≤ at → Holds w' at n (unit_at (units (fat_cell g img) n s)) → MiniListed (record { geometry = t.geometry; units = K; sectors = n; list = at }) img w'
  listing_left a h =
      record {
        sized = l.sized;
        counts = m;
        sectors = e;
        small = chain_short (fat_cell g img) (sector_count g img) (omega (arith, l.sized.few)) n s listing_chain;
        apart = a;
        room = h.room;
        here = λ k p. h.here k p ∙ ap (λ us. get_or us k 0) units_are;
        below = λ k p. rw (← units_are) (unit_below (fat_cell g img) (sector_count g img) n s listing_chain k p);
      }
