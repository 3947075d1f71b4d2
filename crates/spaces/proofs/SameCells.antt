-- Cells are written by their places: two spaces that give the same places to the units at hand are written alike.
use Prim.Native.Nat.{ℕ, ◌<◌}
use mathlib.Core.Path.{◌≡◌, refl}
use mathlib.Core.List.{List, [], ◌∷◌}
use native.Mathlib.Omega.{arith}
use Rattle.format.specs.Basics.Lists.{count}
use Rattle.format.specs.Basics.Bytes.{Bytes}
use Rattle.format.specs.Layout.Chain.{FREE, start_of}
use Rattle.format.specs.Layout.Space.{Space}
use Rattle.format.specs.Calls.SetLength.{put_cell, release, link}
use Rattle.theory.proofs.Counts.{bit_self}

-- the same places for the units of a list
abbrev pub SameCells : Space → Space → List ℕ → Type 0
SameCells sp sq us = (u : ℕ) → 0 < count u us → sp.cell_place u ≡ sq.cell_place u

module _ (sp sq : Space) where
  put_cell_same : (img : Bytes) (u c : ℕ) → sp.cell_place u ≡ sq.cell_place u → put_cell sp img u c ≡ put_cell sq img u c
  unfolding put_cell
  put_cell_same img u c h = rw h

  pub release_same : (us : List ℕ) (img : Bytes) → SameCells sp sq us → release sp us img ≡ release sq us img
  unfolding release
  release_same [] img h = refl
  release_same (u ∷ us) img h =
      rw (put_cell_same img u FREE (h u (omega (arith, bit_self u)))) (release_same us (put_cell sq img u FREE) (λ w q. h w (omega (arith, q))))

  pub link_same : (us : List ℕ) (img : Bytes) → SameCells sp sq us → link sp us img ≡ link sq us img
  unfolding link
  link_same [] img h = refl
  link_same (u ∷ us) img h =
      rw (put_cell_same img u (start_of us) (h u (omega (arith, bit_self u)))) (link_same us (put_cell sq img u (start_of us)) (λ w q. h w (omega (arith, q))))
