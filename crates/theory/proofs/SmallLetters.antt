-- Where the units lie that are folded.
use Prim.Native.Nat.{ℕ, ◌≤◌}
use mathlib.Core.Path.{◌≡◌, refl}
use mathlib.Core.Logic.{◌⊎◌, inl, inr}
use mathlib.Core.Bool.{Bool, true, false, not, ◌&&◌, ◌||◌}
use native.Mathlib.Omega.{arith}
use lib.Dec.{eqb, leb}
use borrow.Author.Tests.{leb-true}
use Rattle.format.specs.Layout.Name.{small_by20, small_by50}
use Rattle.theory.proofs.Tests.{both}

-- a unit between two
between : (a b u : ℕ) → (leb a u && leb u b) ≡ true → (a ≤ u) × (u ≤ b)
between a b u h =
    let q = both (leb a u) (leb u b) h in
    (leb-true a u q.0, leb-true u b q.1)

either : (a b : Bool) → (a || b) ≡ true → (a ≡ true) ⊎ (b ≡ true)
either true b h = inl refl
either false b h = inr h

pub by_20 : (u : ℕ) → small_by20 u ≡ true → ((0x61 ≤ u) × (u ≤ 0x7A)) ⊎ ((0xE0 ≤ u) × (u ≤ 0x44F))
unfolding small_by20
by_20 u h =
    let A = leb 0x61 u && leb u 0x7A in
    let B = leb 0xE0 u && leb u 0xFE in
    let C = leb 0x3B1 u && leb u 0x3C9 in
    let D = leb 0x430 u && leb u 0x44F in
    elim (either (A || (B && not (eqb u 0xF7)) || (C && not (eqb u 0x3C2))) D h) [
      | inr d ↦ let b = between 0x430 0x44F u d in inr (omega (arith, b.0), b.1)
      | inl x ↦
          elim (either (A || (B && not (eqb u 0xF7))) (C && not (eqb u 0x3C2)) x) [
            | inr c ↦ let b = between 0x3B1 0x3C9 u (both C (not (eqb u 0x3C2)) c).0 in inr (omega (arith, b.0), omega (arith, b.1))
            | inl y ↦
                elim (either A (B && not (eqb u 0xF7)) y) [
                  | inr a ↦ let b = between 0xE0 0xFE u (both B (not (eqb u 0xF7)) a).0 in inr (b.0, omega (arith, b.1))
                  | inl a ↦ inl (between 0x61 0x7A u a)
                ]
          ]
    ]

pub by_50 : (u : ℕ) → small_by50 u ≡ true → (0x450 ≤ u) × (u ≤ 0x45F)
unfolding small_by50
by_50 u h = between 0x450 0x45F u h
