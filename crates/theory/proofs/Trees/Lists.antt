-- Laws of tests and lists that the trees need, beside those of Tests and Counts.
use mathlib.Core.Path.{◌≡◌, refl}
use mathlib.Core.Logic.{◌⊎◌, inl, inr}
use mathlib.Core.Bool.{Bool, true, false}
use mathlib.Core.List.{List, [], ◌∷◌}
use Prim.Native.Nat.{ℕ, zero, suc, ◌+◌, ◌<◌}
use native.Mathlib.Omega.{arith}
use Rattle.format.specs.Basics.Lists.{count, all}
use Rattle.theory.proofs.Counts.{bit_self}
use Rattle.theory.proofs.Tests.{clash, and_true_of}

-- two tests that imply each other are equal
pub same_test : (a b : Bool) → (a ≡ true → b ≡ true) → (b ≡ true → a ≡ true) → a ≡ b
same_test true true f g = refl
same_test true false f g = absurd (clash (f refl) refl)
same_test false true f g = absurd (clash (g refl) refl)
same_test false false f g = refl

pub one_of_three : (a b c : ℕ) → 0 < a + (b + c) → (0 < a) ⊎ ((0 < b) ⊎ (0 < c))
one_of_three (suc a) b c h = inl (omega arith)
one_of_three zero (suc b) c h = inr (inl (omega arith))
one_of_three zero zero c h = inr (inr (omega arith))

-- ---- every element

-- every number that stands in the list passes the test
pub all_of : (p : ℕ → Bool) (xs : List ℕ) → ((x : ℕ) → 0 < count x xs → p x ≡ true) → all p xs ≡ true
unfolding all
all_of p [] h = refl
all_of p (x ∷ xs) h = and_true_of (p x) (all p xs) (h x (omega (arith, bit_self x))) (all_of p xs (λ y q. h y (omega arith)))
