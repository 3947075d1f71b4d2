-- A stack in the work buffer: what is taken off, what is put on, and what a write elsewhere leaves.
use Prim.Native.Nat.{ℕ, zero, suc, ◌+◌, ◌-◌, ◌<◌}
use mathlib.Core.Path.{◌≡◌, refl}
use mathlib.Core.List.{[], ◌∷◌}
use native.Mathlib.Omega.{arith}
use native.Mathlib.Numerals.{add-one}
use lib.ListN.{length}
use Rattle.nodes.specs.Slots.{entry_of}
use Rattle.tree_walk.specs.Walking.{stacked}

pub stacked_long : (f : ℕ → ℕ) (n : ℕ) → length (stacked f n) ≡ n
unfolding stacked
stacked_long f zero = refl
stacked_long f (suc n) = omega (arith, stacked_long f n)

pub stacked_same : (f g : ℕ → ℕ) (n : ℕ) → ((j : ℕ) → j < n → f j ≡ g j) → stacked f n ≡ stacked g n
unfolding stacked
stacked_same f g zero h = refl
stacked_same f g (suc n) h = rw (h n (omega arith), stacked_same f g n (λ j l. h j (omega arith)))

pub stacked_pop : (f : ℕ → ℕ) (n : ℕ) → 0 < n → stacked f n ≡ entry_of (f (n - 1)) ∷ stacked f (n - 1)
unfolding stacked
stacked_pop f zero h = absurd (omega arith)
stacked_pop f (suc n) h = let e : suc n - 1 ≡ n = omega arith in rw e

pub stacked_push : (f : ℕ → ℕ) (n : ℕ) → stacked f (n + 1) ≡ entry_of (f n) ∷ stacked f n
unfolding stacked
stacked_push f n = rw add-one

pub stacked_none : (f : ℕ → ℕ) (n : ℕ) → n ≡ 0 → stacked f n ≡ []
unfolding stacked
stacked_none f zero h = refl
stacked_none f (suc n) h = absurd (omega arith)
