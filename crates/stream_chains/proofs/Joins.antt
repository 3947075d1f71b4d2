-- Lists that stand end to end, and tests, over the numbers below a limit, as loops that count up meet them.
use Prim.Native.Nat.{ℕ, zero, suc, ◌+◌, ◌≤◌}
use mathlib.Core.Path.{◌≡◌, refl, sym}
use mathlib.Core.Bool.{Bool, false}
use mathlib.Core.List.{List, [], ◌++◌, append_assoc, append-nil}
use native.Mathlib.Nat.{add-zero, add-suc}
use native.Mathlib.Numerals.{add-one}
use native.Mathlib.Omega.{arith}
use Rattle.format.specs.Basics.Lists.{all_below, join_below}
use Rattle.theory.proofs.Tests.{clash, false_of, below_at, below_of}

module _ (f : ℕ → List ℕ) where
  pub join_none : join_below 0 f ≡ []
  unfolding join_below
  join_none = refl

  pub join_more : (n : ℕ) → join_below (n + 1) f ≡ join_below n f ++ f n
  unfolding join_below
  join_more n = rw add-one

  -- those below a, and the next k
  pub join_add : (a k : ℕ) → join_below (a + k) f ≡ join_below a f ++ join_below k (λ i. f (a + i))
  unfolding join_below
  join_add a zero = rw add-zero (sym (append-nil (join_below a f)))
  join_add a (suc k) = rw (add-suc, join_add a k) (append_assoc (join_below a f) (join_below k (λ i. f (a + i))) (f (a + k)))

-- a test that fails below j fails below more
pub below_longer : (p : ℕ → Bool) (j k : ℕ) → j ≤ k → all_below j p ≡ false → all_below k p ≡ false
below_longer p j k l h = false_of _ (λ e. clash (below_of j p (λ i q. below_at k p e i (omega arith))) h)
