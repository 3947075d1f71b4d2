-- Counting the numbers that pass a test, from the lowest on.
use Prim.Native.Nat.{ℕ, ◌+◌, ◌≤◌, ◌<◌}
use mathlib.Core.Path.{◌≡◌, refl, sym, ap, ◌∙◌}
use mathlib.Core.Bool.{Bool, true, false}
use mathlib.Core.List.{[], ◌∷◌}
use native.Mathlib.Omega.{arith}
use lib.ListN.{length, length-append}
use Rattle.format.specs.Basics.Lists.{pick_below}
use Rattle.theory.proofs.Picks.{pick_both, pick_more, pick_skip}

-- k of the numbers below u pass, and u has come no further than n
pub record Counting (p : ℕ → Bool) (n u k : ℕ) : Type 0 where
  pub within : u ≤ n
  pub done : k ≡ length (pick_below u p)

-- no more than there are
pub pick_most : (p : ℕ → Bool) (n : ℕ) → length (pick_below n p) ≤ n
pick_most p n = omega (arith, pick_both p n)

pub count_start : (p : ℕ → Bool) (n : ℕ) → Counting p n 0 0
count_start p n = record { within = omega arith; done = refl }

module _ {p : ℕ → Bool} {n u k : ℕ} (a : Counting p n u k) where
  pub count_few : k ≤ u
  count_few = omega (arith, a.done, pick_most p u)

  pub count_yes : u < n → p u ≡ true → Counting p n (u + 1) (k + 1)
  count_yes h e =
      record { within = omega arith; done = omega (arith, a.done, ap length (pick_more p u e), length-append (pick_below u p) (u ∷ [])) }

  pub count_no : u < n → p u ≡ false → Counting p n (u + 1) k
  count_no h e =
      record {
        within = omega arith;
        done = a.done ∙ sym (ap length (pick_skip p u (u + 1) (omega arith) (λ x l m. let z : x ≡ u = omega arith in ap p z ∙ e)));
      }

  pub count_end : n ≤ u → k ≡ length (pick_below n p)
  count_end h = let w = a.within in let e : u ≡ n = omega arith in rw e at a.done
