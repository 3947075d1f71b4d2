-- The sum of a weight over a list is the sum over all numbers of how often each stands in it, times its weight.
use Prim.Native.Nat.{ℕ, zero, suc, ◌+◌, ◌*◌, ◌<◌}
use mathlib.Core.Path.{◌≡◌, refl, sym, ap, ◌∙◌}
use mathlib.Core.Logic.{inl, inr}
use mathlib.Core.List.{List, [], ◌∷◌, ◌++◌, map}
use native.Mathlib.Omega.{arith}
use lib.Dec.{eqb}
use lib.ListN.{length}
use Rattle.format.specs.Basics.Lists.{list_below, count, bit, sum}
use Rattle.theory.specs.Sums.{sum_below, lengths}
use Rattle.theory.proofs.Counts.{sum_ext, sum_add, sum_zero, sum_hit, eqb_cases, bit_self}

pub sum_map_append : {A : Type 0} (f : A → ℕ) (xs ys : List A) → sum (map f (xs ++ ys)) ≡ sum (map f xs) + sum (map f ys)
unfolding sum
sum_map_append f [] ys = omega arith
sum_map_append f (x ∷ xs) ys = let r = sum_map_append f xs ys in omega arith

sum_hit_weight : (w : ℕ → ℕ) (x n : ℕ) → sum_below (λ s. bit (eqb s x) * w s) n ≡ w x * sum_below (λ s. bit (eqb s x)) n
sum_hit_weight w x zero = omega arith
sum_hit_weight w x (suc n) =
    let r = sum_hit_weight w x n in
    elim (eqb_cases n x) [
      | inl e ↦ rw e.1 (let z = ap w e.0 in omega arith)
      | inr e ↦ rw e.1 (omega arith)
    ]

-- how often each number stands in the list, times its weight
pub sum_map_count : (w : ℕ → ℕ) (n : ℕ) (xs : List ℕ) → ((s : ℕ) → 0 < count s xs → s < n) → sum (map w xs) ≡ sum_below (λ s. count s xs * w s) n
unfolding sum
sum_map_count w n [] h = sym (sum_ext (λ s. 0 * w s) (λ s. 0) n (λ s q. omega arith) ∙ sum_zero n)
sum_map_count w n (x ∷ xs) h =
    let r = sum_map_count w n xs (λ s q. h s (omega arith)) in
    let a = sum_hit_weight w x n in
    let b = sum_hit x n (h x (omega (arith, bit_self x))) in
    let c = sum_add (λ s. bit (eqb s x) * w s) (λ s. count s xs * w s) n in
    let d = sum_ext (λ s. (bit (eqb s x) + count s xs) * w s) (λ s. bit (eqb s x) * w s + count s xs * w s) n (λ s q. omega arith) in
    let k : w x * sum_below (λ s. bit (eqb s x)) n ≡ w x = rw b (omega arith) in
    omega arith

pub lengths_below : (n : ℕ) (f : ℕ → List ℕ) → lengths (list_below n f) ≡ sum_below (λ i. length (f i)) n
unfolding list_below
lengths_below zero f = refl
lengths_below (suc n) f = let r = lengths_below n f in lengths_append (list_below n f) (f n ∷ []) ∙ omega arith
  where
    lengths_append : (L M : List (List ℕ)) → lengths (L ++ M) ≡ lengths L + lengths M
    lengths_append [] M = omega arith
    lengths_append (l ∷ L) M = let r = lengths_append L M in omega arith
