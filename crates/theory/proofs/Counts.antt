-- How often a number stands in a list, and sums over the numbers below a bound: what owners are counted by.
use mathlib.Core.Path.{◌≡◌, refl, sym, ap}
use mathlib.Core.Logic.{◌≢◌, ◌⊎◌, inl, inr}
use mathlib.Core.Bool.{Bool, true, false}
use mathlib.Core.List.{List, [], ◌∷◌, ◌++◌}
use Prim.Native.Nat.{ℕ, zero, suc, ◌+◌, ◌≤◌, ◌<◌}
use native.Mathlib.Omega.{arith}
use native.Mathlib.Decide.{ℕ_discrete}
use lib.Dec.{eqb}
use lib.ListN.{length, take, drop, get_or, take-append-drop}
use borrow.Author.Tests.{eq-eqb, ne_eqb}
use native.Mathlib.Nat.{not-suc-le-zero}
use Rattle.format.specs.Basics.Lists.{bit, count}
use Rattle.theory.specs.Sums.{sum_below}

pub eqb_cases : (s x : ℕ) → ((s ≡ x) × (eqb s x ≡ true)) ⊎ ((s ≢ x) × (eqb s x ≡ false))
eqb_cases s x = elim (ℕ_discrete s x) [ yes p ↦ inl (p, eq-eqb s x p) | no q ↦ inr (q, ne_eqb s x q) ]

pub bit_self : (s : ℕ) → bit (eqb s s) ≡ 1
bit_self s = ap bit (eq-eqb s s refl)

pub bit_true : (b : Bool) → 0 < bit b → b ≡ true
bit_true true h = refl
bit_true false h = absurd (omega arith)

pub bit_other : (s x : ℕ) → s ≢ x → bit (eqb s x) ≡ 0
bit_other s x q = ap bit (ne_eqb s x q)

pub count_append : (s : ℕ) (xs ys : List ℕ) → count s (xs ++ ys) ≡ count s xs + count s ys
count_append s [] ys = omega arith
count_append s (x ∷ xs) ys = let h = count_append s xs ys in omega arith

pub sum_ext : (g h : ℕ → ℕ) (n : ℕ) → ((s : ℕ) → s < n → g s ≡ h s) → sum_below g n ≡ sum_below h n
sum_ext g h zero e = refl
sum_ext g h (suc n) e =
    let r = sum_ext g h n (λ s l. e s (omega arith)) in
    let q = e n (omega arith) in
    omega arith

pub sum_add : (g h : ℕ → ℕ) (n : ℕ) → sum_below (λ s. g s + h s) n ≡ sum_below g n + sum_below h n
sum_add g h zero = refl
sum_add g h (suc n) = let r = sum_add g h n in omega arith

pub sum_le : (g : ℕ → ℕ) (n : ℕ) → ((s : ℕ) → s < n → g s ≤ 1) → sum_below g n ≤ n
sum_le g zero e = omega arith
sum_le g (suc n) e =
    let r = sum_le g n (λ s l. e s (omega arith)) in
    let q = e n (omega arith) in
    omega arith

pub sum_zero : (n : ℕ) → sum_below (λ s. 0) n ≡ 0
sum_zero zero = refl
sum_zero (suc n) = let r = sum_zero n in omega arith

sum_miss : (x n : ℕ) → n ≤ x → sum_below (λ s. bit (eqb s x)) n ≡ 0
sum_miss x zero h = refl
sum_miss x (suc n) h =
    let r = sum_miss x n (omega arith) in
    let q = bit_other n x (omega arith) in
    omega arith

pub sum_hit : (x n : ℕ) → x < n → sum_below (λ s. bit (eqb s x)) n ≡ 1
sum_hit x zero h = omega arith
sum_hit x (suc n) h =
    elim (eqb_cases n x) [
      | inl p ↦ omega (arith, sum_miss x n (omega arith), ap bit p.1)
      | inr p ↦ omega (arith, sum_hit x n (omega arith), ap bit p.1)
    ]

-- double counting: a list of numbers below n is as long as the sum of how often each number stands in it
pub sum_count : (xs : List ℕ) (n : ℕ) → ((s : ℕ) → 0 < count s xs → s < n) → sum_below (λ s. count s xs) n ≡ length xs
sum_count [] n h = sum_zero n
sum_count (x ∷ xs) n h =
    let a = sum_add (λ s. bit (eqb s x)) (λ s. count s xs) n in
    let b = sum_hit x n (h x (omega (arith, bit_self x))) in
    let r = sum_count xs n (λ s q. h s (omega arith)) in
    omega arith

-- pigeonhole
pub pigeonhole : (xs : List ℕ) (n : ℕ) → ((s : ℕ) → 0 < count s xs → s < n) → ((s : ℕ) → count s xs ≤ 1) → length xs ≤ n
pigeonhole xs n h d = omega (arith, sum_count xs n h, sum_le (λ s. count s xs) n (λ s l. d s))

pub count_split : (s k : ℕ) (xs : List ℕ) → count s (take k xs) + count s (drop k xs) ≡ count s xs
count_split s k xs = omega (arith, count_append s (take k xs) (drop k xs), ap (count s) (take-append-drop k xs))

-- an element stands in its list
pub count_at : (xs : List ℕ) (i d : ℕ) → i < length xs → 0 < count (get_or xs i d) xs
count_at [] i d h = omega arith
count_at (x ∷ xs) zero d h = omega (arith, bit_self x)
count_at (x ∷ xs) (suc i) d h = let r = count_at xs i d (omega arith) in omega arith

-- no number twice: places are known by what stands there
pub once_at : (us : List ℕ) → ((s : ℕ) → count s us ≤ 1) → (j k : ℕ) → j < length us → k < length us → get_or us j 0 ≡ get_or us k 0 → j ≡ k
once_at [] o j k hj hk e = absurd (not-suc-le-zero hj)
once_at (u ∷ us) o zero zero hj hk e = refl
once_at (u ∷ us) o zero (suc k) hj hk e =
    let q = count_at us k 0 (omega arith) in
    let r = ap bit (eq-eqb (get_or us k 0) u (sym e)) in
    let t = o (get_or us k 0) in
    absurd (omega arith)
once_at (u ∷ us) o (suc j) zero hj hk e =
    let q = count_at us j 0 (omega arith) in
    let r = ap bit (eq-eqb (get_or us j 0) u e) in
    let t = o (get_or us j 0) in
    absurd (omega arith)
once_at (u ∷ us) o (suc j) (suc k) hj hk e = ap suc (once_at us (λ s. let t = o s in omega arith) j k (omega arith) (omega arith) e)
