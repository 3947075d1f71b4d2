-- The numbers below a bound that pass a test.
use mathlib.Core.Path.{◌≡◌, refl, sym, ◌∙◌, ap}
use mathlib.Core.Logic.{◌≢◌, inl, inr}
use mathlib.Core.Bool.{Bool, true, false, not, cond}
use mathlib.Core.List.{List, [], ◌∷◌, ◌++◌, append_assoc, append-nil}
use Prim.Native.Nat.{ℕ, zero, suc, ◌+◌, ◌≤◌, ◌<◌}
use native.Mathlib.Omega.{arith}
use native.Mathlib.Decide.{ℕ_discrete, dec_le}
use native.Mathlib.Numerals.{add-one}
use borrow.Author.Tests.{eq-eqb}
use lib.ListN.{length, length-append}
use Rattle.format.specs.Basics.Lists.{bit, count, pick_below, list_below}
use Rattle.theory.specs.Sums.{sum_below}
use Rattle.theory.proofs.Counts.{eqb_cases, bit_self, bit_other, count_append}

pub one_ne : (b : Bool) (s n : ℕ) → s ≢ n → count s (cond b (n ∷ []) []) ≡ 0
one_ne true s n q = let r = bit_other s n q in omega arith
one_ne false s n q = refl

pub one_self : (b : Bool) (n : ℕ) → count n (cond b (n ∷ []) []) ≡ bit b
one_self true n = let r = bit_self n in omega arith
one_self false n = refl

pub length_one : (b : Bool) (n : ℕ) → length (cond b (n ∷ []) []) ≡ bit b
length_one true n = refl
length_one false n = refl

pub pick_above : (p : ℕ → Bool) (s n : ℕ) → n ≤ s → count s (pick_below n p) ≡ 0
pick_above p s zero h = refl
pick_above p s (suc n) h =
    let a = count_append s (pick_below n p) (cond (p n) (n ∷ []) []) in
    let r = pick_above p s n (omega arith) in
    let q = one_ne (p n) s n (omega arith) in
    omega arith

pub pick_below_lem : (p : ℕ → Bool) (s n : ℕ) → s < n → count s (pick_below n p) ≡ bit (p s)
pick_below_lem p s zero h = omega arith
pick_below_lem p s (suc n) h =
    let a = count_append s (pick_below n p) (cond (p n) (n ∷ []) []) in
    elim (eqb_cases s n) [
      | inl e ↦
          let z = pick_above p s n (omega arith) in
          let y : count s (cond (p n) (n ∷ []) []) ≡ bit (p s) = rw e.0 (one_self (p n) n) in
          omega arith
      | inr e ↦
          let r = pick_below_lem p s n (omega arith) in
          let q = one_ne (p n) s n e.0 in
          omega arith
    ]

pub length_pick : (p : ℕ → Bool) (n : ℕ) → length (pick_below n p) ≡ sum_below (λ s. bit (p s)) n
length_pick p zero = refl
length_pick p (suc n) = omega (arith, length-append (pick_below n p) (cond (p n) (n ∷ []) []), length_pick p n, length_one (p n) n)

-- the same numbers pass
pub pick_same : (p q : ℕ → Bool) (n : ℕ) → ((u : ℕ) → u < n → q u ≡ p u) → pick_below n q ≡ pick_below n p
pick_same p q zero h = refl
pick_same p q (suc n) h = rw (h n (omega arith), pick_same p q n (λ u l. h u (omega arith)))

bit_not : (b : Bool) → bit (not b) + bit b ≡ 1
bit_not true = refl
bit_not false = refl

-- what passes and what does not come to all
pub pick_both : (p : ℕ → Bool) (n : ℕ) → length (pick_below n (λ s. not (p s))) + length (pick_below n p) ≡ n
pick_both p zero = refl
pick_both p (suc n) =
    omega (
      arith,
      pick_both p n,
      bit_not (p n),
      length-append (pick_below n p) (cond (p n) (n ∷ []) []),
      length_one (p n) n,
      length-append (pick_below n (λ s. not (p s))) (cond (not (p n)) (n ∷ []) []),
      length_one (not (p n)) n,
    )

-- what stands at a number below the bound is in the list of all
pub count_below : (n : ℕ) (f : ℕ → ℕ) (j : ℕ) → j < n → 0 < count (f j) (list_below n f)
unfolding list_below
count_below zero f j h = absurd (omega arith)
count_below (suc n) f j h =
    let a = count_append (f j) (list_below n f) (f n ∷ []) in
    elim (ℕ_discrete j n) [
      | yes e ↦ let q = ap bit (eq-eqb (f j) (f n) (ap f e)) in omega arith
      | no e ↦ let r = count_below n f j (omega arith) in omega arith
    ]

-- ---- as the bound rises

-- where none passes, none comes
pub pick_skip : (p : ℕ → Bool) (i n : ℕ) → i ≤ n → ((u : ℕ) → i ≤ u → u < n → p u ≡ false) → pick_below n p ≡ pick_below i p
pick_skip p i zero h none = let z : 0 ≡ i = omega arith in ap (λ k. pick_below k p) z
pick_skip p i (suc n) h none =
    elim (dec_le i n) [
      | yes l ↦ rw (none n l (omega arith)) (append-nil _ ∙ pick_skip p i n l (λ u a b. none u a (omega arith)))
      | no l ↦ let z : suc n ≡ i = omega arith in ap (λ k. pick_below k p) z
    ]

-- one that passes comes last
pub pick_more : (p : ℕ → Bool) (u : ℕ) → p u ≡ true → pick_below (u + 1) p ≡ pick_below u p ++ (u ∷ [])
pick_more p u e = rw (add-one, e)

-- those below a place are the first of all
pub pick_front : (p : ℕ → Bool) (i n : ℕ) → i ≤ n → (ys : List ℕ) × (pick_below n p ≡ pick_below i p ++ ys)
pick_front p i zero h = let z : 0 ≡ i = omega arith in ([], ap (λ k. pick_below k p) z ∙ sym (append-nil _))
pick_front p i (suc n) h =
    elim (dec_le i n) [
      | yes l ↦
          let r = pick_front p i n l in
          let x = cond (p n) (n ∷ []) [] in
          (r.0 ++ x, rw r.1 (append_assoc (pick_below i p) r.0 x))
      | no l ↦ let z : suc n ≡ i = omega arith in ([], ap (λ k. pick_below k p) z ∙ sym (append-nil _))
    ]
