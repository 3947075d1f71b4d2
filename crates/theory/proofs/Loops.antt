-- Tests and counts over the numbers below a limit, as loops that count up meet them.
use Prim.Native.Nat.{ℕ, zero, suc, ◌+◌, ◌≤◌, ◌<◌}
use mathlib.Core.Path.{◌≡◌, refl, sym, ◌∙◌, ap}
use mathlib.Core.Bool.{Bool, true, false, not, ◌&&◌, and-true, and-false, and_assoc}
use mathlib.Core.List.{List, [], ◌∷◌}
use mathlib.Core.Logic.{inl, inr}
use native.Mathlib.Nat.{add-zero, add-suc}
use native.Mathlib.Numerals.{add-one}
use native.Mathlib.Decide.{ℕ_discrete, dec_lt}
use native.Mathlib.Omega.{arith}
use lib.Dec.{ltb, eqb}
use borrow.Author.Tests.{ltb-true, ltb-false, lt-ltb, le-ltb, ne_eqb, not-true, not-false}
use Rattle.format.specs.Basics.Lists.{all_below, all, list_below, count, member, distinct, bit}
use Rattle.theory.proofs.Counts.{eqb_cases, bit_self, count_append}
use Rattle.theory.proofs.Tests.{clash, all_append, below_ext}

-- ---- what a test `if !g(..)` says of the definition that g answers

pub said_no : {r t : Bool} → not r ≡ true → r ≡ t → t ≡ false
said_no {r} h e = sym e ∙ not-true r h

pub said_yes : {r t : Bool} → not r ≡ false → r ≡ t → t ≡ true
said_yes {r} h e = sym e ∙ not-false r h

-- the same of a test against how many there are
pub said_below : {r : Bool} (s n : ℕ) {limit : ℕ} → not r ≡ false → r ≡ ltb s n → n ≡ limit → s < limit
said_below s n h e z = omega (arith, ltb-true s n (said_yes h e))

pub said_beyond : {r : Bool} (s n : ℕ) {limit : ℕ} → not r ≡ true → r ≡ ltb s n → n ≡ limit → limit ≤ s
said_beyond s n h e z = omega (arith, ltb-false s n (said_no h e))

-- ---- every number below a limit

module _ (p : ℕ → Bool) where
  pub below_none : all_below 0 p ≡ true
  unfolding all_below
  below_none = refl

  pub below_more : (n : ℕ) → all_below n p ≡ true → p n ≡ true → all_below (n + 1) p ≡ true
  unfolding all_below
  below_more n a b = rw (add-one, a, b)

  -- the same of a test that goes on
  pub below_next : (n : ℕ) → all_below (n + 1) p ≡ (all_below n p && p n)
  unfolding all_below
  below_next n = rw add-one

  pub below_not : (n i : ℕ) → i < n → p i ≡ false → all_below n p ≡ false
  unfolding all_below
  below_not zero i h e = absurd (omega arith)
  below_not (suc n) i h e =
      elim (ℕ_discrete i n) [
        | yes z ↦ rw (← z, e) (and-false (all_below i p))
        | no z ↦ rw (below_not n i (omega arith) e)
      ]

-- those below a, and the next k
below_add : (p : ℕ → Bool) (a k : ℕ) → all_below (a + k) p ≡ (all_below a p && all_below k (λ i. p (a + i)))
unfolding all_below
below_add p a zero = rw add-zero (sym (and-true (all_below a p)))
below_add p a (suc k) = rw (add-suc, below_add p a k) (and_assoc (all_below a p) (all_below k (λ i. p (a + i))) (p (a + k)))

-- the same, where another test says of the next k what this one does
pub below_join : (p q : ℕ → Bool) (a k : ℕ) {x y : Bool} → x ≡ all_below a p → y ≡ all_below k q → ((i : ℕ) → i < k → q i ≡ p (a + i)) → (x && y) ≡ all_below (a + k) p
below_join p q a k e d h = rw (below_add p a k, e, d, below_ext k (λ i. p (a + i)) q h)

pub all_below_lem : (p : ℕ → Bool) (n : ℕ) (f : ℕ → ℕ) → all p (list_below n f) ≡ all_below n (λ i. p (f i))
unfolding all list_below all_below
all_below_lem p zero f = refl
all_below_lem p (suc n) f = all_append p (list_below n f) (f n ∷ []) ∙ rw (all_below_lem p n f, and-true (p (f n)))

-- ---- counts in the list of f 0, f 1 .. f (n - 1)

module _ (s : ℕ) where
  pub count_none : (f : ℕ → ℕ) → count s (list_below 0 f) ≡ 0
  unfolding list_below
  count_none f = refl

  pub count_more : (n : ℕ) (f : ℕ → ℕ) → count s (list_below (n + 1) f) ≡ count s (list_below n f) + bit (eqb s (f n))
  unfolding list_below
  count_more n f = rw add-one (let a = count_append s (list_below n f) (f n ∷ []) in omega arith)

  pub count_le : (k n : ℕ) (f : ℕ → ℕ) → k ≤ n → count s (list_below k f) ≤ count s (list_below n f)
  unfolding list_below
  count_le k zero f h = let z : k ≡ 0 = omega arith in rw z (omega arith)
  count_le k (suc n) f h =
      elim (ℕ_discrete k (suc n)) [
        | yes z ↦ rw z (omega arith)
        | no z ↦ omega (arith, count_le k n f (omega arith), count_append s (list_below n f) (f n ∷ []))
      ]

  pub count_absent : (n : ℕ) (f : ℕ → ℕ) → ((k : ℕ) → k < n → s ≡ f k → ⊥) → count s (list_below n f) ≡ 0
  unfolding list_below
  count_absent zero f h = refl
  count_absent (suc n) f h =
      omega (arith, count_append s (list_below n f) (f n ∷ []), ap bit (ne_eqb s (f n) (h n (omega arith))), count_absent n f (λ k l. h k (omega arith)))

-- ---- no number twice

pub distinct_of : (xs : List ℕ) → ((s : ℕ) → count s xs ≤ 1) → distinct xs ≡ true
unfolding distinct member
distinct_of [] h = refl
distinct_of (x ∷ xs) h =
    let z : count x xs ≤ 0 = omega (arith, h x, bit_self x) in
    rw (le-ltb 0 (count x xs) z, distinct_of xs (λ s. omega (arith, h s)))

pub distinct_not : (xs : List ℕ) (s : ℕ) → 1 < count s xs → distinct xs ≡ false
unfolding distinct member
distinct_not [] s h = absurd (omega arith)
distinct_not (x ∷ xs) s h =
    elim (eqb_cases s x) [
      | inl e ↦ let b = ap bit e.1 in let z : 0 < count x xs = rw (← e.0) (omega arith) in rw (lt-ltb 0 (count x xs) z)
      | inr e ↦ let b = ap bit e.1 in rw (distinct_not xs s (omega arith)) (and-false (not (ltb 0 (count x xs))))
    ]

pub distinct_once : (xs : List ℕ) (s : ℕ) → distinct xs ≡ true → count s xs ≤ 1
distinct_once xs s h = elim (dec_lt 1 (count s xs)) [ yes q ↦ absurd (clash h (distinct_not xs s q)) | no q ↦ omega arith ]
