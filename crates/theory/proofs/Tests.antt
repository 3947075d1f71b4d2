-- Tests that are true or false, and tests over the numbers below a limit and over lists.
use mathlib.Core.Path.{◌≡◌, refl, sym, ap, ap₂, ◌∙◌}
use mathlib.Core.Logic.{inl, inr}
use mathlib.Core.Bool.{Bool, true, false, not, cond, ◌&&◌, ◌||◌, beq, and_assoc, or_assoc, and-false}
use mathlib.Core.List.{List, [], ◌∷◌, ◌++◌}
use Prim.Native.Nat.{ℕ, zero, suc, ◌≤◌, ◌<◌}
use native.Mathlib.Omega.{arith}
use native.Mathlib.Decide.{ℕ_discrete, dec_lt}
use lib.Dec.{ltb, leb}
use borrow.Author.Tests.{lt-ltb, le-ltb, le-leb, lt-leb}
use Rattle.format.specs.Basics.Lists.{bit, count, all_below, all, any}
use Rattle.theory.proofs.Counts.{eqb_cases}

-- ---- and, or

pub clash : {b : Bool} → b ≡ true → b ≡ false → ⊥
clash {b} p q = let z = ap (λ (b : Bool). cond {A = ℕ} b 0 1) (sym p ∙ q) in omega arith

pub false_of : (b : Bool) → (b ≡ true → ⊥) → b ≡ false
false_of true f = absurd (f refl)
false_of false f = refl

pub both : (a b : Bool) → (a && b) ≡ true → (a ≡ true) × (b ≡ true)
both true b h = (refl, h)
both false b h = absurd (clash h refl)

pub and_true_of : (a b : Bool) → a ≡ true → b ≡ true → (a && b) ≡ true
and_true_of a b p q = rw (p, q)

pub neither : (a b : Bool) → (a || b) ≡ false → (a ≡ false) × (b ≡ false)
neither true b h = absurd (clash refl h)
neither false b h = (refl, h)

pub or_only : (a : Bool) → (a || false) ≡ true → a ≡ true
or_only true h = refl
or_only false h = h

pub beq_self : (b : Bool) → beq b b ≡ true
beq_self true = refl
beq_self false = refl

pub beq_true : (b : Bool) → beq true b ≡ b
beq_true true = refl
beq_true false = refl

pub beq_false : (b : Bool) → beq false b ≡ not b
beq_false true = refl
beq_false false = refl

pub beq_not : (b : Bool) → beq (not b) b ≡ false
beq_not true = refl
beq_not false = refl

pub beq_equal : (a b : Bool) → beq a b ≡ true → a ≡ b
beq_equal true true h = refl
beq_equal true false h = sym h
beq_equal false true h = h
beq_equal false false h = refl

pub leb_not : (a b : ℕ) → leb a b ≡ not (ltb b a)
leb_not a b =
    elim (dec_lt b a) [
      | yes p ↦ rw (lt-ltb b a p, lt-leb a b p)
      | no q ↦ let z : a ≤ b = omega arith in rw (le-ltb b a z, le-leb a b z)
    ]

-- ---- every number below a limit

pub below_at : (n : ℕ) (p : ℕ → Bool) → all_below n p ≡ true → (s : ℕ) → s < n → p s ≡ true
unfolding all_below
below_at zero p t s h = absurd (omega arith)
below_at (suc n) p t s h =
    let q = both (all_below n p) (p n) t in
    elim (ℕ_discrete s n) [ yes e ↦ ap p e ∙ q.1 | no e ↦ below_at n p q.0 s (omega arith) ]

pub below_of : (n : ℕ) (p : ℕ → Bool) → ((s : ℕ) → s < n → p s ≡ true) → all_below n p ≡ true
unfolding all_below
below_of zero p h = refl
below_of (suc n) p h = and_true_of (all_below n p) (p n) (below_of n p (λ s q. h s (omega arith))) (h n (omega arith))

pub below_ext : (n : ℕ) (p q : ℕ → Bool) → ((i : ℕ) → i < n → q i ≡ p i) → all_below n q ≡ all_below n p
unfolding all_below
below_ext zero p q h = refl
below_ext (suc n) p q h = ap₂ ◌&&◌ (below_ext n p q (λ i l. h i (omega arith))) (h n (omega arith))

pub below_both : (n : ℕ) (p q : ℕ → Bool) → all_below n (λ i. p i && q i) ≡ (all_below n p && all_below n q)
unfolding all_below
below_both zero p q = refl
below_both (suc n) p q = rw (below_both n p q) (swap (all_below n p) (all_below n q) (p n) (q n))
  where
    swap : (a b c d : Bool) → ((a && b) && (c && d)) ≡ ((a && c) && (b && d))
    swap false b c d = refl
    swap true true c d = refl
    swap true false c d = sym (and-false c)

-- ---- every element

pub all_at : (p : ℕ → Bool) (xs : List ℕ) → all p xs ≡ true → (s : ℕ) → 0 < count s xs → p s ≡ true
unfolding all
all_at p [] t s h = absurd (omega arith)
all_at p (x ∷ xs) t s h =
    let q = both (p x) (all p xs) t in
    elim (eqb_cases s x) [
      | inl e ↦ ap p e.0 ∙ q.0
      | inr e ↦ all_at p xs q.1 s (omega (arith, ap bit e.1))
    ]

pub all_append : {A : Type 0} (p : A → Bool) (xs ys : List A) → all p (xs ++ ys) ≡ (all p xs && all p ys)
unfolding all
all_append p [] ys = refl
all_append p (x ∷ xs) ys = rw (all_append p xs ys) (sym (and_assoc (p x) (all p xs) (all p ys)))

pub all_joined : {A : Type 0} (p : A → Bool) (xs ys : List A) → all p xs ≡ true → all p ys ≡ true → all p (xs ++ ys) ≡ true
all_joined p xs ys h k = all_append p xs ys ∙ and_true_of (all p xs) (all p ys) h k

pub all_weaker : {A : Type 0} (p q : A → Bool) → ((x : A) → p x ≡ true → q x ≡ true) → (xs : List A) → all p xs ≡ true → all q xs ≡ true
unfolding all
all_weaker p q h [] t = refl
all_weaker p q h (x ∷ xs) t =
    let u = both (p x) (all p xs) t in
    and_true_of (q x) (all q xs) (h x u.0) (all_weaker p q h xs u.1)

-- ---- some element

pub any_append : {A : Type 0} (p : A → Bool) (xs ys : List A) → any p (xs ++ ys) ≡ (any p xs || any p ys)
unfolding any
any_append p [] ys = refl
any_append p (x ∷ xs) ys = rw (any_append p xs ys) (sym (or_assoc (p x) (any p xs) (any p ys)))
