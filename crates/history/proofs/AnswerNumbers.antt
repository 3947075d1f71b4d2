-- Which answer numbers come out of tests: 0, 26, or neither.
use Prim.Native.Nat.{ℕ, zero, suc, ◌≤◌}
use mathlib.Core.Path.{◌≡◌, refl, sym, ◌∙◌}
use mathlib.Core.Logic.{◌≢◌, ◌↔◌}
use mathlib.Core.Bool.{Bool, true, false, not, cond, ◌&&◌}
use native.Mathlib.Omega.{arith}
use lib.Dec.{eqb}
use borrow.Author.Tests.{eqb-true, eq-eqb, ne_eqb}
use Rattle.format.specs.Calls.Answer.{first_of}
use Rattle.format.specs.Calls.Find.{Found, at, refused, answer_of}
use Rattle.theory.proofs.Tests.{clash}
use Rattle.theory.proofs.Refusals.{RefusedLow}

-- no occasion of 26
pub cond_26_zero : (t : Bool) → cond {A = ℕ} t 26 0 ≡ 0 → t ≡ false
cond_26_zero true h = absurd (omega arith)
cond_26_zero false h = refl

pub write_zero_iff : (work_fits t : Bool) → (first_of (cond work_fits 0 2) (cond t 24 0) ≡ 0) ↔ ((work_fits && true && not t) ≡ true)
unfolding first_of
write_zero_iff true true = ((λ h. absurd (omega arith)), λ h. absurd (clash h refl))
write_zero_iff true false = ((λ h. refl), λ h. refl)
write_zero_iff false t = ((λ h. absurd (omega arith)), λ h. absurd (clash h refl))

pub length_zero_iff : (work_fits t : Bool) → (first_of (cond work_fits 0 2) (cond t 26 0) ≡ 0) ↔ ((work_fits && true && not t) ≡ true)
unfolding first_of
length_zero_iff true true = ((λ h. absurd (omega arith)), λ h. absurd (clash h refl))
length_zero_iff true false = ((λ h. refl), λ h. refl)
length_zero_iff false t = ((λ h. absurd (omega arith)), λ h. absurd (clash h refl))

pub length_26_iff : (work_fits t : Bool) → (first_of (cond work_fits 0 2) (cond t 26 0) ≡ 26) ↔ ((work_fits && true && t) ≡ true)
unfolding first_of
length_26_iff true true = ((λ h. refl), λ h. refl)
length_26_iff true false = ((λ h. absurd (omega arith)), λ h. absurd (clash h refl))
length_26_iff false t = ((λ h. absurd (omega arith)), λ h. absurd (clash h refl))

-- an answer that is neither 0 nor 26, and what comes after it
pub refused_not_0_26 : (work_fits : Bool) (n m : ℕ) → 20 ≤ n → n ≤ 23 → (first_of (cond work_fits 0 2) (first_of n m) ≢ 0) × (first_of (cond work_fits 0 2) (first_of n m) ≢ 26)
unfolding first_of
refused_not_0_26 true zero m a b = absurd (omega arith)
refused_not_0_26 true (suc n) m a b = ((λ h. omega arith), λ h. omega arith)
refused_not_0_26 false n m a b = ((λ h. omega arith), λ h. omega arith)

pub work_first_not_26 : (work_fits : Bool) (n : ℕ) → n ≢ 26 → first_of (cond work_fits 0 2) n ≢ 26
unfolding first_of
work_first_not_26 true n h e = h e
work_first_not_26 false n h e = omega arith

pub first_not_26 : (n m : ℕ) → n ≢ 26 → m ≢ 26 → first_of n m ≢ 26
unfolding first_of
first_not_26 zero m h k e = k e
first_not_26 (suc n) m h k e = h e

pub cond_not_26 : (t : Bool) (a b : ℕ) → a ≢ 26 → b ≢ 26 → cond t a b ≢ 26
cond_not_26 true a b h k e = h e
cond_not_26 false a b h k e = k e

pub refused_not_26 : (f : Found) → RefusedLow f → answer_of f ≢ 26
unfolding answer_of
refused_not_26 (at e b) l h = omega arith
refused_not_26 (refused n) l h = omega (arith, l.1)

pub iff_along : (a b : ℕ) (x y : Bool) (n : ℕ) → a ≡ b → x ≡ y → (b ≡ n) ↔ (y ≡ true) → (a ≡ n) ↔ (x ≡ true)
iff_along a b x y n p q h = rw (p, q) h

pub iff_never : (a n : ℕ) (x : Bool) → a ≢ n → x ≡ false → (a ≡ n) ↔ (x ≡ true)
iff_never a n x h q = ((λ e. absurd (h e)), λ e. absurd (clash e q))

-- ---- 0 or not

-- after the answer of the work buffer
pub zero_iff : (fits : Bool) (n : ℕ) (t : Bool) → eqb n 0 ≡ t → (first_of (cond fits 0 2) n ≡ 0) ↔ ((fits && t) ≡ true)
unfolding first_of
zero_iff true n t h = ((λ z. sym h ∙ eq-eqb n 0 z), λ z. eqb-true n 0 (h ∙ z))
zero_iff false n t h = ((λ z. absurd (omega arith)), λ z. absurd (clash z refl))

pub low_not_0 : (a : ℕ) → 20 ≤ a → eqb a 0 ≡ false
low_not_0 a h = ne_eqb a 0 (λ z. omega arith)

pub low_first_not_0 : (a m : ℕ) → 20 ≤ a → eqb (first_of a m) 0 ≡ false
unfolding first_of
low_first_not_0 zero m h = absurd (omega arith)
low_first_not_0 (suc a) m h = low_not_0 (suc a) h
