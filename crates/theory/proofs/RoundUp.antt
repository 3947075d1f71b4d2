-- How many units hold a number of bytes.
use mathlib.Core.Path.{◌≡◌, sym, ◌∙◌}
use mathlib.Core.Logic.{◌≢◌}
use Prim.Native.Nat.{ℕ, zero, suc, ◌+◌, ◌-◌, ◌*◌, ◌/◌, ◌%◌, ◌≤◌, ◌<◌}
use native.Mathlib.Nat.{mul_comm, mul-le-mul_right, lt-div-mul-add, div-mul-le_self, div-add-mod', mod-lt, div-lt_iff_lt-mul, div-eq_of_lt-le, add-mul}
use native.Mathlib.Omega.{arith}
use native.Mathlib.Decide.{dec_lt}
use lib.Dec.{leb}
use borrow.Author.Tests.{le-leb, lt-leb}
use Rattle.format.specs.Layout.Need.{round_up}

pub round_enough : (n d : ℕ) → 0 < d → n ≤ round_up n d * d
unfolding round_up
round_enough n d h = let a = lt-div-mul-add {a = n + (d - 1)} {b = d} h in omega arith

pub round_zero : (d : ℕ) → 0 < d → round_up 0 d ≡ 0
unfolding round_up
round_zero d h =
    let a = div-mul-le_self (0 + (d - 1)) d in
    elim (dec_lt 0 ((0 + (d - 1)) / d)) [ yes p ↦ absurd (few ((0 + (d - 1)) / d) p (omega arith)) | no q ↦ omega arith ]
  where
    few : (k : ℕ) → 0 < k → k * d < d → ⊥
    few zero p q = omega arith
    few (suc k) p q = omega arith

pub round_lt : (j n d : ℕ) → 0 < d → j < n → j / d < round_up n d
unfolding round_up
round_lt j n d z h =
    let a = div-add-mod' (n + (d - 1)) d in
    let b = mod-lt (n + (d - 1)) z in
    (div-lt_iff_lt-mul z).1 (omega arith)

pub round_mono : (n m d : ℕ) → 0 < d → n ≤ m → round_up n d ≤ round_up m d
unfolding round_up
round_mono n m d z h =
    elim (dec_lt ((m + (d - 1)) / d) ((n + (d - 1)) / d)) [
      | yes p ↦
          let a = div-add-mod' (n + (d - 1)) d in
          let b = div-add-mod' (m + (d - 1)) d in
          let c = mod-lt (m + (d - 1)) z in
          absurd (omega (arith, a, b, c, mul-le-mul_right d p))
      | no p ↦ omega arith
    ]

-- by what a division leaves
module _ (n d : ℕ) (z : 0 < d) where
  pub round_whole : n % d ≡ 0 → round_up n d ≡ n / d
  unfolding round_up
  round_whole e = let a = div-add-mod' n d in div-eq_of_lt-le d (omega arith) (omega (arith, add-mul (n / d) 1 d))

  pub round_more : n % d ≢ 0 → round_up n d ≡ n / d + 1
  unfolding round_up
  round_more e =
      let a = div-add-mod' n d in
      let b = mod-lt n z in
      div-eq_of_lt-le d (omega (arith, add-mul (n / d) 1 d)) (omega (arith, add-mul (n / d) 1 d, add-mul (n / d + 1) 1 d))

-- ---- how many units are enough

pub round_le : (n d m : ℕ) → 0 < d → n ≤ d * m → round_up n d ≤ m
unfolding round_up
round_le n d m z h =
    let a : n + (d - 1) < suc m * d = omega (arith, h, mul_comm d m) in
    let b : round_up n d < suc m = (div-lt_iff_lt-mul {k = d} {x = n + (d - 1)} {y = suc m} z).1 a in
    omega arith

pub round_self : (n d : ℕ) → 0 < d → round_up n d ≤ n
round_self n d z = let a : 1 ≤ d = z in round_le n d n z (omega (arith, mul-le-mul_right n a))

-- a test without a product, which may be too large to be worked out
pub round_fits : (n d m : ℕ) → 0 < d → leb (round_up n d) m ≡ leb n (d * m)
round_fits n d m z =
    elim (dec_lt (d * m) n) [
      | yes h ↦ lt-leb (round_up n d) m (more h) ∙ sym (lt-leb n (d * m) h)
      | no h ↦ le-leb (round_up n d) m (round_le n d m z (omega arith)) ∙ sym (le-leb n (d * m) (omega arith))
    ]
  where
    more : d * m < n → m < round_up n d
    more h =
        elim (dec_lt m (round_up n d)) [
          | yes q ↦ q
          | no q ↦
              let a : round_up n d ≤ m = omega arith in
              absurd (omega (arith, h, round_enough n d z, mul-le-mul_right d a, mul_comm d m))
        ]
