-- Places of things of k bytes each, of which a sector of w bytes holds `per`.
use Prim.Native.Nat.{ℕ, ◌+◌, ◌*◌, ◌/◌, ◌%◌, ◌<◌}
use mathlib.Core.Path.{◌≡◌, sym, ◌∙◌, ap}
use native.Mathlib.Nat.{mul-div-mul_left, div-add-mod', div-lt_iff_lt-mul, div-eq_of_lt-le, mul_comm, mul_assoc, mul-add}
use native.Mathlib.Omega.{arith}

module _ (k per : ℕ) {w : ℕ} (e : k * per ≡ w) (h : 0 < k) where
  pub scale_div : (s : ℕ) → k * s / w ≡ s / per
  scale_div s = ap (λ n. k * s / n) (sym e) ∙ mul-div-mul_left s per h

  pub scale_mod : (s : ℕ) → k * s % w ≡ k * (s % per)
  scale_mod s =
      let a = div-add-mod' (k * s) w in
      let b : k * (s / per * per) + k * (s % per) ≡ k * s = sym (mul-add k (s / per * per) (s % per)) ∙ ap (λ n. k * n) (div-add-mod' s per) in
      let c : k * s / w * w ≡ k * (s / per * per) =
      ap (λ q. q * w) (scale_div s) ∙ ap (λ n. s / per * n) (sym e) ∙ sym (mul_assoc (s / per) k per) ∙ ap (λ n. n * per) (mul_comm (s / per) k) ∙ mul_assoc k (s / per) per in
      omega (arith, a, b, c)

-- the next i of them, where the sector that holds number s holds these too
module _ (per s i : ℕ) (h : s % per + i < per) where
  pub near_div : (s + i) / per ≡ s / per
  near_div = div-eq_of_lt-le per (omega (arith, div-add-mod' s per)) (omega (arith, div-add-mod' s per))

  pub near_mod : (s + i) % per ≡ s % per + i
  near_mod = omega (arith, div-add-mod' s per, div-add-mod' (s + i) per, ap (λ q. q * per) near_div)

-- the sector that holds number s of them
pub scale_below : (per n s : ℕ) → 0 < per → s < per * n → s / per < n
scale_below per n s h l = (div-lt_iff_lt-mul {k = per} {x = s} {y = n} h).1 (omega (arith, mul_comm per n))
