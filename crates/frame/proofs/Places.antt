-- Things of w bytes in sectors laid end to end: cells, entries, mini sectors.
use mathlib.Core.Path.{◌≡◌, ap}
use mathlib.Core.Logic.{◌≢◌, ◌⊎◌, inl, inr}
use Prim.Native.Nat.{ℕ, suc, ◌+◌, ◌*◌, ◌/◌, ◌%◌, ◌≤◌, ◌<◌}
use native.Mathlib.Nat.{mul-le-mul_left, div-add-mod', mod-lt, div-lt_iff_lt-mul, mul_comm}
use native.Mathlib.Decide.{dec_lt}
use native.Mathlib.Omega.{arith}

-- ---- places

-- U bytes hold c things of w bytes
module _ (U w c : ℕ) (e : U ≡ c * w) (z : 0 < U) where
  pub thing_fits : (k : ℕ) → w * k % U + w ≤ U
  thing_fits k = go (dec_lt k (suc (w * k / U) * c))
    where
      d : w * k / U * U + w * k % U ≡ w * k
      d = div-add-mod' (w * k) U

      m : w * k % U < U
      m = mod-lt (w * k) z

      go : Dec (k < suc (w * k / U) * c) → w * k % U + w ≤ U
      go (yes h) = omega (arith, d, m, mul-le-mul_left w h, ap (λ (x : ℕ). w * k / U * x) e, e, mul_comm w c)
      go (no h) =
          let h' : suc (w * k / U) * c ≤ k = omega arith in
          omega (arith, d, m, mul-le-mul_left w h', ap (λ (x : ℕ). w * k / U * x) e, e, mul_comm w c)

  pub things_apart : (x y : ℕ) → x ≢ y → w * x / U ≡ w * y / U → (w * x % U + w ≤ w * y % U) ⊎ (w * y % U + w ≤ w * x % U)
  things_apart x y n q = go (dec_lt x y) (dec_lt y x)
    where
      dx : w * x / U * U + w * x % U ≡ w * x
      dx = div-add-mod' (w * x) U

      dy : w * y / U * U + w * y % U ≡ w * y
      dy = div-add-mod' (w * y) U

      qq : w * x / U * U ≡ w * y / U * U
      qq = ap (λ (t : ℕ). t * U) q

      go : Dec (x < y) → Dec (y < x) → (w * x % U + w ≤ w * y % U) ⊎ (w * y % U + w ≤ w * x % U)
      go (yes h) b = inl (omega (arith, dx, dy, qq, mul-le-mul_left w h))
      go (no a) (yes h) = inr (omega (arith, dx, dy, qq, mul-le-mul_left w h))
      go (no a) (no b) = absurd (n (omega arith))

  -- thing k of n units' lies in one of them
  pub thing_index : (n k : ℕ) → k < c * n → w * k / U < n
  thing_index n k h = (div-lt_iff_lt-mul z).1 (go (dec_lt 0 w))
    where
      go : Dec (0 < w) → w * k < n * U
      go (yes p) = let r = mul-le-mul_left w h in omega (arith, ap (λ (x : ℕ). n * x) e, r, p)
      go (no p) = let r : w ≡ 0 = omega arith in absurd (omega (arith, e, ap (λ (x : ℕ). c * x) r, z))
