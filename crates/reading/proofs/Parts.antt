-- Parts of bytes, and places inside a unit of U bytes.
use Prim.Native.Nat.{ℕ, ◌+◌, ◌*◌, ◌/◌, ◌%◌, ◌≤◌, ◌<◌}
use mathlib.Core.Path.{◌≡◌, refl, sym, ◌∙◌, ap}
use mathlib.Core.List.{[], ◌++◌}
use native.Mathlib.Nat.{div-add-mod', add-mul, div-eq_of_lt-le}
use native.Mathlib.Omega.{arith}
use lib.ListN.{length, get_or, take, drop}
use lib.Seq.{length-sets, get_or-take, get_or-drop, ext_get_or, take-add, drop-drop}
use Rattle.format.specs.Basics.Bytes.{Bytes, part, put_bytes}
use Rattle.theory.proofs.ByteTests.{length_part}

-- ---- parts

pub part_at : (b : Bytes) (p n i : ℕ) → i < n → get_or (part b p n) i 0 ≡ get_or b (p + i) 0
unfolding part
part_at b p n i h = get_or-take n (drop p b) i 0 h ∙ get_or-drop p b i 0

pub part_none : (b : Bytes) (p : ℕ) → part b p 0 ≡ []
unfolding part
part_none b p = refl

pub part_more : (b : Bytes) (p i k : ℕ) → part b p (i + k) ≡ part b p i ++ part b (p + i) k
unfolding part
part_more b p i k = take-add i k (drop p b) ∙ ap (λ r. take i (drop p b) ++ take k r) (drop-drop i p b)

pub put_length : (b : Bytes) (i : ℕ) (x : Bytes) → length (put_bytes b i x) ≡ length b
unfolding put_bytes
put_length b i x = length-sets b i x

-- two parts with the same bytes
pub part_equal : (a b : Bytes) (p q n : ℕ) → p + n ≤ length a → q + n ≤ length b → ((i : ℕ) → i < n → get_or a (p + i) 0 ≡ get_or b (q + i) 0) → part a p n ≡ part b q n
part_equal a b p q n h k e =
    let l = length_part a p n h in
    ext_get_or 0 (part a p n) (part b q n) (l ∙ sym (length_part b q n k))
    (λ i s. let t : i < n = rw l at s in part_at a p n i t ∙ e i t ∙ sym (part_at b q n i t))

-- ---- a number inside a unit

module _ (U j i : ℕ) (h : j % U + i < U) where
  pub run_div : (j + i) / U ≡ j / U
  run_div = let a = div-add-mod' j U in div-eq_of_lt-le U (omega arith) (omega (arith, add-mul (j / U) 1 U))

  pub run_mod : (j + i) % U ≡ j % U + i
  run_mod = let a = div-add-mod' j U in let b = div-add-mod' (j + i) U in omega (arith, a, b, ap (λ q. q * U) run_div)

-- and up to its end
module _ (U j i : ℕ) (z : 0 < U) (h : j % U + i ≡ U) where
  pub end_div : (j + i) / U ≡ j / U + 1
  end_div = let a = div-add-mod' j U in div-eq_of_lt-le U (omega (arith, add-mul (j / U) 1 U)) (omega (arith, add-mul (j / U) 1 U, add-mul (j / U + 1) 1 U))

  pub end_mod : (j + i) % U ≡ 0
  end_mod = let a = div-add-mod' j U in let b = div-add-mod' (j + i) U in omega (arith, a, b, ap (λ q. q * U) end_div, add-mul (j / U) 1 U)
