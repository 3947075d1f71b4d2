-- The decimal digits of a number of 64 bits, the last one first.
use mathlib.Core.Path.{◌≡◌, ap, sym, ◌∙◌}
use mathlib.Core.Bool.{Bool, true, false, cond}
use mathlib.Core.List.{[], ◌∷◌, ◌++◌}
use Prim.Native.Nat.{ℕ, zero, suc, ◌+◌, ◌/◌, ◌%◌, ◌^◌, ◌≤◌, ◌<◌}
use native.Mathlib.Omega.{arith}
use native.Mathlib.Decide.{dec_lt}
use lib.Dec.{ltb}
use lib.ListN.{length, take, get_or, length-append}
use lib.Seq.{take_at, get_or_at}
use borrow.Author.Tests.{lt-ltb, le-ltb}
use Rattle.format.specs.Basics.Bytes.{Bytes}
use Rattle.format.specs.Calls.Text.{digits, decimal}
use Rattle.theory.proofs.Digits.{digits_enough}

digits_most : (m n : ℕ) → length (digits m n) ≤ m
unfolding digits
digits_most zero n = omega arith
digits_most (suc m) n = go (ltb n 10) (omega (arith, digits_most m (n / 10), length-append (digits m (n / 10)) ((0x30 + n % 10) ∷ [])))
  where
    go : (b : Bool) → length (digits m (n / 10) ++ ((0x30 + n % 10) ∷ [])) ≤ suc m
        → length (cond b ((0x30 + n) ∷ []) (digits m (n / 10) ++ ((0x30 + n % 10) ∷ []))) ≤ suc m
    go true h = omega arith
    go false h = h

digits_short : (m n : ℕ) → n < 10 → digits (suc m) n ≡ (0x30 + n) ∷ []
unfolding digits
digits_short m n h = rw (lt-ltb n 10 h)

digits_long : (m n : ℕ) → 10 ≤ n → digits (suc m) n ≡ digits m (n / 10) ++ ((0x30 + n % 10) ∷ [])
unfolding digits
digits_long m n h = rw (le-ltb n 10 h)

pub decimal_most : (n : ℕ) → length (decimal n) ≤ 20
unfolding decimal
decimal_most n = digits_most 20 n

pub decimal_short : (n : ℕ) → n < 10 → decimal n ≡ (0x30 + n) ∷ []
unfolding decimal
decimal_short n h = digits_short 19 n h

pub decimal_long : (n : ℕ) → 10 ≤ n → n < 2 ^ 64 → decimal n ≡ decimal (n / 10) ++ ((0x30 + n % 10) ∷ [])
unfolding decimal
decimal_long n h b = digits_long 19 n h ∙ ap (λ (l : Bytes). l ++ ((0x30 + n % 10) ∷ [])) (sym (digits_enough 18 (n / 10) (omega arith)))

pub decimal_length_short : (n : ℕ) → n < 10 → length (decimal n) ≡ 1
decimal_length_short n h = ap length (decimal_short n h)

pub decimal_length_step : (n : ℕ) → 10 ≤ n → n < 2 ^ 64 → length (decimal n) ≡ length (decimal (n / 10)) + 1
decimal_length_step n h b = ap length (decimal_long n h b) ∙ length-append (decimal (n / 10)) ((0x30 + n % 10) ∷ [])

-- ---- counting: of n's digits k are counted, and those of m are left

pub record Counted (n k m : ℕ) : Type 0 where
  pub fits : m < 2 ^ 64
  pub more : 0 < m → k + length (decimal m) ≡ length (decimal n)
  pub done : m ≡ 0 → k ≡ length (decimal n)

pub counted_start : (n : ℕ) → n < 2 ^ 64 → Counted n 1 (n / 10)
counted_start n b =
    record {
      fits = omega arith;
      more = λ h. omega (arith, decimal_length_step n (omega arith) b);
      done = λ h. sym (decimal_length_short n (omega arith));
    }

module _ {n k m : ℕ} (c : Counted n k m) where
  pub counted_next : 0 < m → Counted n (k + 1) (m / 10)
  counted_next p =
      record {
        fits = omega (arith, c.fits);
        more = λ h. omega (arith, c.more p, decimal_length_step m (omega arith) c.fits);
        done = λ h. omega (arith, c.more p, decimal_length_short m (omega arith));
      }

  pub counted_most : k ≤ 20
  counted_most =
      elim (dec_lt 0 m) [
        | yes h ↦ omega (arith, c.more h, decimal_most n)
        | no h ↦ omega (arith, c.done (omega arith), decimal_most n)
      ]

-- ---- the last digit, and those before it

module _ (m j : ℕ) (b : m < 2 ^ 64) (l : length (decimal m) ≡ j + 1) where
  pub last_digit : get_or (decimal m) j 0 ≡ 0x30 + m % 10
  last_digit =
      elim (dec_lt m 10) [
        | yes h ↦ let z : j ≡ 0 = omega (arith, decimal_length_short m h) in let r : m % 10 ≡ m = omega arith in rw (decimal_short m h, z, r)
        | no h ↦ rw (decimal_long m (omega arith) b) (get_or_at (decimal (m / 10)) (0x30 + m % 10) [] 0 j (omega (arith, decimal_length_step m (omega arith) b)))
      ]

  pub front_digits : 0 < j → take j (decimal m) ≡ decimal (m / 10)
  front_digits p =
      elim (dec_lt m 10) [
        | yes h ↦ absurd (omega (arith, decimal_length_short m h))
        | no h ↦ rw (decimal_long m (omega arith) b) (take_at (decimal (m / 10)) ((0x30 + m % 10) ∷ []) j (omega (arith, decimal_length_step m (omega arith) b)))
      ]
