-- Sums of ticks, record by record.
use Prim.Native.Nat.{ℕ, zero, suc, ◌+◌, ◌*◌, ◌≤◌, ◌<◌}
use mathlib.Core.Path.{◌≡◌, refl, ap}
use mathlib.Core.Bool.{true, false}
use native.Mathlib.Omega.{arith}
use native.Mathlib.Numerals.{add-one}
use Rattle.format.specs.Basics.Bytes.{Bytes, AreBytes, u32at}
use Rattle.format.specs.Basics.Lists.{all_below, list_below, sum}
use Rattle.theory.proofs.Tests.{clash, false_of, and_true_of, below_at}
use Rattle.theory.proofs.Bytes.{u32_lt}
use Rattle.pulse_laws.proofs.PulseStreams.{sum_snoc}
use Rattle.pulse_records.specs.Records.{pulse_in, right_at, right_from, ticks_from, sum_from}
use Rattle.std.specs.Prelude.{Some, None}

module _ (b : Bytes) (first : ℕ) where
  pub sum_next : (k : ℕ) → sum (list_below (suc k) (ticks_from b first)) ≡ sum (list_below k (ticks_from b first)) + ticks_from b first k
  unfolding list_below
  sum_next k = sum_snoc (list_below k (ticks_from b first)) (ticks_from b first k)

  -- each record has less than 2 to the 32 ticks
  pub ticks_low : AreBytes b → (k : ℕ) → ticks_from b first k < 0x1_0000_0000
  unfolding ticks_from
  ticks_low h k = u32_lt b (first + 8 * k + 4) h

  pub sum_most : AreBytes b → (k : ℕ) → sum (list_below k (ticks_from b first)) ≤ k * 0x1_0000_0000
  unfolding list_below sum
  sum_most h zero = omega arith
  sum_most h (suc k) = omega (arith, sum_next k, sum_most h k, ticks_low h k)

-- record k of those from the first byte on
module _ (b : Bytes) (k at : ℕ) (e : at ≡ 8 * k) where
  place_first : at ≡ 0 + 8 * k
  place_first = omega arith

  pub right_first : right_at b at ≡ right_from b 0 k
  unfolding right_from
  right_first = ap (right_at b) place_first

  pub ticks_first : (pulse_in b at).ticks.0 ≡ ticks_from b 0 k
  unfolding pulse_in ticks_from
  ticks_first = ap (λ (i : ℕ). u32at b (i + 4)) place_first

-- ---- the first k of n records are right, and their ticks are added to those before

pub record Summing (b : Bytes) (first n before k total : ℕ) : Type 0 where
  pub within : k ≤ n
  pub right : all_below k (right_from b first) ≡ true
  pub ticks : total ≡ before + sum (list_below k (ticks_from b first))

pub summing_start : (b : Bytes) (first n before : ℕ) → Summing b first n before 0 before
unfolding all_below list_below sum
summing_start b first n before = record { within = omega arith; right = refl; ticks = omega arith }

pub summing_wrong : (b : Bytes) (first n before k : ℕ) → k < n → right_from b first k ≡ false → None ≡ sum_from b first n before
unfolding sum_from
summing_wrong b first n before k l e =
    let f = false_of (all_below n (right_from b first)) (λ h. clash (below_at n (right_from b first) h k l) e) in
    rw f

module _ {b : Bytes} {first n before k total : ℕ} (s : Summing b first n before k total) where
  pub summing_next : k < n → right_from b first k ≡ true → Summing b first n before (k + 1) (total + ticks_from b first k)
  unfolding all_below
  summing_next l e =
      rw (add-one k)
      (record {
        within = omega arith;
        right = and_true_of (all_below k (right_from b first)) (right_from b first k) s.right e;
        ticks = omega (arith, s.ticks, sum_next b first k);
      })

  -- another pulse's ticks can be added
  pub summing_fits : AreBytes b → k < n → before + n * 0x1_0000_0000 < 0x1_0000_0000_0000_0000 → total + ticks_from b first k < 0x1_0000_0000_0000_0000
  summing_fits h l f = omega (arith, s.ticks, sum_most b first h k, ticks_low b first h k)

  pub summing_end : n ≤ k → Some (record { 0 = total }) ≡ sum_from b first n before
  unfolding sum_from
  summing_end h =
      let e : k ≡ n = omega (arith, s.within) in
      rw (← e, s.right, s.ticks)
