-- What the test of a pulse stream says, and how its ticks add up.
use Prim.Native.Nat.{ℕ, zero, suc, ◌+◌, ◌*◌, ◌≤◌, ◌<◌}
use mathlib.Core.Path.{◌≡◌, ap}
use mathlib.Core.Bool.{true, ◌&&◌}
use mathlib.Core.List.{List, [], ◌∷◌, ◌++◌}
use native.Mathlib.Omega.{arith}
use lib.Dec.{eqb, leb}
use lib.ListN.{length}
use borrow.Author.Tests.{eqb-true, eq-eqb, leb-true, le-leb}
use Rattle.format.specs.Basics.Lists.{all_below, list_below, sum}
use Rattle.format.specs.Basics.Bytes.{Bytes, AreBytes}
use Rattle.theory.proofs.Below.{list_below_ext}
use Rattle.theory.proofs.Tests.{both, below_at, below_of}
use Rattle.theory.proofs.Bytes.{u32_lt}
use Rattle.pulse_laws.specs.Pulse.{distance_for, distance, count, total, record_place, ticks_at, record_right, ticks_below, is_pulse_stream}

-- ---- sums of ticks

pub sum_snoc : (xs : List ℕ) (y : ℕ) → sum (xs ++ (y ∷ [])) ≡ sum xs + y
unfolding sum
sum_snoc [] y = omega arith
sum_snoc (x ∷ xs) y = omega (arith, sum_snoc xs y)

pub ticks_next : (s : Bytes) (n : ℕ) → ticks_below s (suc n) ≡ ticks_below s n + ticks_at s n
unfolding ticks_below list_below
ticks_next s n = sum_snoc (list_below n (ticks_at s)) (ticks_at s n)

pub ticks_same : (s t : Bytes) (n : ℕ) → ((k : ℕ) → k < n → ticks_at t k ≡ ticks_at s k) → ticks_below t n ≡ ticks_below s n
unfolding ticks_below
ticks_same s t n h = ap sum (list_below_ext n (ticks_at s) (ticks_at t) h)

-- each record has less than 2 to the 32 ticks
ticks_low : (s : Bytes) → AreBytes s → (k : ℕ) → ticks_at s k < 0x1_0000_0000
unfolding ticks_at
ticks_low s b k = u32_lt s (record_place s k + 4) b

pub ticks_bound : (s : Bytes) → AreBytes s → (n : ℕ) → ticks_below s n ≤ n * 0x1_0000_0000
unfolding ticks_below list_below sum
ticks_bound s b zero = omega arith
ticks_bound s b (suc n) = omega (arith, ticks_next s n, ticks_bound s b n, ticks_low s b n)

-- ---- what the test of a pulse stream says

pub record PulseStream (s : Bytes) : Type 0 where
  pub long : 16 ≤ length s
  pub itself : distance s ≡ 16 + 8 * count s
  pub inside : distance s ≤ length s
  pub records : (k : ℕ) → k < count s → record_right s k ≡ true
  pub sum : total s ≡ ticks_below s (count s)

pub pulses_say : (s : Bytes) → is_pulse_stream s ≡ true → PulseStream s
unfolding is_pulse_stream distance_for
pulses_say s h =
    let a = leb 16 (length s) in
    let b = eqb (distance s) (16 + 8 * count s) in
    let c = leb (distance s) (length s) in
    let d = all_below (count s) (record_right s) in
    let e = eqb (total s) (ticks_below s (count s)) in
    let p = both (a && b && c && d) e h in
    let q = both (a && b && c) d p.0 in
    let r = both (a && b) c q.0 in
    let t = both a b r.0 in
    record {
      long = leb-true 16 (length s) t.0;
      itself = eqb-true (distance s) (16 + 8 * count s) t.1;
      inside = leb-true (distance s) (length s) r.1;
      records = below_at (count s) (record_right s) q.1;
      sum = eqb-true (total s) (ticks_below s (count s)) p.1;
    }

pub pulses_are : (s : Bytes) → PulseStream s → is_pulse_stream s ≡ true
unfolding is_pulse_stream distance_for
pulses_are s p =
    rw (
      le-leb 16 (length s) p.long,
      eq-eqb (distance s) (16 + 8 * count s) p.itself,
      le-leb (distance s) (length s) p.inside,
      below_of (count s) (record_right s) p.records,
      eq-eqb (total s) (ticks_below s (count s)) p.sum,
    )
