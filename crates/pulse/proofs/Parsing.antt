-- What is read of a stream, and what it is.
use Prim.Native.Nat.{ℕ, ◌+◌, ◌-◌, ◌≤◌, ◌<◌}
use mathlib.Core.Path.{◌≡◌, refl, sym, ap, ap₂, ◌∙◌}
use mathlib.Core.Bool.{Bool, true, false, cond, ◌&&◌}
use native.Mathlib.Omega.{arith}
use lib.Dec.{eqb, leb}
use lib.ListN.{length}
use borrow.Author.Tests.{le-leb, lt-leb}
use Rattle.format.specs.Basics.Bytes.{Bytes, part, u16at}
use Rattle.format.specs.Basics.Lists.{all_below, list_below, sum}
use Rattle.pulse_laws.specs.Pulse.{distance_for, distance, count, total, record_place, zero_at, ticks_at, record_right, ticks_below, is_pulse_stream}
use Rattle.pulse_records.specs.Records.{pulse_in, right_at, right_from, ticks_from, sum_from, trailer_in}
use Rattle.pulse_records.specs.declared.TotalTicks.{TotalTicks}
use Rattle.pulse_records.specs.declared.Trailer.{Trailer}
use Rattle.std.specs.Prelude.{Some, None}
use Rattle.pulse.specs.Parsed.{trailer_for, parsed_as}
use Rattle.pulse.proofs.Pieces.{u16_piece, u32_piece, u64_piece, sum_says, wrong_says}

pub pulse_read : (s : Bytes) (at : ℕ) → pulse_in (part s at 8) 0 ≡ pulse_in s at
unfolding pulse_in
pulse_read s at =
    let e : at + 0 ≡ at = omega arith in
    ap₂ (λ x y. record { valve = record { 0 = x }; ticks = record { 0 = y } }) (u16_piece s at 8 0 (omega arith) ∙ ap (u16at s) e) (u32_piece s at 8 4 (omega arith))

pub trailer_read : (s : Bytes) → 16 ≤ length s → trailer_in (part s (length s - 16) 16) ≡ trailer_for s
unfolding trailer_in trailer_for distance count total
trailer_read s h =
    let at = length s - 16 in
    let a : at + 0 ≡ at = omega arith in
    let b : at + 4 ≡ length s - 12 = omega arith in
    let d : at + 8 ≡ length s - 8 = omega arith in
    rw (u32_piece s at 16 0 (omega arith), a, u32_piece s at 16 4 (omega arith), b, u64_piece s at 16 8 (omega arith), d)

-- ---- what it is

-- the trailer agrees with itself and with the length
abbrev agrees : Bytes → Bool
agrees s = eqb (distance s) (distance_for (count s)) && leb (distance s) (length s)

abbrev first_record : Bytes → ℕ
first_record s = length s - distance s

module _ (s : Bytes) where
  pub short_none : length s < 16 → None ≡ parsed_as s
  unfolding parsed_as is_pulse_stream
  short_none h = rw (lt-leb 16 (length s) h)

  module _ (h : 16 ≤ length s) where
    unlike : agrees s ≡ false → None ≡ parsed_as s
    unfolding parsed_as is_pulse_stream
    unlike a = rw (le-leb 16 (length s) h, a)

    module _ (a : agrees s ≡ true) where
      right_are : all_below (count s) (right_from s (first_record s)) ≡ all_below (count s) (record_right s)
      unfolding right_from right_at record_right zero_at ticks_at record_place
      right_are = refl

      ticks_are : sum (list_below (count s) (ticks_from s (first_record s))) ≡ ticks_below s (count s)
      unfolding ticks_from ticks_below ticks_at record_place
      ticks_are = refl

      wrong : None ≡ sum_from s (first_record s) (count s) 0 → None ≡ parsed_as s
      unfolding parsed_as is_pulse_stream
      wrong e = rw (le-leb 16 (length s) h, a, sym right_are ∙ wrong_says s (first_record s) (count s) 0 e)

      summed : (t : TotalTicks) → Some t ≡ sum_from s (first_record s) (count s) 0 → cond (eqb (total s) t.0) (Some (trailer_for s)) None ≡ parsed_as s
      unfolding parsed_as is_pulse_stream
      summed t e =
          let q = sum_says s (first_record s) (count s) 0 t e in
          let m : t.0 ≡ ticks_below s (count s) = omega (arith, q.1, ticks_are) in
          rw (le-leb 16 (length s) h, a, sym right_are ∙ q.0, m)

-- the same of the trailer and the size that are at hand
module _ (s : Bytes) {t : Trailer} {n : ℕ} (e : t ≡ trailer_for s) (l : length s ≡ n) (h : 16 ≤ n) where
  pub unlike_none : eqb t.distance (distance_for t.count.0) && leb t.distance n ≡ false → None ≡ parsed_as s
  unfolding trailer_for
  unlike_none a = unlike s (omega arith) (rw (e, ← l) at a)

  module _ (a : eqb t.distance (distance_for t.count.0) && leb t.distance n ≡ true) where
    right : agrees s ≡ true
    unfolding trailer_for
    right = rw (e, ← l) at a

    pub wrong_none : None ≡ sum_from s (n - t.distance) t.count.0 0 → None ≡ parsed_as s
    unfolding trailer_for
    wrong_none w = wrong s (omega arith) right (rw (e, ← l) at w)

    pub summed_parsed : (u : TotalTicks) → Some u ≡ sum_from s (n - t.distance) t.count.0 0 → cond (eqb t.total.0 u.0) (Some t) None ≡ parsed_as s
    unfolding trailer_for
    summed_parsed u w = rw e (summed s (omega arith) right u (rw (e, ← l) at w))
