-- An addition to a pulse stream gives a pulse stream with one record more, the last, and its ticks more; all else of the stream stays.
use Prim.Native.Nat.{ℕ, suc, ◌+◌, ◌-◌, ◌*◌, ◌≤◌, ◌<◌}
use mathlib.Core.Path.{◌≡◌, refl, sym, ap, ap₂, ◌∙◌}
use mathlib.Core.Bool.{true, ◌&&◌}
use mathlib.Core.List.{List, [], ◌∷◌, ◌++◌, append-nil}
use native.Mathlib.Omega.{arith}
use native.Mathlib.Decide.{dec_lt}
use lib.Dec.{eqb, leb}
use lib.ListN.{length, take, replicate, length-append, drop_of_length-le}
use lib.Seq.{sets, length-sets, sets-eq, take_all, take-take, take-append-le, length-take-le}
use borrow.Author.Tests.{le-leb}
use Rattle.format.specs.Basics.Lists.{list_below, fit}
use Rattle.format.specs.Basics.Bytes.{Bytes, put_bytes, part, u16at, u32at, u64at, le16, le32, le64}
use Rattle.theory.proofs.Below.{list_below_ext}
use Rattle.theory.proofs.Fits.{length_fit}
use Rattle.pulse_laws.specs.Pulse.{Pulse, record_of, trailer_of, distance_for, distance, count, total, record_place, preamble, valve_at, zero_at, ticks_at, pulse_at, record_right, pulses_in, ticks_below, is_pulse_stream}
use Rattle.pulse_laws.specs.Added.{longer, trailer_place, tail, with_pulse}
use Rattle.pulse_laws.proofs.PulseStreams.{ticks_next, ticks_same, PulseStream, pulses_are}
use Rattle.pulse_laws.proofs.Placed.{u16_behind, u32_behind, u64_behind, u16_kept, u32_kept}

-- ---- the bytes after an addition

pub tail_length : (s : Bytes) (p : Pulse) → length (tail s p) ≡ 24
unfolding tail record_of trailer_of le64 le32 le16
tail_length s p = refl

-- the record's fields and the trailer's, in the 24 bytes
record Fields (s : Bytes) (p : Pulse) : Type 0 where
  valve_there : part (tail s p) 0 2 ≡ le16 p.valve
  zero_there : part (tail s p) 2 2 ≡ le16 0
  ticks_there : part (tail s p) 4 4 ≡ le32 p.ticks
  distance_there : part (tail s p) 8 4 ≡ le32 (16 + 8 * (count s + 1))
  count_there : part (tail s p) 12 4 ≡ le32 (count s + 1)
  total_there : part (tail s p) 16 8 ≡ le64 (total s + p.ticks)

fields : (s : Bytes) (p : Pulse) → Fields s p
unfolding part tail record_of trailer_of distance_for le64 le32 le16
fields s p = record { valve_there = refl; zero_there = refl; ticks_there = refl; distance_there = refl; count_there = refl; total_there = refl }

pub added_length : (s : Bytes) (p : Pulse) → length (with_pulse s p) ≡ length s + 8
unfolding with_pulse put_bytes longer
added_length s p = length-sets (fit (length s + 8) s) (trailer_place s) (tail s p) ∙ length_fit (length s + 8) s

fit_longer : (s : Bytes) → fit (longer s) s ≡ s ++ replicate 8 0
unfolding fit longer
fit_longer s =
    let e : length s + 8 - length s ≡ 8 = omega arith in
    ap₂ (λ a n. a ++ replicate n 0) (take_all (length s + 8) s (omega arith)) e

added_is : (s : Bytes) (p : Pulse) → 16 ≤ length s → with_pulse s p ≡ take (length s - 16) s ++ tail s p
unfolding with_pulse put_bytes trailer_place
added_is s p h =
    let n = length s - 16 in
    let l = s ++ replicate 8 0 in
    let e : length l ≡ length s + 8 = length-append s (replicate 8 0) in
    let t = tail_length s p in
    ap (λ z. sets z n (tail s p)) (fit_longer s)
    ∙ sets-eq (tail s p) l n (omega (arith, e, t))
    ∙ ap₂ (λ a b. a ++ tail s p ++ b) (take-append-le n s (replicate 8 0) (omega arith)) (drop_of_length-le l {i = n + length (tail s p)} (omega (arith, e, t)))
    ∙ append-nil (take n s ++ tail s p)

-- ---- what is read off them

-- valve and ticks fit their fields, and there is a tick
pub record RightPulse (p : Pulse) : Type 0 where
  pub valve : p.valve < 0x1_0000
  pub ticks : p.ticks < 0x1_0000_0000
  pub some : 1 ≤ p.ticks

pub record Grown (s : Bytes) (p : Pulse) : Type 0 where
  pub pulses : is_pulse_stream (with_pulse s p) ≡ true
  pub records : count (with_pulse s p) ≡ count s + 1
  pub ticks : total (with_pulse s p) ≡ total s + p.ticks
  pub list : pulses_in (with_pulse s p) ≡ pulses_in s ++ (p ∷ [])
  pub preamble : preamble (with_pulse s p) ≡ preamble s

list_next : (f h : ℕ → Pulse) (p : Pulse) (n m : ℕ) → m ≡ n + 1 → ((k : ℕ) → k < n → h k ≡ f k) → h n ≡ p → list_below m h ≡ list_below n f ++ (p ∷ [])
unfolding list_below
list_next f h p n m e old new =
    let i : n + 1 ≡ suc n = omega arith in
    ap (λ j. list_below j h) (e ∙ i) ∙ ap₂ (λ (a : List Pulse) (q : Pulse). a ++ (q ∷ [])) (list_below_ext n f h old) new

module _ (s : Bytes) (p : Pulse) (pulses : PulseStream s) (few : total s ≤ count s * 0x1_0000_0000) (short : length s + 8 < 0x1_0000_0000) (right : RightPulse p) where
  abbrev n : ℕ
  n = length s - 16

  abbrev now : Bytes
  now = with_pulse s p

  cut : now ≡ take n s ++ tail s p
  cut = added_is s p pulses.long

  front : length (take n s) ≡ n
  front = length-take-le n s (omega arith)

  -- the trailer
  added_distance : distance now ≡ 16 + 8 * (count s + 1)
  unfolding distance
  added_distance =
      ap (λ (b : Bytes). u32at b (length now - 16)) cut
      ∙ u32_behind (take n s) (tail s p) n front (16 + 8 * (count s + 1)) 8 (length now - 16) (omega (arith, added_length s p)) (fields s p).distance_there (omega arith)

  added_count_lem : count now ≡ count s + 1
  unfolding count
  added_count_lem =
      ap (λ (b : Bytes). u32at b (length now - 12)) cut
      ∙ u32_behind (take n s) (tail s p) n front (count s + 1) 12 (length now - 12) (omega (arith, added_length s p)) (fields s p).count_there (omega arith)

  added_total : total now ≡ total s + p.ticks
  unfolding total
  added_total =
      ap (λ (b : Bytes). u64at b (length now - 8)) cut
      ∙ u64_behind (take n s) (tail s p) n front (total s + p.ticks) 16 (length now - 8) (omega (arith, added_length s p)) (fields s p).total_there (omega arith)

  -- a record stands where it stood, and the new one behind the others
  place_same : (k : ℕ) → record_place now k ≡ record_place s k
  unfolding record_place
  place_same k = omega (arith, added_length s p, added_distance)

  place_first : record_place s 0 ≤ n
  unfolding record_place
  place_first = omega arith

  place_before : (k : ℕ) → k < count s → record_place s k + 8 ≤ n
  unfolding record_place
  place_before k h = omega arith

  place_new : record_place now (count s) ≡ n
  unfolding record_place
  place_new = omega (arith, added_length s p, added_distance)

  old_valve : (k : ℕ) → k < count s → valve_at now k ≡ valve_at s k
  unfolding valve_at
  old_valve k h = ap₂ u16at cut (place_same k) ∙ u16_kept s (tail s p) n (record_place s k) (omega arith) (omega (arith, place_before k h))

  old_zero : (k : ℕ) → k < count s → zero_at now k ≡ zero_at s k
  unfolding zero_at
  old_zero k h = ap₂ (λ b z. u16at b (z + 2)) cut (place_same k) ∙ u16_kept s (tail s p) n (record_place s k + 2) (omega arith) (omega (arith, place_before k h))

  old_ticks : (k : ℕ) → k < count s → ticks_at now k ≡ ticks_at s k
  unfolding ticks_at
  old_ticks k h = ap₂ (λ b z. u32at b (z + 4)) cut (place_same k) ∙ u32_kept s (tail s p) n (record_place s k + 4) (omega arith) (omega (arith, place_before k h))

  new_valve : valve_at now (count s) ≡ p.valve
  unfolding valve_at
  new_valve =
      let i = record_place now (count s) in
      ap (λ (b : Bytes). u16at b i) cut ∙ u16_behind (take n s) (tail s p) n front p.valve 0 i (omega (arith, place_new)) (fields s p).valve_there right.valve

  new_zero : zero_at now (count s) ≡ 0
  unfolding zero_at
  new_zero =
      let i = record_place now (count s) + 2 in
      ap (λ (b : Bytes). u16at b i) cut ∙ u16_behind (take n s) (tail s p) n front 0 2 i (omega (arith, place_new)) (fields s p).zero_there (omega arith)

  new_ticks : ticks_at now (count s) ≡ p.ticks
  unfolding ticks_at
  new_ticks =
      let i = record_place now (count s) + 4 in
      ap (λ (b : Bytes). u32at b i) cut ∙ u32_behind (take n s) (tail s p) n front p.ticks 4 i (omega (arith, place_new)) (fields s p).ticks_there right.ticks

  -- ---- it is a pulse stream

  record_right_lem : (k : ℕ) → k < count s + 1 → record_right now k ≡ true
  unfolding record_right
  record_right_lem k q =
      elim (dec_lt k (count s)) [
        | yes m ↦ ap₂ (λ z u. eqb z 0 && leb 1 u) (old_zero k m) (old_ticks k m) ∙ right_before k m
        | no m ↦
            let e : k ≡ count s = omega arith in
            rw e (ap₂ (λ z u. eqb z 0 && leb 1 u) new_zero new_ticks ∙ rw (le-leb 1 p.ticks right.some))
      ]
    where
      right_before : (k : ℕ) → k < count s → (eqb (zero_at s k) 0 && leb 1 (ticks_at s k)) ≡ true
      right_before k m = pulses.records k m

  added_pulses : PulseStream now
  added_pulses =
      record {
        long = omega (arith, added_length s p);
        itself = omega (arith, added_distance, added_count_lem);
        inside = omega (arith, added_distance, added_length s p);
        records = λ k q. record_right_lem k (omega (arith, added_count_lem));
        sum = added_total ∙ omega (arith, ticks_next now (count s), ticks_same s now (count s) old_ticks, new_ticks) ∙ ap (ticks_below now) (next ∙ sym added_count_lem);
      }
    where
      next : suc (count s) ≡ count s + 1
      next = omega arith

  same_preamble : preamble now ≡ preamble s
  unfolding preamble
  same_preamble =
      let i = record_place s 0 in
      ap₂ take (place_same 0) cut ∙ take-append-le i (take n s) (tail s p) (omega (arith, place_first, front)) ∙ take-take i n s place_first

  pub addition : Grown s p
  unfolding pulse_at pulses_in
  addition =
      record {
        pulses = pulses_are now added_pulses;
        records = added_count_lem;
        ticks = added_total;
        list =
            list_next (pulse_at s) (pulse_at now) p (count s) (count now) added_count_lem
            (λ k i. ap₂ (λ x y. record { valve = x; ticks = y }) (old_valve k i) (old_ticks k i))
            (ap₂ (λ x y. record { valve = x; ticks = y }) new_valve new_ticks);
        preamble = same_preamble;
      }
