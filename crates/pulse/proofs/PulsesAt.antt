-- A pulse stream that was found: its numbers, and the places of its records.
use Prim.Native.Nat.{ℕ, ◌+◌, ◌-◌, ◌*◌, ◌≤◌}
use mathlib.Core.Path.{◌≡◌, sym, ap, ap₂, ◌∙◌}
use mathlib.Core.Bool.{true}
use mathlib.Core.List.{List}
use native.Mathlib.Omega.{arith}
use lib.Dec.{ltb}
use lib.ListN.{length}
use Rattle.format.specs.Basics.Bytes.{Bytes}
use Rattle.format.specs.Calls.Paths.{Path}
use Rattle.volume.specs.declared.Volume.{Volume}
use Rattle.pulse_laws.specs.Pulse.{distance, count, total, record_place, valve_at, ticks_at, pulse_at}
use Rattle.pulse_laws.specs.Calls.{contents_at, summary_answer, summary_given, pulse_given, summary_reply, record_reply}
use Rattle.pulse_laws.proofs.PulseStreams.{PulseStream as Pulses, pulses_say}
use Rattle.pulse_laws.proofs.Zeros.{summary_zero}
use Rattle.pulse_records.specs.Records.{pulse_of, pulse_in}
use Rattle.pulse_records.specs.declared.Pulse.{Pulse}
use Rattle.pulse.specs.Parsed.{trailer_for}
use Rattle.pulse.specs.Found.{PulsesAt}
use Rattle.pulse.specs.declared.calls.PulseStream.{PulseStream}
use Rattle.pulse.proofs.Listed.{stream_long}
use Rattle.pulse.proofs.WorkLengths.{summary_long}
use Rattle.pulse.proofs.Outcomes.{summary_done, record_done}

-- the record of a number, by its place
pulse_placed : (b : Bytes) (k at : ℕ) → at ≡ record_place b k → pulse_of (pulse_in b at) ≡ pulse_at b k
unfolding pulse_in pulse_at valve_at ticks_at
pulse_placed b k at e = rw e

module _ {v : Volume} {img : Bytes} {path : Path} {w : List ℕ} {s : PulseStream} (q : PulsesAt v img path w s) where
  abbrev b : Bytes
  b = contents_at img path

  pub at_distance : s.trailer.distance ≡ distance b
  unfolding trailer_for
  at_distance = ap (λ t. t.distance) q.trailer

  pub at_count : s.trailer.count.0 ≡ count b
  unfolding trailer_for
  at_count = ap (λ t. t.count.0) q.trailer

  pub at_total : s.trailer.total.0 ≡ total b
  unfolding trailer_for
  at_total = ap (λ t. t.total.0) q.trailer

  pub at_size : s.object.size ≡ length b
  at_size = sym (stream_long q.listed.opened q.listed.stream) ∙ ap length q.bytes

  -- what its trailer says
  pub at_pulses : Pulses b
  at_pulses = pulses_say b (summary_zero img path w q.answer).pulses

  pub at_inside : (s.trailer.distance ≡ 16 + 8 * s.trailer.count.0) × (s.trailer.distance ≤ s.object.size)
  at_inside =
      let p = at_pulses in
      (omega (arith, at_distance, at_count, p.itself), omega (arith, at_distance, at_size, p.inside))

  -- the summary, and a record, whatever the work buffer held before
  module _ (before : List ℕ) (n : length w ≡ length before) where
    pub at_zero : summary_answer img path before ≡ 0
    at_zero = sym (summary_long w before n img path) ∙ q.answer

    pub at_summary : summary_given s.trailer.count.0 s.trailer.total.0 ≡ summary_reply img path before
    at_summary = ap₂ summary_given at_count at_total ∙ summary_done img path before at_zero

    pub at_record : (k : ℕ) (p : Pulse) → ltb k s.trailer.count.0 ≡ true
        → p ≡ pulse_in b (s.object.size - s.trailer.distance + 8 * k) → pulse_given (pulse_of p) ≡ record_reply img path k before
    unfolding record_place
    at_record k p h e =
        ap (λ x. pulse_given (pulse_of x)) e
        ∙ ap pulse_given (pulse_placed b k _ (ap₂ (λ m d. m - d + 8 * k) at_size at_distance))
        ∙ record_done img path before at_zero k (ap (ltb k) (sym at_count) ∙ h)
