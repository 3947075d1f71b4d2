-- Additions one after the other: the stream stays a pulse stream, and gets the records, the count and the ticks of all of them.
use Prim.Native.Nat.{◌+◌, ◌*◌, ◌≤◌, ◌<◌}
use mathlib.Core.Path.{◌≡◌, refl, sym, ap, ◌∙◌}
use mathlib.Core.Bool.{Bool, true, ◌&&◌}
use mathlib.Core.List.{List, [], ◌∷◌, ◌++◌, map, append_assoc, append-nil}
use native.Mathlib.Omega.{arith}
use lib.Dec.{ltb, leb}
use lib.ListN.{length}
use borrow.Author.Tests.{ltb-true, leb-true}
use Rattle.format.specs.Basics.Lists.{all, sum}
use Rattle.format.specs.Basics.Bytes.{Bytes}
use Rattle.theory.proofs.Tests.{both}
use Rattle.pulse_laws.specs.Pulse.{Pulse, count, total, preamble, pulses_in, is_pulse_stream}
use Rattle.pulse_laws.specs.Added.{with_pulse}
use Rattle.pulse_laws.specs.Actions.{pulse_fits}
use Rattle.pulse_laws.specs.Claim.{ticks_of}
use Rattle.pulse_laws.proofs.PulseStreams.{pulses_say}
use Rattle.pulse_laws.proofs.Added.{added_length, RightPulse, addition}

unfoldable pub with_pulses : Bytes → List Pulse → Bytes
with_pulses s [] = s
with_pulses s (p ∷ ps) = with_pulses (with_pulse s p) ps

pub with_append : (s : Bytes) (ps qs : List Pulse) → with_pulses s (ps ++ qs) ≡ with_pulses (with_pulses s ps) qs
unfolding with_pulses
with_append s [] qs = refl
with_append s (p ∷ ps) qs = with_append (with_pulse s p) ps qs

pub with_length : (s : Bytes) (ps : List Pulse) → length (with_pulses s ps) ≡ length s + 8 * length ps
unfolding with_pulses
with_length s [] = omega arith
with_length s (p ∷ ps) = with_length (with_pulse s p) ps ∙ omega (arith, added_length s p)

-- its numbers fit their fields, and there is a tick
unfoldable pub pulse_right : Pulse → Bool
pulse_right p = pulse_fits p && leb 1 p.ticks

right_says : (p : Pulse) → pulse_right p ≡ true → RightPulse p
unfolding pulse_right pulse_fits
right_says p h =
    let a = ltb p.valve 0x1_0000 in
    let b = ltb p.ticks 0x1_0000_0000 in
    let u = both (a && b) (leb 1 p.ticks) h in
    let w = both a b u.0 in
    record { valve = ltb-true p.valve 0x1_0000 w.0; ticks = ltb-true p.ticks 0x1_0000_0000 w.1; some = leb-true 1 p.ticks u.1 }

pub record Grows (s : Bytes) (ps : List Pulse) : Type 0 where
  pub pulses : is_pulse_stream (with_pulses s ps) ≡ true
  pub records : count (with_pulses s ps) ≡ count s + length ps
  pub ticks : total (with_pulses s ps) ≡ total s + sum (map ticks_of ps)
  pub list : pulses_in (with_pulses s ps) ≡ pulses_in s ++ ps
  pub preamble : preamble (with_pulses s ps) ≡ preamble s

pub additions : (s : Bytes) (ps : List Pulse) → is_pulse_stream s ≡ true → total s ≤ count s * 0x1_0000_0000 → all pulse_right ps ≡ true →
    length s + 8 * length ps < 0x1_0000_0000 → Grows s ps
unfolding with_pulses all sum
additions s [] h few r l =
    record { pulses = h; records = omega arith; ticks = omega arith; list = sym (append-nil (pulses_in s)); preamble = refl }
additions s (p ∷ ps) h few r l =
    let u = both (pulse_right p) (all pulse_right ps) r in
    let q = right_says p u.0 in
    let one = addition s p (pulses_say s h) few (omega arith) q in
    let i = additions (with_pulse s p) ps one.pulses (omega arith) u.1 (omega (arith, added_length s p)) in
    record {
      pulses = i.pulses;
      records = i.records ∙ omega arith;
      ticks = i.ticks ∙ omega arith;
      list = i.list ∙ ap (λ (t : List Pulse). t ++ ps) one.list ∙ append_assoc (pulses_in s) (p ∷ []) ps;
      preamble = i.preamble ∙ one.preamble;
    }
