-- W-208: no pulse fades, and no addition passes what its fields hold.
use Prim.Native.Nat.{ℕ, ◌+◌, ◌*◌, ◌≤◌}
use mathlib.Core.Path.{◌≡◌, refl, sym, ap, ap₂, ◌∙◌, subst}
use mathlib.Core.Bool.{true}
use mathlib.Core.List.{List, [], ◌∷◌, map, append-nil}
use native.Mathlib.Omega.{arith}
use lib.Dec.{ltb, leb}
use lib.ListN.{length}
use borrow.Author.Tests.{ltb-true}
use Rattle.format.specs.Basics.Lists.{all, sum}
use Rattle.format.specs.Basics.Bytes.{Bytes, AreBytes}
use Rattle.format.specs.Rules.Length.{work_need}
use Rattle.format.specs.Calls.Paths.{Path, names}
use Rattle.format.specs.History.Setting.{Setting, setting_of}
use Rattle.format.specs.History.State.{state_in, state_of}
use Rattle.format.specs.History.Event.{after}
use Rattle.theory.proofs.Tests.{both}
use Rattle.theory.proofs.Refusals.{first_zero}
use Rattle.theory.proofs.Trees.PathOrder.{same_self}
use Rattle.pulse_laws.specs.Pulse.{Pulse, distance_for, count, total, preamble, pulses_in, is_pulse_stream}
use Rattle.pulse_laws.specs.Calls.{contents_at, summary_answer, add_answer, PulseReply, summary_given, counts_as, image_added}
use Rattle.pulse_laws.specs.Actions.{add, events_for, events_for_all, after_actions, pulse_fits, action_fits, leaves, nothing_else_edits, adds_to, pulses_of, pulses_added}
use Rattle.pulse_laws.specs.Claim.{ticks_of, PulsesKept, PulseAdded, NoPulseFades, FieldsHold}
use Rattle.pulse_laws.proofs.PulseStreams.{pulses_say, ticks_bound}
use Rattle.pulse_laws.proofs.Runs.{with_pulses, with_length, additions}
use Rattle.pulse_laws.proofs.Streams.{stream_meant, stream_bytes_lem}
use Rattle.pulse_laws.proofs.Zeros.{Readable, summary_zero, summary_is}
use Rattle.pulse_laws.proofs.Steps.{list_gained}

-- ---- the fields

total_few : (img : Bytes) (to : Path) (work : List ℕ) → AreBytes img → Readable img to work → total (contents_at img to) ≤ count (contents_at img to) * 0x1_0000_0000
total_few img to work bytes r =
    let s = contents_at img to in
    omega (arith, (pulses_say s r.pulses).sum, ticks_bound s (stream_bytes_lem img to bytes) (count s))

pub fields_hold : FieldsHold
unfolding pulse_fits distance_for
fields_hold img to work p bytes h f =
    let r = summary_zero img to work h in
    let short = (stream_meant img r.accepted to r.there).short in
    let q = pulses_say (contents_at img to) r.pulses in
    let few = total_few img to work bytes r in
    let t = ltb-true p.ticks 0x1_0000_0000 (both (ltb p.valve 0x1_0000) (ltb p.ticks 0x1_0000_0000) f).1 in
    (omega arith, omega arith, omega arith)

-- ---- the list

work_same : (img now : Bytes) (n : ℕ) → (state_of now).setting ≡ (state_of img).setting → leb (work_need (length img)) n ≡ true → leb (work_need (length now)) n ≡ true
unfolding state_of state_in setting_of
work_same img now n e h = ap (λ (s : Setting). leb s.work n) e ∙ h

pub no_pulse_fades : NoPulseFades
unfolding summary_given
no_pulse_fades img to work actions bytes h r l =
    let now = after_actions img actions in
    let ps = pulses_added img to actions in
    let a = summary_zero img to work h in
    let s = contents_at img to in
    let w = list_gained img to actions r l a.accepted a.there in
    let here = stream_meant now w.accepted to w.there in
    let same : contents_at now to ≡ with_pulses s ps =
    here.bytes ∙ w.bytes ∙ ap (λ (x : Bytes). with_pulses x ps) (sym (stream_meant img a.accepted to a.there).bytes) in
    let k = additions s ps a.pulses (total_few img to work bytes a) w.right (omega (arith, with_length s ps, ap length same, here.short)) in
    let b : Readable now to work =
    record { accepted = w.accepted; fits = work_same img now (length work) w.setting a.fits; there = w.there; pulses = ap is_pulse_stream same ∙ k.pulses } in
    let i = summary_is img to work a in
    record {
      totals =
          summary_is now to work b
          ∙ ap₂ summary_given (ap count same ∙ k.records ∙ ap (λ (x : ℕ). x + length ps) (ap (λ (y : PulseReply). y.count) (sym i)))
          (ap total same ∙ k.ticks ∙ ap (λ (x : ℕ). x + sum (map ticks_of ps)) (ap (λ (y : PulseReply). y.total) (sym i)));
      records = ap pulses_in same ∙ k.list;
      preamble = ap preamble same ∙ k.preamble;
    }

-- ---- one addition is a list of one

one_after : (img : Bytes) (to : Path) (p : Pulse) (work : List ℕ) → after_actions img (add to p work ∷ []) ≡ image_added img to p work
unfolding after_actions events_for_all events_for image_added
one_after img to p work = ap (after img) (append-nil (counts_as img to p work))

one_added : (img : Bytes) (to : Path) (p : Pulse) (work : List ℕ) → add_answer img to p work ≡ 0 → pulses_added img to (add to p work ∷ []) ≡ p ∷ []
unfolding pulses_added pulses_of adds_to
one_added img to p work h = rw (same_self (names to), h)

pub pulse_added : PulseAdded
unfolding all action_fits nothing_else_edits leaves add_answer
pulse_added img to work p bytes f h =
    let one = add to p work ∷ [] in
    let readable : summary_answer img to work ≡ 0 = (first_zero (summary_answer img to work) _ h).0 in
    let k = no_pulse_fades img to work one bytes readable (rw f) refl in
    subst (λ (now : Bytes). PulsesKept img now to work (p ∷ [])) (one_after img to p work)
    (subst (λ (ps : List Pulse). PulsesKept img (after_actions img one) to work ps) (one_added img to p work h) k)
