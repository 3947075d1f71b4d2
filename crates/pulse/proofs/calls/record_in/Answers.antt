use borrow.Author.Tests.{ltb-true}
use Prim.Native.Nat.{◌+◌, ◌-◌, ◌≤◌}
use mathlib.Core.Path.{sym, ap, ap₂, ◌∙◌}
use native.Mathlib.Omega.{arith}
use lib.Dec.{ltb}
use Rattle.std.proofs.lemmas.Result.{err_from_is_err_and}
use Rattle.pulse_records.specs.Records.{pulse_in}
use Rattle.pulse.proofs.Listed.{stream_few}
use Rattle.pulse.proofs.Outcomes.{record_refused, record_none}
use Rattle.pulse.proofs.PulsesAt.{at_count, at_inside, at_zero, at_record}
use Rattle.pulse.proofs.calls.record_in.Goals as goal
use Rattle.pulse.proofs.calls.record_in.Goals.{After-bytes}

-- the record lies in the stream
inside : (c : After-bytes) → let s = c.in_ok-s.s in s.object.size - s.trailer.distance + c.bytes.result + 8 ≤ s.object.size
inside c =
    let q = at_inside c.in_ok-s.ensures.pulses_found in
    let l = ltb-true c.args.number.0 c.in_ok-s.s.trailer.count.0 (sym c.below.ensures ∙ c.if-not-below.false) in
    omega (arith, q.0, q.1, c.bytes.ensures)

pub returns-in_err-s-clause-result_value : goal.returns-in_err-s-clause-result_value
returns-in_err-s-clause-result_value c =
    let p = err_from_is_err_and c.from_residual.result c.from_residual.ensures.1 in
    rw (p.1, p.2) (record_refused c.args.image.now c.args.path.now c.args.work.now c.in_err-s.field-0.0 c.in_err-s.ensures.pulses_found c.args.number.0)

pub returns-then-not-below-clause-result_value : goal.returns-then-not-below-clause-result_value
returns-then-not-below-clause-result_value c =
    let q = c.in_ok-s.ensures.pulses_found in
    record_none c.args.image.now c.args.path.now c.args.work.now (at_zero q c.args.work.now c.find_pulses.ensures.wrote.long) c.args.number.0
    (ap (ltb c.args.number.0) (sym (at_count q)) ∙ sym c.below.ensures ∙ c.if-not-below.true)

pub overflow_sub-first : goal.overflow_sub-first
overflow_sub-first c = (at_inside c.in_ok-s.ensures.pulses_found).1

pub overflow_add-first : goal.overflow_add-first
overflow_add-first c =
    let q = c.in_ok-s.ensures.pulses_found.listed in
    omega (arith, inside (goal.at.overflow_add-first c).After-bytes, stream_few q.opened q.stream)

pub read_pulse-requires-clause-at_bound : goal.read_pulse-requires-clause-at_bound
read_pulse-requires-clause-at_bound c = inside (goal.at.read_pulse-requires-clause-at_bound c).After-bytes

pub returns-clause-result_value : goal.returns-clause-result_value
returns-clause-result_value c =
    let s = c.in_ok-s.s in
    let q = c.in_ok-s.ensures.pulses_found in
    at_record q c.args.work.now c.find_pulses.ensures.wrote.long c.args.number.0 c.read_pulse.result (sym c.below.ensures ∙ c.if-not-below.false)
    (c.read_pulse.ensures ∙ ap₂ (λ b n. pulse_in b (s.object.size - s.trailer.distance + n)) q.bytes c.bytes.ensures)
