use borrow.Author.Rules.{rules}
use native.Mathlib.Omega.{arith}
use Prim.Native.Nat.{◌+◌, ◌<◌}
use Rattle.std.proofs.lemmas.Result.{err_from_is_err_and}
use Rattle.pulse_laws.specs.Pulse.{distance_for}
use Rattle.pulse_records.specs.Records.{pulse_of}
use Rattle.pulse.proofs.Listed.{stream_few}
use Rattle.pulse.proofs.PulsesAt.{at_inside}
use Rattle.pulse.proofs.Adding.{append_full, append_fits, append_done}
use Rattle.pulse.proofs.calls.append.Goals as goal
use Rattle.pulse.proofs.calls.append.Goals.{In_ok-set_length_opened}

-- the numbers of the new trailer fit
fits : (c : In_ok-set_length_opened) → let s = c.args.s.trailer in
    (distance_for (s.count.0 + 1) < 0x1_0000_0000) × (s.count.0 + 1 < 0x1_0000_0000) × (s.total.0 + c.args.p.ticks.0 < 0x1_0000_0000_0000_0000)
fits c = append_fits c.requires.pulses_at (pulse_of c.args.p) c.requires.le_ticks (λ i. search rules) (omega arith) (omega arith)

pub overflow_add-e : goal.overflow_add-e
overflow_add-e c = let q = c.requires.pulses_at.listed in omega (arith, stream_few q.opened q.stream)

pub returns-in_err-set_length_opened-clause-result_value :
    goal.returns-in_err-set_length_opened-clause-result_value
returns-in_err-set_length_opened-clause-result_value c =
    let p = err_from_is_err_and c.from_residual.result c.from_residual.ensures.1 in
    rw (p.1, p.2)
    (append_full c.requires.pulses_at (pulse_of c.args.p) c.requires.le_ticks c.in_err-set_length_opened.field-0.0
    c.in_err-set_length_opened.ensures.result_value c.set_length_opened.ensures.image_after).0

pub returns-in_err-set_length_opened-clause-image_after :
    goal.returns-in_err-set_length_opened-clause-image_after
returns-in_err-set_length_opened-clause-image_after c =
    (append_full c.requires.pulses_at (pulse_of c.args.p) c.requires.le_ticks c.in_err-set_length_opened.field-0.0
    c.in_err-set_length_opened.ensures.result_value c.set_length_opened.ensures.image_after).1

pub plus-requires : goal.plus-requires
plus-requires c = (fits (goal.at.plus-requires c).In_ok-set_length_opened).1

pub plus-requires-2 : goal.plus-requires-2
plus-requires-2 c = (fits (goal.at.plus-requires-2 c).In_ok-set_length_opened).2

pub put_tail-requires-clause-count_bound : goal.put_tail-requires-clause-count_bound
put_tail-requires-clause-count_bound c = rw c.plus.ensures (fits (goal.at.put_tail-requires-clause-count_bound c).In_ok-set_length_opened).0

pub overflow_sub-e : goal.overflow_sub-e
overflow_sub-e c = let q = at_inside c.requires.pulses_at in omega (arith, q.0, q.1)

pub returns-clause-result_value : goal.returns-clause-result_value
returns-clause-result_value c =
    (append_done c.requires.pulses_at (pulse_of c.args.p) c.requires.le_ticks c.in_ok-set_length_opened.ensures.result_value c.set_length_opened.new.work
    c.set_length_opened.ensures.wrote.long c.set_length_opened.ensures.image_after c.plus.result.0 c.plus-2.result.0 c.plus.ensures c.plus-2.ensures
    c.put_tail.ensures c.overwrite_opened.ensures.image_after).0

pub returns-clause-image_after : goal.returns-clause-image_after
returns-clause-image_after c =
    (append_done c.requires.pulses_at (pulse_of c.args.p) c.requires.le_ticks c.in_ok-set_length_opened.ensures.result_value c.set_length_opened.new.work
    c.set_length_opened.ensures.wrote.long c.set_length_opened.ensures.image_after c.plus.result.0 c.plus-2.result.0 c.plus.ensures c.plus-2.ensures
    c.put_tail.ensures c.overwrite_opened.ensures.image_after).1
