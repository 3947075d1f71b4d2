use borrow.Author.Tests.{leb-false}
use mathlib.Core.Path.{◌≡◌, sym, ◌∙◌}
use native.Mathlib.Omega.{arith}
use Rattle.std.proofs.lemmas.Result.{err_from_is_err_and}
use Rattle.pulse_laws.specs.Calls.{number_alone, add_reply, image_added}
use Rattle.pulse_records.specs.Records.{pulse_of}
use Rattle.pulse.proofs.Outcomes.{addition_refused, no_ticks}
use Rattle.pulse.proofs.PulsesAt.{at_zero}
use Rattle.pulse.proofs.WorkLengths.{reply_long, added_long}
use Rattle.pulse.proofs.calls.add_in.Goals as goal
use Rattle.pulse.proofs.calls.add_in.Goals.{Then-not-some}

none : (c : Then-not-some) → let p = c.args in
    (number_alone 41 ≡ add_reply p.image.now p.path.now (pulse_of p.p) p.work.now) × (p.image.now ≡ image_added p.image.now p.path.now (pulse_of p.p) p.work.now)
none c =
    let p = c.args in
    let n = leb-false 1 p.p.ticks.0 (sym c.some.ensures ∙ c.if-not-some.true) in
    no_ticks p.image.now p.path.now p.work.now (at_zero c.in_ok-s.ensures.pulses_found p.work.now c.find_pulses.ensures.wrote.long) (pulse_of p.p) (omega arith)

pub returns-in_err-s-clause-result_value : goal.returns-in_err-s-clause-result_value
returns-in_err-s-clause-result_value c =
    let p = err_from_is_err_and c.from_residual.result c.from_residual.ensures.1 in
    rw (p.1, p.2) (addition_refused c.args.image.now c.args.path.now c.args.work.now c.in_err-s.field-0.0 c.in_err-s.ensures.pulses_found (pulse_of c.args.p)).0

pub returns-in_err-s-clause-image_after : goal.returns-in_err-s-clause-image_after
returns-in_err-s-clause-image_after c =
    (addition_refused c.args.image.now c.args.path.now c.args.work.now c.in_err-s.field-0.0 c.in_err-s.ensures.pulses_found (pulse_of c.args.p)).1

pub returns-then-not-some-clause-result_value : goal.returns-then-not-some-clause-result_value
returns-then-not-some-clause-result_value c = (none (goal.at.returns-then-not-some-clause-result_value c).Then-not-some).0

pub returns-then-not-some-clause-image_after : goal.returns-then-not-some-clause-image_after
returns-then-not-some-clause-image_after c = (none (goal.at.returns-then-not-some-clause-image_after c).Then-not-some).1

pub returns-clause-result_value : goal.returns-clause-result_value
returns-clause-result_value c =
    c.append.ensures.result_value ∙ reply_long c.find_pulses.new.work c.args.work.now c.find_pulses.ensures.wrote.long c.args.image.now c.args.path.now (pulse_of c.args.p)

pub returns-clause-image_after : goal.returns-clause-image_after
returns-clause-image_after c =
    c.append.ensures.image_after ∙ added_long c.find_pulses.new.work c.args.work.now c.find_pulses.ensures.wrote.long c.args.image.now c.args.path.now (pulse_of c.args.p)
