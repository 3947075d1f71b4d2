use Rattle.std.proofs.lemmas.Result.{err_from_is_err_and}
use Rattle.pulse.proofs.Outcomes.{summary_refused}
use Rattle.pulse.proofs.PulsesAt.{at_summary}
use Rattle.pulse.proofs.calls.summary_in.Goals as goal

pub returns-in_err-t-clause-result_value : goal.returns-in_err-t-clause-result_value
returns-in_err-t-clause-result_value c =
    let p = err_from_is_err_and c.from_residual.result c.from_residual.ensures.1 in
    rw (p.1, p.2) (summary_refused c.args.image.now c.args.path.now c.args.work.now c.in_err-t.field-0.0 c.in_err-t.ensures.pulses_found)

pub returns-clause-result_value : goal.returns-clause-result_value
returns-clause-result_value c = at_summary c.in_ok-t.ensures.pulses_found c.args.work.now c.find_pulses.ensures.wrote.long
