use Rattle.pulse_laws.specs.Calls.{number_alone, summary_given}
use Rattle.cfb_c.proofs.pulse_calls.pulse_summary.Goals as goal

pub returns-in-Ok-clause-total_after : goal.returns-in-Ok-clause-total_after
unfolding summary_given
returns-in-Ok-clause-total_after c = c.in-Ok.ensures.result_value

pub returns-in-Err-clause-total_after : goal.returns-in-Err-clause-total_after
unfolding number_alone
returns-in-Err-clause-total_after c = rw c.from.ensures c.in-Err.ensures.result_value
