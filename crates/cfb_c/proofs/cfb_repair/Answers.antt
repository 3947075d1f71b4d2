use Rattle.format.specs.Calls.Reply.{plain, counted}
use Rattle.cfb_c.proofs.cfb_repair.Goals as goal

pub returns-in-Ok-clause-changed_after : goal.returns-in-Ok-clause-changed_after
unfolding counted
returns-in-Ok-clause-changed_after c = c.in-Ok.ensures.result_value

pub returns-in-Err-clause-changed_after : goal.returns-in-Err-clause-changed_after
unfolding plain
returns-in-Err-clause-changed_after c = rw c.from.ensures c.in-Err.ensures.result_value
