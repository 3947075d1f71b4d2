use Rattle.format.specs.Calls.Reply.{plain}
use Rattle.cfb_c.proofs.found.Goals as goal

pub returns-in-Ok : goal.returns-in-Ok
unfolding plain
returns-in-Ok c = rw c.in-Ok.is

pub returns-in-Err : goal.returns-in-Err
unfolding plain
returns-in-Err c = rw (c.in-Err.is, c.from.ensures)
