use Rattle.format.specs.Calls.Reply.{plain, counted}
use Rattle.cfb_c.proofs.counted.Goals as goal

pub returns-in-Ok : goal.returns-in-Ok
unfolding counted
returns-in-Ok c = rw c.in-Ok.is

pub returns-in-Err : goal.returns-in-Err
unfolding plain
returns-in-Err c = rw (c.in-Err.is, c.from.ensures)
