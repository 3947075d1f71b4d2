use mathlib.Core.Path.{sym, ap}
use Rattle.format.specs.Calls.Reply.{plain, counted}
use Rattle.queries.specs.Replies.{read_reply}
use Rattle.paging.proofs.cursor.count.Goals as goal

pub returns-in-Ok : goal.returns-in-Ok
unfolding counted
returns-in-Ok c = sym (ap (λ r. (read_reply r).count) c.in-Ok.is)

pub returns-in-Err : goal.returns-in-Err
unfolding plain
returns-in-Err c = sym (ap (λ r. (read_reply r).count) c.in-Err.is)
