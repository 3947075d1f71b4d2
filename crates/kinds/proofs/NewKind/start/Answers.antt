use borrow.Author.Rules.{rules}
use Rattle.format.specs.Calls.Create.{start_for}
use Rattle.kinds.proofs.NewKind.start.Goals as goal

pub returns-in-Stream : goal.returns-in-Stream
unfolding start_for
returns-in-Stream c = rw c.in-Stream.is

pub returns-in-Storage : goal.returns-in-Storage
unfolding start_for
returns-in-Storage c = rw c.in-Storage.is
