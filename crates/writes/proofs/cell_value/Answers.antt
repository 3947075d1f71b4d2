use borrow.Author.Rules.{rules}
use Rattle.writes.proofs.cell_value.Goals as goal

pub returns-in-Freed : goal.returns-in-Freed
returns-in-Freed c = rw c.in-Freed.is c.free.ensures

pub returns-in-Linked : goal.returns-in-Linked
returns-in-Linked c = rw c.in-Linked.is c.chain_start.ensures
