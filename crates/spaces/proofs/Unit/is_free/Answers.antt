use borrow.Author.Rules.{rules}
use Rattle.spaces.proofs.Unit.is_free.Goals as goal

pub returns-in-Sector : goal.returns-in-Sector
returns-in-Sector c = rw c.in-Sector.is c.is_free.ensures

pub returns-in-Mini : goal.returns-in-Mini
returns-in-Mini c = rw c.in-Mini.is c.is_free-in-Mini.ensures
