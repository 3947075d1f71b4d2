use borrow.Author.Rules.{rules}
use Rattle.spaces.proofs.Unit.of.Goals as goal

pub returns-in-Sectors : goal.returns-in-Sectors
returns-in-Sectors c = rw c.in-Sectors.is

pub returns-in-Minis : goal.returns-in-Minis
returns-in-Minis c = rw c.in-Minis.is
