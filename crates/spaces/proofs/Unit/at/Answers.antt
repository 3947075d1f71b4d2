use borrow.Author.Rules.{rules}
use mathlib.Core.Path.{ap}
use Rattle.spaces.specs.declared.Kind.TheVariants.{Sectors, Minis}
use Rattle.spaces.specs.Units.{unit_of}
use Rattle.spaces.proofs.Unit.at.Goals as goal

pub returns-in-Sectors : goal.returns-in-Sectors
returns-in-Sectors c = rw c.in-Sectors.is (ap (unit_of Sectors) c.at.ensures)

pub returns-in-Minis : goal.returns-in-Minis
returns-in-Minis c = rw c.in-Minis.is (ap (unit_of Minis) c.at-in-Minis.ensures)
