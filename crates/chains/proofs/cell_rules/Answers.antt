use Rattle.chains.proofs.Groups.{rules_are}
use Rattle.chains.proofs.cell_rules.Goals as goal

pub returns-clause-answer : goal.returns-clause-answer
returns-clause-answer c = rw (rules_are, ← c.copy_fat-below.ensures.answer, ← c.cells_rest.ensures)
