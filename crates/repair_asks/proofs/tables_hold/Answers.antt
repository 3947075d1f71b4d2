use mathlib.Core.Path.{sym, ◌∙◌}
use Rattle.theory.proofs.Loops.{said_yes, said_no}
use Rattle.repair_asks.proofs.Asked.{header_wrong, header_right, tables_left}
use mathlib.Core.Path.{ap}
use mathlib.Core.Bool.{not}
use Rattle.repair_asks.proofs.tables_hold.Goals as goal

pub returns-then-not-header_rules : goal.returns-then-not-header_rules
returns-then-not-header_rules c = record { answer = sym (header_wrong _ _ (said_no (ap not c.if-not-header_rules.true) c.header_rules.ensures)); left = tables_left _ _ _ }

pub returns : goal.returns
returns c = record { answer = c.table_rules.ensures.answer ∙ sym (header_right _ _ (said_yes (ap not c.if-not-header_rules.false) c.header_rules.ensures)); left = c.table_rules.ensures.left }
