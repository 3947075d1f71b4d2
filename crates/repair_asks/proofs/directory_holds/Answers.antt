use Rattle.theory.proofs.Loops.{said_yes, said_no}
use Rattle.volume.proofs.Verdicts.{cells_listed}
use Rattle.repair_asks.proofs.Asked.{never, cells_right}
use mathlib.Core.Path.{ap}
use mathlib.Core.Bool.{not}
use Rattle.repair_asks.proofs.directory_holds.Goals as goal

pub returns-then-not-cell_rules : goal.returns-then-not-cell_rules
returns-then-not-cell_rules c = record { answer = never _ _ _ (said_no (ap not c.if-not-cell_rules.true) c.cell_rules.ensures.answer); wrote = c.cell_rules.ensures.wrote }

pub directory_length-requires : goal.directory_length-requires
directory_length-requires c = record { fat_listed = cells_listed _ _ c.cell_rules.ensures.wrote c.requires; holds = c.cell_rules.ensures.holds }

pub returns : goal.returns
returns c = record { answer = rw (cells_right _ _ (said_yes (ap not c.if-not-cell_rules.false) c.cell_rules.ensures.answer)) c.directory_length.ensures; wrote = c.cell_rules.ensures.wrote }
