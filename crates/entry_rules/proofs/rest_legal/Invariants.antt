use mathlib.Core.Path.{◌≡◌}
use Rattle.format.specs.Basics.Lists.{all_below}
use Rattle.entries.specs.Entry.{entry_at}
use Rattle.entry_rules.specs.Names.{unit_legal}
use Rattle.entry_rules.proofs.rest_legal.Given as goal

abbrev pub invariant-loop-i : goal.invariant-loop-i
invariant-loop-i l = all_below l.i (unit_legal (entry_at l.img l.p)) ≡ all_below l.m (unit_legal (entry_at l.img l.p))
