use mathlib.Core.Path.{◌≡◌}
use Rattle.format.specs.Basics.Lists.{all_below}
use Rattle.hierarchy.specs.Walked.{reached_in}
use Rattle.hierarchy.proofs.all_reached.Given as goal

abbrev pub invariant-loop-i : goal.invariant-loop-i
invariant-loop-i l = l.all ≡ all_below l.i (reached_in l.work)
