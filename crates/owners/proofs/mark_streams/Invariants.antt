use Rattle.std.proofs.Common.{◌-◌}
use Rattle.owners.proofs.Marking.{Marking}
use Rattle.owners.proofs.mark_streams.Given as goal

abbrev pub invariant-loop-x : goal.invariant-loop-x
invariant-loop-x l = Marking l.t l.m l.d l.img l.x l.initial.work l.work l.shared

abbrev pub decreases-loop-x : goal.decreases-loop-x
decreases-loop-x l = l.n - l.x
