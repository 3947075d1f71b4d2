use Rattle.lanes.proofs.Arrays.{steps_left}
use Rattle.lanes.proofs.Runs.{Runs}
use Rattle.lanes.proofs.mark_lanes.Given as goal

abbrev pub invariant-loop-live : goal.invariant-loop-live
invariant-loop-live l = Runs l.at l.limit l.initial.work l.initial.here l.initial.left l.count l.work l.here l.left l.live l.i l.shared

abbrev pub decreases-loop-live : goal.decreases-loop-live
decreases-loop-live l = steps_left l.left l.live
