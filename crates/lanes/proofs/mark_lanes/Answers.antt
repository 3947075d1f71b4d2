use Prim.Native.Nat.{◌<◌}
use native.Mathlib.Omega.{arith}
use lib.ListN.{length}
use Rattle.lanes.proofs.Arrays.{less_on, less_drop}
use Rattle.lanes.proofs.Runs.{turn_in, runs_start, runs_on, runs_done, runs_met, runs_broken, runs_end}
use Rattle.lanes.proofs.mark_lanes.Goals as goal
use Rattle.lanes.proofs.mark_lanes.Goals.{In-loop-live}

-- it is the turn of a lane that is not done, and the lane stands in the arrays
inside : (c : In-loop-live) → c.loop-live.i < c.loop-live.live
inside c = omega (arith, c.loop-live.invariant.turn, c.loop-live-test.true)

within : (c : In-loop-live) → c.loop-live.i < length c.loop-live.left
within c = omega (arith, inside c, c.loop-live.invariant.few, c.loop-live.invariant.lefts)

pub loop-live-init : goal.loop-live-init
loop-live-init c = runs_start c.requires.lanes_short (omega arith) (omega arith)

pub returns-in-Broken : goal.returns-in-Broken
returns-in-Broken c = runs_broken c.loop-live.invariant (inside (goal.at.returns-in-Broken c).In-loop-live) c.in-Broken.ensures

pub loop-live-smaller-in-On : goal.loop-live-smaller-in-On
loop-live-smaller-in-On c =
    let d = (goal.at.loop-live-smaller-in-On c).In-loop-live in
    less_on c.loop-live.left _ _ _ (inside d) (within d) (omega (arith, c.in-On.ensures.1.some))

pub loop-live-preserved-in-On : goal.loop-live-preserved-in-On
loop-live-preserved-in-On c = runs_on c.loop-live.invariant _ (inside (goal.at.loop-live-preserved-in-On c).In-loop-live) c.in-On.ensures (turn_in _ _ c.turn-i.ensures)

pub loop-live-smaller-in-Done : goal.loop-live-smaller-in-Done
loop-live-smaller-in-Done c =
    let d = (goal.at.loop-live-smaller-in-Done c).In-loop-live in
    rw c.move_lane.ensures.left (less_drop c.loop-live.left _ _ (inside d) (within d))

pub loop-live-preserved-in-Done : goal.loop-live-preserved-in-Done
loop-live-preserved-in-Done c =
    rw (c.move_lane.ensures.here, c.move_lane.ensures.left)
    (runs_done c.loop-live.invariant _ (inside (goal.at.loop-live-preserved-in-Done c).In-loop-live) c.in-Done.ensures (turn_in _ _ c.turn-i-in-Done.ensures))

pub loop-live-smaller : goal.loop-live-smaller
loop-live-smaller c =
    let d = (goal.at.loop-live-smaller c).In-loop-live in
    rw c.move_lane-in-Met.ensures.left (less_drop c.loop-live.left _ _ (inside d) (within d))

pub loop-live-preserved : goal.loop-live-preserved
loop-live-preserved c =
    rw (c.move_lane-in-Met.ensures.here, c.move_lane-in-Met.ensures.left)
    (runs_met c.loop-live.invariant _ (inside (goal.at.loop-live-preserved c).In-loop-live) c.in-Met.ensures (turn_in _ _ c.turn-i-in-Met.ensures))

pub returns : goal.returns
returns c = runs_end c.loop-live.invariant c.loop-live-test.false
