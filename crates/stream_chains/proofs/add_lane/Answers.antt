use Prim.Native.Nat.{◌<◌}
use native.Mathlib.Omega.{arith}
use lib.ListN.{get_or}
use Rattle.format.specs.Layout.Need.{cutoff}
use Rattle.format.specs.Layout.Geometry.{mini_bytes}
use Rattle.theory.proofs.RoundUp.{round_self}
use Rattle.stream_chains.proofs.Splitting.{no_lane, small_lane, large_lane, empty_off, too_long}
use Rattle.stream_chains.proofs.add_lane.Goals as goal
use Rattle.stream_chains.proofs.add_lane.Goals.{After-units_for}

-- the units of a lane are few
few_minis : (c : After-units_for) → c.units_for.result < 0x1000_0000
few_minis c = omega (arith, c.units_for.ensures, round_self (get_or c.args.sizes.now c.args.j 0) 64 (omega arith), c.if-size-lt-CUTOFF.true)

pub returns-then-start : goal.returns-then-start
returns-then-start c = no_lane c.requires.split_ready c.if-size-eq0.true c.if-start.true

pub returns-then-size-eq0 : goal.returns-then-size-eq0
returns-then-size-eq0 c = λ v m. let a = c.args in empty_off a.starts.now a.sizes.now _ m c.if-size-eq0.true c.if-start.false

pub overflow_cast-sl : goal.overflow_cast-sl
overflow_cast-sl c = omega (arith, few_minis (goal.at.overflow_cast-sl c).After-units_for)

pub returns-then-size-lt-CUTOFF : goal.returns-then-size-lt-CUTOFF
unfolding cutoff mini_bytes
returns-then-size-lt-CUTOFF c =
    small_lane c.requires.split_ready c.requires.j_bound.0 c.if-size-lt-CUTOFF.true (omega (arith, c.requires.split_ready.few, c.requires.j_bound)) (omega (arith, c.requires.split_ready.few, c.requires.j_bound)) _ (few_minis (goal.at.returns-then-size-lt-CUTOFF c).After-units_for) c.units_for.ensures

pub returns-then-sectors-n : goal.returns-then-sectors-n
unfolding cutoff
returns-then-sectors-n c = λ v m. let a = c.args in too_long a.starts.now a.sizes.now _ m c.if-size-lt-CUTOFF.false c.requires.j_bound.2 (rw c.sectors_for-n.ensures at c.if-sectors-n.true)

pub returns : goal.returns
unfolding cutoff
returns c =
    large_lane c.requires.split_ready c.requires.j_bound.0 c.if-size-lt-CUTOFF.false (omega (arith, c.requires.split_ready.few, c.requires.j_bound)) (omega (arith, c.requires.split_ready.few, c.requires.j_bound)) _ (omega (arith, c.if-sectors-n.false, c.requires.j_bound)) c.sectors_for-n.ensures
