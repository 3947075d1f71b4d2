use Prim.Native.Nat.{◌+◌, ◌≤◌}
use mathlib.Core.Path.{◌≡◌}
use native.Mathlib.Omega.{arith}
use Rattle.tables.specs.Views.{volume_of}
use Rattle.directory.proofs.Places.{count_is, count_few}
use Rattle.owners.proofs.Judged.{same_count}
use Rattle.owners.proofs.Marking.{marking_start, marking_step, marking_broken, marking_end}
use Rattle.owners.proofs.mark_streams.Goals as goal
use Rattle.owners.proofs.mark_streams.Goals.{After-count-n, After-min-end}

-- the entries are as many by the list as by `format`
all : (c : After-count-n) → let a = c.args in (c.count-n.result ≤ (volume_of a.t.geometry a.img.now).directory.count) × ((volume_of a.t.geometry a.img.now).directory.count ≤ c.count-n.result)
all c =
    let s = same_count c.args.d c.args.t.geometry c.args.img.now c.requires.same in
    (omega (arith, s, c.count-n.ensures, count_is c.requires.directory), omega (arith, s, c.count-n.ensures, count_is c.requires.directory))

-- a block ends behind its begin, among them
ends : (c : After-min-end) → (c.loop-x.x ≤ c.min-end.result) × (c.min-end.result ≤ c.count-n.result)
ends c = (omega (arith, c.min-end.ensures, c.loop-x-test.true), omega (arith, c.min-end.ensures))

pub loop-x-init : goal.loop-x-init
loop-x-init c = marking_start c.requires

pub overflow_add-x : goal.overflow_add-x
overflow_add-x c = omega (arith, c.loop-x-test.true, c.count-n.ensures, count_few c.requires.directory)

pub overflow_cast-x : goal.overflow_cast-x
overflow_cast-x c = omega (arith, c.loop-x-test.true, c.count-n.ensures, count_few c.requires.directory)

pub mark_block-requires-clause-x_le_end : goal.mark_block-requires-clause-x_le_end
mark_block-requires-clause-x_le_end c =
    let e = ends (goal.at.mark_block-requires-clause-x_le_end c).After-min-end in
    (e.0, omega (arith, e.1, c.count-n.ensures, count_is c.requires.directory), omega (arith, c.min-end.ensures))

pub returns-in_err-shared : goal.returns-in_err-shared
returns-in_err-shared c =
    let e = ends (goal.at.returns-in_err-shared c).After-min-end in
    rw c.from_residual.ensures (marking_broken c.loop-x.invariant e.0 (omega (arith, e.1, (all (goal.at.returns-in_err-shared c).After-count-n).0)) c.in_err-shared.ensures)

pub loop-x-preserved : goal.loop-x-preserved
loop-x-preserved c =
    let d = goal.at.loop-x-preserved c in
    let e : c.min-end.result ≡ c.loop-x.x + 32 = omega (arith, c.min-end.ensures) in
    let n = ends d.After-min-end in
    rw (← e) (marking_step c.loop-x.invariant n.0 (omega (arith, n.1, (all d.After-count-n).0)) c.in_ok-shared.ensures)

pub returns : goal.returns
returns c = marking_end c.loop-x.invariant (omega (arith, c.loop-x-test.false, (all (goal.at.returns c).After-count-n).1))

pub returns-in_ok-shared : goal.returns-in_ok-shared
returns-in_ok-shared c =
    let d = goal.at.returns-in_ok-shared c in
    let n = ends d.After-min-end in
    let a = all d.After-count-n in
    marking_end (marking_step c.loop-x.invariant n.0 (omega (arith, n.1, a.0)) c.in_ok-shared.ensures) (omega (arith, c.min-end.ensures, a.1))
