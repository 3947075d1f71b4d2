use Rattle.std.proofs.Common.{arith, ◌∙◌, ◌<◌, ◌+◌, ◌-◌}
use Rattle.lines.proofs.LineWrites.{put_none, put_parent, put_slash}
use Rattle.lines.proofs.put_before.Goals as goal

pub returns-then-parent-eq0-clause-written : goal.returns-then-parent-eq0-clause-written
returns-then-parent-eq0-clause-written c = let a = c.args in put_none a.out.now a.at a.from a.parent c.requires.parent_in_bounds c.if-parent-eq0.true

pub returns-clause-written : goal.returns-clause-written
returns-clause-written c =
    let a = c.args in
    let some : 0 < a.parent = omega arith in
    let r = c.requires in
    put_slash a.out.now a.at a.from a.parent r.parent_in_bounds some r.parent_bound
    (put_parent a.out.now a.at a.from a.parent r.parent_in_bounds some r.parent_bound c.copy_within.ensures)
