use Rattle.theory.proofs.Trees.HeirWays.{heir_step, heir_end}
use Rattle.theory.proofs.Trees.Spines.{right_shorter}
use Rattle.directory.proofs.Fields.{none_yes, none_no}
use Rattle.tree_edits.proofs.find_heir.Goals as goal

pub returns-then-is_none : goal.returns-then-is_none
returns-then-is_none c = heir_end _ _ _ _ _ c.loop-d.invariant (none_yes c.is_none.ensures c.if-is_none.true c.right_of-right.ensures)

pub loop-d-smaller : goal.loop-d-smaller
loop-d-smaller c = rw c.right_of-right.ensures (right_shorter _ _ c.loop-d.invariant.stands)

pub loop-d-preserved : goal.loop-d-preserved
loop-d-preserved c = rw c.right_of-right.ensures (heir_step _ _ _ _ _ c.loop-d.invariant (none_no c.is_none.ensures c.if-is_none.false c.right_of-right.ensures))
