use Rattle.tree_edits.proofs.Blackening.{blacken_step, blacken_done}
use Rattle.tree_edits.proofs.blacken.Goals as goal

pub loop-y-preserved : goal.loop-y-preserved
loop-y-preserved c = blacken_step _ _ _ c.loop-y.invariant c.loop-y-test.true _ (rw c.place.ensures at c.put_black.ensures)

pub returns : goal.returns
returns c = blacken_done _ _ _ c.loop-y.invariant c.loop-y-test.false
