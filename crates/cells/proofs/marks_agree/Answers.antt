use Rattle.std.proofs.Common.{refl}
use Rattle.format.specs.Basics.Lists.{all_below}
use Rattle.theory.specs.Marks.{marks}
use Rattle.theory.proofs.Loops.{below_next}
use Rattle.cells.specs.Cells.{cell_of, mark_agrees}
use Rattle.cells.proofs.marks_agree.Goals as goal

pub loop-i-init : goal.loop-i-init
unfolding all_below
loop-i-init c = refl

pub loop-i-preserved : goal.loop-i-preserved
unfolding cell_of mark_agrees marks
loop-i-preserved c = rw (below_next, c.loop-i.invariant, c.u32_at-v.ensures)
