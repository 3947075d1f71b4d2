use Rattle.std.proofs.Common.{refl, arith}
use Rattle.format.specs.Basics.Lists.{all_below, list_below}
use Rattle.theory.proofs.Loops.{below_next}
use Rattle.theory.proofs.Below.{below_fill}
use Rattle.cells.specs.Cells.{cell_of, cell_right}
use Rattle.cells.proofs.copy_cells.Goals as goal

pub loop-i-init : goal.loop-i-init
unfolding all_below list_below
loop-i-init c = (refl, refl)

pub loop-i-preserved : goal.loop-i-preserved
unfolding cell_of cell_right
loop-i-preserved c =
    (rw (below_next, c.loop-i.invariant.0, c.u32_at-v.ensures), rw (c.loop-i.invariant.1, c.u32_at-v.ensures) (below_fill (cell_of c.args.from.now) c.args.to.now c.loop-i.i 0 (omega arith)))
