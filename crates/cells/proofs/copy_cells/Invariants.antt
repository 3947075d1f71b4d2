use Rattle.std.proofs.Common.{◌≡◌, ◌++◌, drop}
use Rattle.format.specs.Basics.Lists.{all_below, list_below}
use Rattle.cells.specs.Cells.{cell_of, cell_right}
use Rattle.cells.proofs.copy_cells.Given as goal

abbrev pub invariant-loop-i : goal.invariant-loop-i
invariant-loop-i l =
    (l.ok ≡ all_below l.i (cell_right l.limit l.special (cell_of l.from)))
    × (l.to ≡ list_below l.i (cell_of l.from) ++ drop l.i l.initial.to)
