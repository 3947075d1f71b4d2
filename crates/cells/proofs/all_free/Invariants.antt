use Rattle.std.proofs.Common.{◌≡◌}
use Rattle.format.specs.Basics.Lists.{all_below}
use Rattle.format.specs.Layout.Chain.{is_free}
use Rattle.cells.specs.Cells.{cell_of}
use Rattle.cells.proofs.all_free.Given as goal

abbrev pub invariant-loop-i : goal.invariant-loop-i
invariant-loop-i l = l.ok ≡ all_below l.i (is_free (cell_of l.from))
