use Rattle.std.proofs.Common.{◌≡◌}
use Rattle.format.specs.Basics.Lists.{all_below}
use Rattle.theory.specs.Marks.{marks}
use Rattle.cells.specs.Cells.{cell_of, mark_agrees}
use Rattle.cells.proofs.marks_agree.Given as goal

abbrev pub invariant-loop-i : goal.invariant-loop-i
invariant-loop-i l = l.ok ≡ all_below l.i (mark_agrees (cell_of l.from) (marks l.marked))
