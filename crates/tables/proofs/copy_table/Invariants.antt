use Prim.Native.Nat.{◌-◌}
use Rattle.kinds.specs.Sizes.{geometry_of}
use Rattle.cells.specs.Cells.{cell_right}
use Rattle.cells.proofs.Turns.{Passed}
use Rattle.tables.specs.Words.{table_cell}
use Rattle.tables.proofs.Copies.{TableCopy}
use Rattle.tables.proofs.copy_table.Given as goal

abbrev pub invariant-loop-i : goal.invariant-loop-i
invariant-loop-i l =
    Passed (cell_right l.limit l.special (table_cell (geometry_of l.g) l.img l.initial.work l.list)) l.limit l.ok l.i × TableCopy (table_cell (geometry_of l.g) l.img l.initial.work l.list) l.initial.work l.work l.at l.limit l.i

abbrev pub decreases-loop-i : goal.decreases-loop-i
decreases-loop-i l = l.limit - l.i
