use Prim.Native.Nat.{◌-◌}
use Rattle.kinds.specs.Sizes.{geometry_of}
use Rattle.cells.proofs.Turns.{Passed}
use Rattle.tables.specs.Words.{table_cell, free_from}
use Rattle.tables.proofs.table_free.Given as goal

abbrev pub invariant-loop-i : goal.invariant-loop-i
invariant-loop-i l = Passed (free_from (table_cell (geometry_of l.g) l.img l.work l.list) l.low) (l.end - l.low) l.ok l.i

abbrev pub decreases-loop-i : goal.decreases-loop-i
decreases-loop-i l = l.end - l.low - l.i
