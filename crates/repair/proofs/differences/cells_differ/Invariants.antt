use Rattle.format.specs.Calls.Repair.{cell_differs}
use Rattle.kinds.specs.Sizes.{geometry_of}
use Rattle.repair_writes.specs.Cells.{table_in}
use Rattle.repair.proofs.Counting.{Counting}
use Rattle.repair.proofs.differences.cells_differ.Given as goal

abbrev pub invariant-loop-u : goal.invariant-loop-u
invariant-loop-u l = Counting (cell_differs (table_in (geometry_of l.g) l.work l.list l.n l.n) l.img l.after) l.n l.u l.count
