use Rattle.kinds.specs.Sizes.{geometry_of}
use Rattle.repair_writes.specs.Cells.{table_in}
use Rattle.repair_writes.proofs.Releasing.{RestFreeing}
use Rattle.repair_writes.proofs.free_rest.Given as goal

abbrev pub invariant-loop-u : goal.invariant-loop-u
invariant-loop-u l = RestFreeing (table_in (geometry_of l.g) l.work l.list l.from l.to) l.initial.img l.img l.u
