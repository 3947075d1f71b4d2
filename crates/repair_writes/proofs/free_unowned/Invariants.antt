use Rattle.kinds.specs.Sizes.{geometry_of}
use Rattle.repair_writes.proofs.Releasing.{PickFreeing}
use Rattle.repair_writes.proofs.free_unowned.Given as goal

abbrev pub invariant-loop-u : goal.invariant-loop-u
invariant-loop-u l = PickFreeing (geometry_of l.g) l.work l.list l.at l.n l.initial.img l.img l.u
