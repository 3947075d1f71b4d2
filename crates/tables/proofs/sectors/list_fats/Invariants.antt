use Rattle.kinds.specs.Sizes.{geometry_of}
use Rattle.tables.proofs.DifatLaws.{FatWalk}
use Rattle.tables.proofs.sectors.list_fats.Given as goal

abbrev pub invariant-loop-k : goal.invariant-loop-k
invariant-loop-k l = FatWalk (geometry_of l.g) l.img l.initial.work l.at l.work l.k
