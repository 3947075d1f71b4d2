use Rattle.kinds.specs.Sizes.{geometry_of}
use Rattle.tables.proofs.DifatLaws.{DifatWalk}
use Rattle.tables.proofs.sectors.list_difats.Given as goal

abbrev pub invariant-loop-j : goal.invariant-loop-j
invariant-loop-j l = DifatWalk (geometry_of l.g) l.img l.initial.work l.at l.work l.s.0 l.j
