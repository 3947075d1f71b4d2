use Rattle.tables.proofs.ListLaws.{ListWalk}
use Rattle.tables.proofs.sectors.mark_list.Given as goal

abbrev pub invariant-loop-k : goal.invariant-loop-k
invariant-loop-k l = ListWalk l.initial.work l.n l.at l.count l.v l.work l.k
