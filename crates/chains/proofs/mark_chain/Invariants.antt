use Rattle.chains.proofs.Walks.{Walks}
use Rattle.chains.proofs.mark_chain.Given as goal

abbrev pub invariant-loop-k : goal.invariant-loop-k
invariant-loop-k l = Walks l.at l.limit l.initial.work l.n l.start l.work l.s l.k
