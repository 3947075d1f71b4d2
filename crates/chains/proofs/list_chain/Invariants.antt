use Rattle.kinds.specs.Sizes.{geometry_of}
use Rattle.chains.proofs.Listing.{Listing}
use Rattle.chains.proofs.list_chain.Given as goal

abbrev pub invariant-loop-i : goal.invariant-loop-i
invariant-loop-i l = Listing (geometry_of l.t.geometry) l.img l.initial.work l.t.sectors l.t.list l.n l.initial.s.0 l.at l.work l.s.0 l.i
