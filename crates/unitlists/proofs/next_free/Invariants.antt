use Rattle.spaces.specs.Spaces.{space_at}
use Rattle.unitlists.proofs.Searching.{Searching}
use Rattle.unitlists.proofs.next_free.Given as goal

abbrev pub invariant-loop-place : goal.invariant-loop-place
invariant-loop-place l = Searching (space_at l.v l.img l.kind) l.from l.place l.looked
