use Rattle.spaces.specs.Spaces.{space_at}
use Rattle.unitlists.proofs.Picking.{Picking}
use Rattle.unitlists.proofs.list_free.Given as goal

abbrev pub invariant-loop-n : goal.invariant-loop-n
invariant-loop-n l = Picking (space_at l.v l.img l.kind) l.initial.work l.k l.need l.work l.n l.from l.looked
