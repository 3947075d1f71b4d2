use Rattle.repair_owners.proofs.Marking.{streams_left}
use Rattle.repair_owners.proofs.mark_streams.Goals as goal

pub mark_streams-requires : goal.mark_streams-requires
mark_streams-requires c = c.requires.streams

pub returns : goal.returns
returns c = rw c.is_some.ensures (streams_left c.args.s c.args.img.now c.requires c.mark_streams.ensures)
