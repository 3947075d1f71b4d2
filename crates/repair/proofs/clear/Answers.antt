use lib.Seq.{length-take-le}
use borrow.Author.Rules.{rules}
use Rattle.format.specs.Calls.Buffers.{work_cleared}
use Rattle.repair.proofs.clear.Goals as goal

pub returns : goal.returns
unfolding work_cleared
returns c = let e = c.fill.ensures.after (search rules) in rw (e, length-take-le c.args.n c.args.bytes.now c.requires)
