use Rattle.text.proofs.Writing.{writing_start, writing_next}
use Rattle.std.proofs.Common.{arith}
use Rattle.text.proofs.put_decimal.Goals as goal

pub loop-i-init : goal.loop-i-init
loop-i-init c = writing_start _ _ _ c.requires c.ranges.n.fits c.decimal_length-k.ensures

pub loop-i-preserved : goal.loop-i-preserved
loop-i-preserved c = writing_next c.loop-i.invariant (omega arith)
