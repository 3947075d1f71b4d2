use Rattle.std.proofs.Common.{arith}
use Rattle.text.proofs.Decimals.{counted_start, counted_next, counted_most}
use Rattle.text.proofs.decimal_length.Goals as goal

pub loop-m-init : goal.loop-m-init
loop-m-init c = counted_start _ c.ranges.n.fits

pub overflow_add-k : goal.overflow_add-k
overflow_add-k c = omega (arith, counted_most c.loop-m.invariant)

pub loop-m-preserved : goal.loop-m-preserved
loop-m-preserved c = counted_next c.loop-m.invariant c.loop-m-test.true
