use Rattle.entry_writes.proofs.Blocks.{units_step, units_end}
use Rattle.entry_writes.proofs.put_units.Goals as goal

pub loop-i-preserved : goal.loop-i-preserved
loop-i-preserved c = rw c.put_u16.ensures (units_step c.loop-i.invariant c.loop-i-test.true)

pub returns : goal.returns
returns c = units_end c.loop-i.invariant c.loop-i-test.false
