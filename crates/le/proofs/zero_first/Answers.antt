use Rattle.std.proofs.Common.{rules}
use Rattle.format.specs.Calls.Buffers.{work_cleared}
use Rattle.le.proofs.zero_first.Goals as goal

pub returns : goal.returns
unfolding work_cleared
returns c = search rules
