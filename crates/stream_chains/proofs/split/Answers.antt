use native.Mathlib.Omega.{arith}
use Rattle.stream_chains.proofs.Joins.{below_longer}
use Rattle.stream_chains.proofs.Splitting.{split_none}
use Rattle.stream_chains.proofs.split.Goals as goal

pub loop-j-init : goal.loop-j-init
loop-j-init c = split_none

pub returns-in_err-c : goal.returns-in_err-c
returns-in_err-c c = rw c.from_residual.ensures (λ v m. below_longer _ _ _ (omega arith) (c.in_err-c.ensures v m))
