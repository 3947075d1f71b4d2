use native.Mathlib.Omega.{arith}
use mathlib.Core.Path.{◌∙◌}
use lib.ListN.{drop}
use lib.Seq.{paste-zero}
use Rattle.lines.proofs.LineWrites.{copied_more, copied}
use Rattle.lines.proofs.copy_within.Goals as goal

pub loop-i-init : goal.loop-i-init
loop-i-init c = paste-zero c.args.out.now c.args.to (drop c.args.from c.args.out.now)

pub loop-i-preserved : goal.loop-i-preserved
loop-i-preserved c = let a = c.args in rw c.loop-i.invariant (copied_more a.out.now a.from a.to c.loop-i.i (omega arith) (omega arith))

pub returns : goal.returns
returns c = let a = c.args in c.loop-i.invariant ∙ copied a.out.now a.from a.to c.loop-i.i (omega arith)
