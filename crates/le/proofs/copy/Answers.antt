use Rattle.std.proofs.Common.{arith, refl, ◌≡◌, ◌∙◌}
use mathlib.Core.List.{append-nil}
use lib.ListN.{length, drop_of_length-le}
use lib.Seq.{take_all}
use Rattle.theory.proofs.Sets.{copy_more}
use Rattle.le.proofs.copy.Goals as goal

pub loop-i-init : goal.loop-i-init
loop-i-init c = refl

pub loop-i-preserved : goal.loop-i-preserved
loop-i-preserved c = let a = c.args in rw c.loop-i.invariant (copy_more a.to.now a.from.now c.loop-i.i 0 (omega arith) (omega arith))

pub returns : goal.returns
returns c =
    let a = c.args in
    c.loop-i.invariant ∙ rw (take_all c.loop-i.i a.from.now (omega arith), drop_of_length-le a.to.now {i = c.loop-i.i} (omega arith)) (append-nil a.from.now)
