use Prim.Native.Nat.{◌<◌}
use mathlib.Core.Path.{sym, ◌∙◌}
use native.Mathlib.Omega.{arith}
use Rattle.chains.proofs.Walks.{walks_start, walks_step, walk_out, walk_met, walk_end, too_long}
use Rattle.chains.proofs.mark_chain.Goals as goal
use Rattle.chains.proofs.mark_chain.Goals.{Else-limit-u}

small : (c : Else-limit-u) → c.loop-k.k < 0x1000_0000
small c = omega (arith, c.loop-k.invariant.few, c.if-limit-n.false, c.requires.1)

pub returns-then-limit-n : goal.returns-then-limit-n
returns-then-limit-n c = λ sp e z. too_long z (omega (arith, e, c.if-limit-n.true))

pub loop-k-init : goal.loop-k-init
loop-k-init c = walks_start

pub returns-then-limit-u : goal.returns-then-limit-u
returns-then-limit-u c = λ sp e z. walk_out z (c.loop-k.invariant.along sp e z) (omega (arith, c.loop-k-test.true)) (omega (arith, e, c.if-limit-u.true))

pub returns-then-is_mark : goal.returns-then-is_mark
returns-then-is_mark c =
    let d = goal.at.returns-then-is_mark c in
    rw c.then_some.ensures
    (λ sp e z. walk_met z (c.loop-k.invariant.along sp e z) (omega (arith, c.loop-k-test.true)) (small d.Else-limit-u) (omega (arith, e, c.if-limit-u.false)) (sym c.is_mark.ensures ∙ c.if-is_mark.true))

pub loop-k-preserved : goal.loop-k-preserved
loop-k-preserved c =
    let d = goal.at.loop-k-preserved c in
    walks_step c.loop-k.invariant (omega (arith, c.loop-k-test.true)) (small d.Else-limit-u) (omega (arith, c.if-limit-u.false)) (sym c.is_mark.ensures ∙ c.if-is_mark.false)

pub returns : goal.returns
returns c = rw c.then_some-2.ensures (λ sp e z. walk_end z (c.loop-k.invariant.along sp e z) (omega (arith, c.loop-k-test.false)))
