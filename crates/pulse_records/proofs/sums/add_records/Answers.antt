use borrow.Author.Rules.{rules}
use native.Mathlib.Omega.{arith}
use mathlib.Core.Path.{◌≡◌, sym, ap, ◌∙◌}
use Rattle.pulse_records.specs.Records.{ticks_from}
use Rattle.pulse_records.proofs.Summing.{right_first, ticks_first, summing_start, summing_wrong, summing_next, summing_fits, summing_end}
use Rattle.pulse_records.proofs.sums.add_records.Goals as goal
use Rattle.pulse_records.proofs.sums.add_records.Goals.{After-pulse_at-p}

-- the ticks that are added are those of record k
ticks : (c : After-pulse_at-p) → c.pulse_at-p.result.ticks.0 ≡ ticks_from c.args.bytes.now 0 c.loop-k.k
ticks c = ap (λ p. p.ticks.0) c.pulse_at-p.ensures ∙ ticks_first c.args.bytes.now c.loop-k.k _ c.bytes-at.ensures

pub loop-k-init : goal.loop-k-init
loop-k-init c = summing_start _ 0 _ _

pub returns-then-not-is_right : goal.returns-then-not-is_right
returns-then-not-is_right c =
    summing_wrong c.args.bytes.now 0 _ _ c.loop-k.k (omega arith)
    (sym (right_first c.args.bytes.now c.loop-k.k _ c.bytes-at.ensures) ∙ sym c.is_right.ensures ∙ c.if-not-is_right.true)

pub plus-total-requires : goal.plus-total-requires
plus-total-requires c =
    let f = summing_fits c.loop-k.invariant (λ i. (c.type_inv.bytes i).fits) (omega arith) c.requires.n_bound in
    omega (arith, ticks (goal.at.plus-total-requires c).After-pulse_at-p, f)

pub loop-k-preserved : goal.loop-k-preserved
loop-k-preserved c =
    let e = sym (right_first c.args.bytes.now c.loop-k.k _ c.bytes-at.ensures) ∙ sym c.is_right.ensures ∙ c.if-not-is_right.false in
    rw (c.plus-total.ensures, ticks (goal.at.loop-k-preserved c).After-pulse_at-p) (summing_next c.loop-k.invariant (omega arith) e)

pub returns : goal.returns
returns c = summing_end c.loop-k.invariant (omega arith)
