use borrow.Author.Tests.{eqb-true, leb-true, not-true, not-false}
use mathlib.Core.Path.{sym, ap, ◌∙◌}
use mathlib.Core.Bool.{cond}
use native.Mathlib.Omega.{arith}
use Rattle.std.specs.Prelude.{Some, None}
use lib.Dec.{eqb, leb}
use Rattle.theory.proofs.Tests.{both}
use Rattle.pulse_laws.specs.Pulse.{distance_for}
use Rattle.pulse.proofs.Listed.{stream_long}
use Rattle.pulse.proofs.Parsing.{short_none, unlike_none, wrong_none, summed_parsed}
use Rattle.pulse.proofs.stream.parse.Goals as goal

pub returns-then-e-lt16 : goal.returns-then-e-lt16
returns-then-e-lt16 c = short_none _ (omega (arith, stream_long c.requires.opened c.requires.stream, c.if-e-lt16.true))

pub returns-then-not-agrees : goal.returns-then-not-agrees
returns-then-not-agrees c =
    unlike_none _ c.read_trailer-t.ensures (stream_long c.requires.opened c.requires.stream) c.if-e-lt16.false (sym c.agrees.ensures ∙ c.if-not-agrees.true)

pub add_all-requires-clause-count_bound : goal.add_all-requires-clause-count_bound
unfolding distance_for
add_all-requires-clause-count_bound c =
    let t = c.read_trailer-t.result in
    let q = both (eqb t.distance (distance_for t.count.0)) (leb t.distance c.args.e.size) (sym c.agrees.ensures ∙ c.if-not-agrees.false) in
    (omega (arith, eqb-true _ _ q.0, leb-true _ _ q.1), omega arith)

pub returns-in_err-total : goal.returns-in_err-total
returns-in_err-total c =
    c.from_residual.ensures
    ∙ wrong_none _ c.read_trailer-t.ensures (stream_long c.requires.opened c.requires.stream) c.if-e-lt16.false (sym c.agrees.ensures ∙ c.if-not-agrees.false)
    c.in_err-total.ensures

pub returns-then-ne : goal.returns-then-ne
returns-then-ne c =
    let t = c.read_trailer-t.result in
    let total = c.in_ok-total.total in
    let e = summed_parsed _ c.read_trailer-t.ensures (stream_long c.requires.opened c.requires.stream) c.if-e-lt16.false (sym c.agrees.ensures ∙ c.if-not-agrees.false) total c.in_ok-total.ensures in
    ap (λ b. cond b (Some t) None) (sym (not-true (eqb t.total.0 total.0) (sym c.ne.ensures ∙ c.if-ne.true))) ∙ e

pub returns : goal.returns
returns c =
    let t = c.read_trailer-t.result in
    let total = c.in_ok-total.total in
    let e = summed_parsed _ c.read_trailer-t.ensures (stream_long c.requires.opened c.requires.stream) c.if-e-lt16.false (sym c.agrees.ensures ∙ c.if-not-agrees.false) total c.in_ok-total.ensures in
    ap (λ b. cond b (Some t) None) (sym (not-false (eqb t.total.0 total.0) (sym c.ne.ensures ∙ c.if-ne.false))) ∙ e
