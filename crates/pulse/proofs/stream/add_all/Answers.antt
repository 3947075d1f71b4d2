use native.Mathlib.Omega.{arith}
use mathlib.Core.Path.{◌≡◌, refl, ap, ◌∙◌, subst}
use Prim.Native.Nat.{◌+◌, ◌*◌, ◌≤◌}
use Rattle.format.specs.Layout.Stream.{contents}
use Rattle.format.specs.Rules.Version.{own_volume}
use Rattle.pulse_laws.proofs.Streams.{contents_bytes}
use Rattle.pulse_records.specs.Records.{sum_from}
use Rattle.pulse_records.proofs.Summing.{Summing, summing_start, summing_end}
use Rattle.pulse.proofs.Listed.{stream_few}
use Rattle.pulse.proofs.Pieces.{summing_piece, piece_wrong, piece_fits}
use Rattle.pulse.proofs.stream.add_all.Goals as goal
use Rattle.pulse.proofs.stream.add_all.Goals.{After-from-n, In_ok-total}

-- no more records are in the piece than are left
within : (c : After-from-n) → c.loop-start.start + c.from-n.result.0 ≤ c.args.count.0
within c = omega (arith, c.from-n.ensures, c.loop-start-test.true)

-- the records of the piece are added to those before
more : (c : In_ok-total) → let s = contents (own_volume c.args.image.now) c.args.image.now c.args.e.id.0 in
    Summing s c.args.first c.args.count.0 0 (c.loop-start.start + c.from-n.result.0) c.in_ok-total.total.0
more c =
    let s = contents (own_volume c.args.image.now) c.args.image.now c.args.e.id.0 in
    summing_piece c.loop-start.invariant.0 c.from-n.result.0 c.in_ok-total.total (omega (arith, c.from-n.ensures, c.loop-start-test.true))
    (c.in_ok-total.ensures ∙ ap (λ i. sum_from s (c.args.first + i) c.from-n.result.0 c.loop-start.total.0) c.bytes.ensures)

pub loop-start-init : goal.loop-start-init
loop-start-init c = (summing_start _ _ _ 0, refl)

pub add_piece-requires-clause-n_bound_2 : goal.add_piece-requires-clause-n_bound_2
add_piece-requires-clause-n_bound_2 c =
    piece_fits c.loop-start.invariant.0 (contents_bytes (own_volume c.args.image.now) c.args.image.now c.args.e.id.0 (λ i. (c.type_inv.image i).fits))
    refl (omega (arith, c.requires.count_bound.0, stream_few c.requires.open_stream.opened c.requires.open_stream.stream)) c.from-n.result.0
    (within (goal.at.add_piece-requires-clause-n_bound_2 c).After-from-n)

pub returns-in_err-total : goal.returns-in_err-total
returns-in_err-total c =
    let s = contents (own_volume c.args.image.now) c.args.image.now c.args.e.id.0 in
    c.from_residual.ensures
    ∙ piece_wrong c.loop-start.invariant.0 c.from-n.result.0 (within (goal.at.returns-in_err-total c).After-from-n)
    (c.in_err-total.ensures ∙ ap (λ i. sum_from s (c.args.first + i) c.from-n.result.0 c.loop-start.total.0) c.bytes.ensures)

pub loop-start-preserved : goal.loop-start-preserved
loop-start-preserved c =
    let s = contents (own_volume c.args.image.now) c.args.image.now c.args.e.id.0 in
    let e : c.from-n.result.0 ≡ 64 = omega (arith, c.from-n.ensures) in (
      subst (λ n. Summing s c.args.first c.args.count.0 0 (c.loop-start.start + n) c.in_ok-total.total.0) e (more (goal.at.loop-start-preserved c).In_ok-total),
      c.add_piece.auto.piece ∙ c.loop-start.invariant.1,
    )

pub returns : goal.returns
returns c = summing_end c.loop-start.invariant.0 (omega (arith, c.loop-start-test.false))

pub returns-in_ok-total : goal.returns-in_ok-total
returns-in_ok-total c = summing_end (more (goal.at.returns-in_ok-total c).In_ok-total) (omega (arith, c.from-n.ensures))
