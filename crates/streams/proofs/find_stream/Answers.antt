use borrow.Author.Rules.{rules}
use borrow.Author.Tests.{eqb-true, eqb-false}
use Rattle.std.proofs.lemmas.Result.{err_from_is_err_and}
use mathlib.Core.Path.{◌≡◌, sym, ◌∙◌}
use mathlib.Core.Logic.{◌≢◌}
use Rattle.kinds.specs.declared.Refusal.TheVariants.{NotAStream}
use Rattle.spaces.specs.Spaces.{volume_in}
use Rattle.queries.proofs.Streams.{object_stream}
use Rattle.edits.proofs.Targets.{find_stopped, find_other, find_target}
use Rattle.streams.proofs.Finding.{stream_refused, stream_found_lem}
use Rattle.streams.proofs.find_stream.Goals as goal
use Rattle.streams.proofs.find_stream.Goals.{Else-not-is_stream, Then-not-is_stream}

streamed : (c : Else-not-is_stream) → c.in_ok-e.e.entry_type.0 ≡ 2
streamed c = eqb-true _ _ (sym c.is_stream.ensures ∙ c.if-not-is_stream.false)

-- what its type says
other : (c : Then-not-is_stream) → c.in_ok-e.e.entry_type.0 ≢ 2
other c = eqb-false _ _ (sym c.is_stream.ensures ∙ c.if-not-is_stream.true)

pub find_in-requires : goal.find_in-requires
find_in-requires c = c.requires.opened

pub returns-in_err-e : goal.returns-in_err-e
returns-in_err-e c =
    let r = err_from_is_err_and c.from_residual.result c.from_residual.ensures.1 in
    rw (r.1, r.2) (stream_refused c.requires c.args.path.now _ (find_stopped _ c.args.path.now _ c.in_err-e.ensures))

pub returns-then-not-is_stream : goal.returns-then-not-is_stream
returns-then-not-is_stream c =
    stream_refused c.requires c.args.path.now NotAStream (find_other _ c.args.path.now _ c.in_ok-e.ensures (other (goal.at.returns-then-not-is_stream c).Then-not-is_stream))

pub returns : goal.returns
returns c =
    stream_found_lem c.requires c.args.path.now _ (object_stream _ _ c.in_ok-e.ensures.1 (streamed (goal.at.returns c).Else-not-is_stream)) (find_target _ c.args.path.now _ c.in_ok-e.ensures (streamed (goal.at.returns c).Else-not-is_stream))
