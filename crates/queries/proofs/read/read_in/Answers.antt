use borrow.Author.Rules.{rules}
use borrow.Author.Tests.{eqb-true, eqb-false}
use Rattle.std.proofs.lemmas.Result.{err_from_is_err_and}
use mathlib.Core.Path.{sym, ◌∙◌}
use Rattle.kinds.specs.Sizes.{geometry_of}
use Rattle.spaces.specs.Spaces.{volume_in}
use Rattle.queries.specs.Streams.{StreamAt}
use Rattle.queries.proofs.ReadSteps.{read_stopped, read_not_stream, read_there}
use Rattle.queries.proofs.Streams.{object_stream}
use Rattle.queries.proofs.read.read_in.Goals as goal

pub find_in-requires : goal.find_in-requires
find_in-requires c = c.requires

pub returns-in_err-e : goal.returns-in_err-e
returns-in_err-e c =
    let p = c.args in
    let e = err_from_is_err_and c.from_residual.result c.from_residual.ensures.1 in
    let r = read_stopped (geometry_of p.v.tables.geometry) (volume_in p.v p.img.now) p.img.now p.path.now p.offset p.out.now _ c.in_err-e.ensures in
    rw (e.1, e.2) (record { result_value = r.0; out_after = r.1 })

pub returns-then-not-is_stream : goal.returns-then-not-is_stream
returns-then-not-is_stream c =
    let p = c.args in let r = read_not_stream _ _ p.img.now p.path.now p.offset p.out.now _ c.in_ok-e.ensures (eqb-false _ _ (sym c.is_stream.ensures ∙ c.if-not-is_stream.true)) in record { result_value = r.0; out_after = r.1 }

pub read_object-requires : goal.read_object-requires
read_object-requires c =
    let streamed : let p = c.args in StreamAt (volume_in p.v p.img.now) c.in_ok-e.e = let p = c.args in object_stream (volume_in p.v p.img.now) _ c.in_ok-e.ensures.1 (eqb-true _ _ (sym c.is_stream.ensures ∙ c.if-not-is_stream.false)) in
    record { fact = c.requires; stream_at = streamed }

pub returns : goal.returns
returns c =
    let streamed : let p = c.args in StreamAt (volume_in p.v p.img.now) c.in_ok-e.e = let p = c.args in object_stream (volume_in p.v p.img.now) _ c.in_ok-e.ensures.1 (eqb-true _ _ (sym c.is_stream.ensures ∙ c.if-not-is_stream.false)) in
    let p = c.args in
    let s = read_there (geometry_of p.v.tables.geometry) _ p.img.now p.path.now p.offset p.out.now _ c.in_ok-e.ensures streamed in record { result_value = c.read_object.ensures.result_value ∙ s.0; out_after = c.read_object.ensures.out_after ∙ s.1 }
