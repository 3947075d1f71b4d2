use borrow.Author.Rules.{rules}
use Rattle.std.proofs.lemmas.Result.{err_from_is_err_and}
use mathlib.Core.Path.{sym, ◌∙◌}
use borrow.Author.Tests.{eqb-true, eqb-false, ltb-false}
use Rattle.kinds.specs.Sizes.{geometry_of}
use Rattle.kinds.specs.declared.Refusal.TheVariants.{NotAStream}
use Rattle.tables.proofs.WorkLaws.{wrote_none}
use Rattle.spaces.specs.Spaces.{volume_in}
use Rattle.queries.proofs.Streams.{object_stream}
use Rattle.edits.proofs.Targets.{find_stopped, find_other, find_target}
use Rattle.edits.proofs.Overwrites.{over_refused, over_beyond, over_done}
use Rattle.edits.proofs.overwrite.overwrite_in.Goals as goal

pub find_in-requires : goal.find_in-requires
find_in-requires c = c.requires

pub returns-in_err-e : goal.returns-in_err-e
returns-in_err-e c =
    let a = c.args in
    let vol = volume_in a.v a.img.now in
    let r = err_from_is_err_and c.from_residual.result c.from_residual.ensures.1 in
    let z = find_stopped vol a.path.now _ c.in_err-e.ensures in
    let l = over_refused (geometry_of a.v.tables.geometry) vol a.img.now a.path.now a.offset a.bytes.now _ z in
    rw (r.1, r.2) (record { result_value = l.0; img_after = l.1; wrote = wrote_none _ 0 _ })

pub returns-then-not-is_stream : goal.returns-then-not-is_stream
returns-then-not-is_stream c =
    let a = c.args in
    let vol = volume_in a.v a.img.now in
    let l = over_refused (geometry_of a.v.tables.geometry) vol a.img.now a.path.now a.offset a.bytes.now NotAStream (find_other vol a.path.now _ c.in_ok-e.ensures (eqb-false _ _ (sym c.is_stream.ensures ∙ c.if-not-is_stream.true))) in record { result_value = l.0; img_after = l.1; wrote = wrote_none _ 0 _ }

pub returns-then-ends_beyond : goal.returns-then-ends_beyond
returns-then-ends_beyond c =
    let a = c.args in
    let vol = volume_in a.v a.img.now in
    let k = eqb-true _ _ (sym c.is_stream.ensures ∙ c.if-not-is_stream.false) in
    let l = over_beyond (geometry_of a.v.tables.geometry) vol a.img.now a.path.now a.offset a.bytes.now _ _ (find_target vol a.path.now _ c.in_ok-e.ensures k) (object_stream vol _ c.in_ok-e.ensures.1 k).sized (sym c.ends_beyond.ensures ∙ c.if-ends_beyond.true) in record { result_value = l.0; img_after = l.1; wrote = wrote_none _ 0 _ }

pub put_in_stream-requires : goal.put_in_stream-requires
put_in_stream-requires c =
    let vol = volume_in c.args.v c.args.img.now in
    let k = eqb-true _ _ (sym c.is_stream.ensures ∙ c.if-not-is_stream.false) in record { fact = c.requires; stream_at = object_stream vol _ c.in_ok-e.ensures.1 k; bytes_bound = ltb-false _ _ (sym c.ends_beyond.ensures ∙ c.if-ends_beyond.false) }

pub returns : goal.returns
returns c =
    let a = c.args in
    let vol = volume_in a.v a.img.now in
    let k = eqb-true _ _ (sym c.is_stream.ensures ∙ c.if-not-is_stream.false) in
    let l = over_done (geometry_of a.v.tables.geometry) vol a.img.now a.path.now a.offset a.bytes.now _ _ (find_target vol a.path.now _ c.in_ok-e.ensures k) (object_stream vol _ c.in_ok-e.ensures.1 k).sized (sym c.ends_beyond.ensures ∙ c.if-ends_beyond.false) c.put_in_stream.ensures.img_after in record { result_value = l.0; img_after = l.1; wrote = c.put_in_stream.ensures.wrote }
