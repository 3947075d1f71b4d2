use borrow.Author.Rules.{rules}
use borrow.Author.Tests.{eqb-true, eqb-false}
use Rattle.std.proofs.lemmas.Result.{err_from_is_err_and}
use mathlib.Core.Path.{sym, ◌∙◌}
use Rattle.kinds.specs.Sizes.{geometry_of}
use Rattle.kinds.specs.declared.Refusal.TheVariants.{NotAStream}
use Rattle.tables.proofs.WorkLaws.{wrote_none}
use Rattle.spaces.specs.Spaces.{volume_in}
use Rattle.queries.proofs.Streams.{object_stream}
use Rattle.edits.proofs.Targets.{find_stopped, find_other, find_target}
use Rattle.lengths.proofs.LengthAnswers.{own_geometry, length_refused, length_within, length_across, length_same}
use Rattle.lengths.proofs.set_length_in.Goals as goal

pub find_in-requires : goal.find_in-requires
find_in-requires c = c.requires

pub returns-in_err-e : goal.returns-in_err-e
returns-in_err-e c =
    let a = c.args in
    let vol = volume_in a.v a.img.now in
    let r = err_from_is_err_and c.from_residual.result c.from_residual.ensures.1 in
    let z = find_stopped vol a.path.now _ c.in_err-e.ensures in
    let l = length_refused (geometry_of a.v.tables.geometry) vol a.img.now a.path.now a.new_len _ z in
    rw (r.1, r.2) (record { result_value = l.0; img_after = l.1; wrote = wrote_none _ 0 _ })

pub returns-then-not-is_stream : goal.returns-then-not-is_stream
returns-then-not-is_stream c =
    let a = c.args in
    let vol = volume_in a.v a.img.now in
    let l = length_refused (geometry_of a.v.tables.geometry) vol a.img.now a.path.now a.new_len NotAStream (find_other vol a.path.now _ c.in_ok-e.ensures (eqb-false _ _ (sym c.is_stream.ensures ∙ c.if-not-is_stream.true))) in record { result_value = l.0; img_after = l.1; wrote = wrote_none _ 0 _ }

pub returns-then-e-new_len : goal.returns-then-e-new_len
returns-then-e-new_len c =
    let a = c.args in
    let vol = volume_in a.v a.img.now in
    let k = eqb-true _ _ (sym c.is_stream.ensures ∙ c.if-not-is_stream.false) in
    let l = length_same (geometry_of a.v.tables.geometry) vol a.img.now a.path.now a.new_len _ _ (find_target vol a.path.now _ c.in_ok-e.ensures k) (object_stream vol _ c.in_ok-e.ensures.1 k).sized c.if-e-new_len.true in record { result_value = l.0; img_after = l.1; wrote = wrote_none _ 0 _ }

pub move_stream-requires : goal.move_stream-requires
move_stream-requires c =
    let vol = volume_in c.args.v c.args.img.now in
    let k = eqb-true _ _ (sym c.is_stream.ensures ∙ c.if-not-is_stream.false) in record { fact = c.requires; stream_at = object_stream vol _ c.in_ok-e.ensures.1 k; value = sym c.crossing.ensures ∙ c.if-crossing.true }

pub returns-then-crossing : goal.returns-then-crossing
returns-then-crossing c =
    let a = c.args in
    let vol = volume_in a.v a.img.now in
    let k = eqb-true _ _ (sym c.is_stream.ensures ∙ c.if-not-is_stream.false) in
    let l = length_across (geometry_of a.v.tables.geometry) vol a.img.now a.path.now a.new_len _ _ (find_target vol a.path.now _ c.in_ok-e.ensures k) (object_stream vol _ c.in_ok-e.ensures.1 k).sized (own_geometry _ _) (sym c.crossing.ensures ∙ c.if-crossing.true) c.move_stream.ensures.answer_value c.move_stream.ensures.img_after in record { result_value = l.0; img_after = l.1; wrote = c.move_stream.ensures.wrote }

pub change_length-requires : goal.change_length-requires
change_length-requires c =
    let vol = volume_in c.args.v c.args.img.now in
    let k = eqb-true _ _ (sym c.is_stream.ensures ∙ c.if-not-is_stream.false) in record { fact = c.requires; stream_at = object_stream vol _ c.in_ok-e.ensures.1 k; value = sym c.crossing.ensures ∙ c.if-crossing.false; size_nonzero = λ z. c.if-e-new_len.false (sym z) }

pub returns : goal.returns
returns c =
    let a = c.args in
    let vol = volume_in a.v a.img.now in
    let k = eqb-true _ _ (sym c.is_stream.ensures ∙ c.if-not-is_stream.false) in
    let l = length_within (geometry_of a.v.tables.geometry) vol a.img.now a.path.now a.new_len _ _ (find_target vol a.path.now _ c.in_ok-e.ensures k) (object_stream vol _ c.in_ok-e.ensures.1 k).sized (sym c.crossing.ensures ∙ c.if-crossing.false) c.change_length.ensures.answer_value c.change_length.ensures.img_after in record { result_value = l.0; img_after = l.1; wrote = c.change_length.ensures.wrote }
