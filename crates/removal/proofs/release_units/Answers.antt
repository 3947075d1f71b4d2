use mathlib.Core.Path.{ap}
use Rattle.kinds.specs.declared.EntryId.{EntryId}
use Rattle.removal.proofs.Cuts.{entry_asks, cut_asks, cut_image, kept_image}
use Rattle.removal.proofs.release_units.Goals as goal

pub object_at-e-requires-clause-x_bound : goal.object_at-e-requires-clause-x_bound
object_at-e-requires-clause-x_bound c = (entry_asks c.requires.fact _ c.requires.x_bound).1

pub change_length-requires : goal.change_length-requires
change_length-requires c =
    let t = rw c.is_stream.ensures at c.if-is_stream-e.true in
    let e = c.object_at-e.ensures in
    let r = cut_asks c.requires.fact _ c.requires.x_bound _ (ap (λ (u : EntryId). u.0) e.id_value) e.entry_type_value e.size_value t in
    record { fact = r.0; stream_at = r.1.0; value = r.1.1.0; size_nonzero = r.1.1.1 }

pub returns-then-is_stream-e-clause-image : goal.returns-then-is_stream-e-clause-image
returns-then-is_stream-e-clause-image c =
    let t = rw c.is_stream.ensures at c.if-is_stream-e.true in
    let e = c.object_at-e.ensures in
    cut_image c.requires.fact _ c.requires.x_bound _ (ap (λ (u : EntryId). u.0) e.id_value) e.entry_type_value e.size_value t _ _ c.change_length.ensures.answer_value c.change_length.ensures.img_after

pub returns-else-is_stream-e-clause-image : goal.returns-else-is_stream-e-clause-image
returns-else-is_stream-e-clause-image c =
    let t = rw c.is_stream.ensures at c.if-is_stream-e.false in
    let e = c.object_at-e.ensures in
    kept_image c.requires.fact _ c.requires.x_bound _ (ap (λ (u : EntryId). u.0) e.id_value) e.entry_type_value e.size_value t
