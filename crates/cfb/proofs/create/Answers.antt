use mathlib.Core.Path.{◌∙◌}
use mathlib.Core.List.{[]}
use Rattle.std.proofs.lemmas.Result.{err_from_is_err_and}
use Rattle.format.specs.Calls.Call.{create}
use Rattle.kinds.specs.Links.{new_kind_of}
use Rattle.tables.proofs.WorkLaws.{wrote_none}
use Rattle.opened.specs.Sequence.{lent}
use Rattle.opened.proofs.Sequence.{same_refused, same_reply, same_edit}
use Rattle.cfb.proofs.create.Goals as goal

pub returns-in_err-v : goal.returns-in_err-v
unfolding lent
returns-in_err-v c =
    let a = c.args in
    let p = err_from_is_err_and c.from_residual.result c.from_residual.ensures.1 in
    let r = same_refused a.image.now a.work.now c.open_image.new.work c.in_err-v.field-0.0 c.in_err-v.ensures (create (new_kind_of a.kind) a.path.now []) in
    rw (p.1, p.2) (record { result_value = r.number; image_after = r.image; work_after = r.work })

pub returns : goal.returns
unfolding lent
returns c =
    let a = c.args in
    let q = c.in_ok-v.ensures in
    let p = create (new_kind_of a.kind) a.path.now [] in
    let e = c.create_opened-r.ensures in
    let r = same_edit q p (record { image = e.image_after; opened = e.open_volume; wrote = wrote_none _ _ _ }) c.close.ensures in
    record { result_value = e.result_value ∙ same_reply q p; image_after = r.0; work_after = r.1 }
