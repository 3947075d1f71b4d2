use mathlib.Core.Path.{refl}
use mathlib.Core.List.{[]}
use Rattle.format.specs.Calls.Call.{read, overwrite, set_length, list}
use Rattle.format.specs.History.Claim.{is_edit}
use Rattle.opened.specs.Sequence.{lent}
use Rattle.opened.proofs.Sequence.{edit_step, find_step, read_step, list_step}
use Rattle.opened_run.proofs.calls.Goals as goal

pub returns : goal.returns
unfolding lent is_edit
returns c =
    let a = c.args in
    let k = c.overwrite_opened-overwrite.ensures.open_volume in
    let t1 = edit_step a.image.now (set_length a.path.now a.new []) refl (c.set_length_opened-length.ensures.result_value, (c.set_length_opened-length.ensures.image_after, (c.set_length_opened-length.ensures.open_volume, c.set_length_opened-length.ensures.wrote))) in
    let t2 = edit_step c.set_length_opened-length.new.image (overwrite a.path.now a.offset a.bytes.now []) refl (c.overwrite_opened-overwrite.ensures.result_value, (c.overwrite_opened-overwrite.ensures.image_after, (c.overwrite_opened-overwrite.ensures.open_volume, c.overwrite_opened-overwrite.ensures.wrote))) in
    let t3 = find_step a.path.now k c.find_opened-find.ensures in
    let t4 = read_step (read a.path.now a.offset a.out.now []) refl k (c.read_opened-read.ensures.result_value, c.read_opened-read.ensures.out_after) in
    let t5 = list_step (list a.text.now []) refl (c.list_opened-list.ensures.result_value, (c.list_opened-list.ensures.out_after, (c.list_opened-list.ensures.open_volume, c.list_opened-list.ensures.wrote))) in
    (_, _, (t1.0, (t1.1, (_, _, (t2.0, (t2.1, (_, _, (t3.0, (t3.1, (_, _, (t4.0, (t4.1, (_, _, (t5.0, (t5.1, (refl, refl))))))))))))))))
