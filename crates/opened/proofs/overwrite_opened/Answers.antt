use mathlib.Core.Path.{refl}
use mathlib.Core.List.{[]}
use Rattle.format.specs.Calls.Call.{overwrite}
use Rattle.format.specs.History.Claim.{is_edit}
use Rattle.opened.specs.Sequence.{lent}
use Rattle.opened.proofs.Calls.{opened_edit}
use Rattle.opened.proofs.overwrite_opened.Goals as goal

pub returns : goal.returns
unfolding lent is_edit
returns c =
    let a = c.args in
    let e = c.overwrite_in.ensures in
    let r = opened_edit c.requires (overwrite a.path.now a.offset a.bytes.now []) refl e.result_value e.img_after e.wrote in
    record { result_value = r.0; image_after = r.1.image; open_volume = r.1.opened; wrote = r.1.wrote }
