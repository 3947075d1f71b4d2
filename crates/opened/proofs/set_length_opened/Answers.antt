use mathlib.Core.Path.{refl}
use mathlib.Core.List.{[]}
use Rattle.format.specs.Calls.Call.{set_length}
use Rattle.format.specs.History.Claim.{is_edit}
use Rattle.opened.specs.Sequence.{lent}
use Rattle.opened.proofs.Calls.{opened_edit}
use Rattle.opened.proofs.set_length_opened.Goals as goal

pub returns : goal.returns
unfolding lent is_edit
returns c =
    let a = c.args in
    let e = c.set_length_in.ensures in
    let r = opened_edit c.requires (set_length a.path.now a.new_len []) refl e.result_value e.img_after e.wrote in
    record { result_value = r.0; image_after = r.1.image; open_volume = r.1.opened; wrote = r.1.wrote }
