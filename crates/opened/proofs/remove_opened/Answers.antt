use mathlib.Core.Path.{refl}
use mathlib.Core.List.{[]}
use Rattle.format.specs.Calls.Call.{remove}
use Rattle.format.specs.History.Claim.{is_edit}
use Rattle.opened.specs.Sequence.{lent}
use Rattle.opened.proofs.Calls.{opened_edit}
use Rattle.opened.proofs.remove_opened.Goals as goal

pub returns : goal.returns
unfolding lent is_edit
returns c =
    let a = c.args in
    let e = c.remove_in.ensures in
    let r = opened_edit c.requires (remove a.path.now []) refl e.answer e.image e.wrote in
    record { result_value = r.0; image_after = r.1.image; open_volume = r.1.opened; wrote = r.1.wrote }
