use mathlib.Core.Path.{refl}
use mathlib.Core.List.{[]}
use Rattle.format.specs.Calls.Call.{create}
use Rattle.format.specs.History.Claim.{is_edit}
use Rattle.kinds.specs.Links.{new_kind_of}
use Rattle.tables.proofs.WorkLaws.{wrote_none}
use Rattle.opened.specs.Sequence.{lent}
use Rattle.opened.proofs.Calls.{opened_edit}
use Rattle.opened.proofs.create_opened.Goals as goal

pub returns : goal.returns
unfolding lent is_edit
returns c =
    let a = c.args in
    let e = c.create_in.ensures in
    let r = opened_edit c.requires (create (new_kind_of a.kind) a.path.now []) refl e.result_value e.img_after (wrote_none _ 0 _) in
    record { result_value = r.0; image_after = r.1.image; open_volume = r.1.opened }
