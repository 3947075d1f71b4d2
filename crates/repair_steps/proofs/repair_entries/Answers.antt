use mathlib.Core.Path.{◌≡◌, sym, ◌∙◌, ap}
use native.Mathlib.Omega.{arith}
use Rattle.format.specs.Layout.Volume.{volume}
use Rattle.format.specs.Rules.Cells.{rest_free}
use Rattle.format.specs.Calls.RepairSteps.{rest_freed, fourth_step}
use Rattle.kinds.specs.Sizes.{geometry_of}
use Rattle.tables.proofs.WorkLaws.{wrote_two}
use Rattle.volume.proofs.MiniStage.{system_minis}
use Rattle.repair_owners.proofs.Asking.{mini_cells_lem, freed_own}
use Rattle.repair_steps.proofs.SameLists.{sized_same}
use Rattle.repair_steps.proofs.Steps.{third_taken, third_idle, third_left}
use Rattle.repair_steps.proofs.Passing.{rest_room, rest_some, rest_short, third_is}
use Rattle.repair_steps.proofs.repair_entries.Goals as goal

pub entries_hold-requires : goal.entries_hold-requires
entries_hold-requires c = c.requires.hold

pub returns-in_default : goal.returns-in_default
returns-in_default c = let l = c.in_default.ensures in record { image = sym (third_left _ _ l.answer); wrote = l.wrote }

pub cells_rest-idle-requires : goal.cells_rest-idle-requires
cells_rest-idle-requires c = c.in-Some.ensures.answer.1.1.lists.minis

pub free_marked-requires : goal.free_marked-requires
free_marked-requires c =
    let l = c.in-Some.ensures in
    record { system_marked = l.answer.1.1; img_value = mini_cells_lem l.answer l.answer.0 }

pub returns-then-idle : goal.returns-then-idle
returns-then-idle c =
    let rest : let p = c.args in c.cells_rest-idle.result ≡ rest_free (volume (geometry_of p.g) p.img.now).minis = c.cells_rest-idle.ensures ∙ ap rest_free (system_minis c.in-Some.ensures.answer) in
    let l = c.in-Some.ensures in
    record { image = c.free_marked.ensures.image ∙ freed_own l.answer ∙ third_idle _ _ (λ i. omega (arith, c.slice_known-1.given i)) c.requires.tables c.requires.directory l.answer.0 (sym rest ∙ c.if-idle.true); wrote = wrote_two l.wrote c.free_marked.ensures.wrote }

pub overflow_mul-cells : goal.overflow_mul-cells
overflow_mul-cells c = rw c.cells.ensures (omega (arith, rest_short c.args.g c.in-Some.ensures.answer, c.requires.hold.listed.sized.short))

pub free_rest-requires : goal.free_rest-requires
free_rest-requires c =
    let l = c.in-Some.ensures in
    rw c.cells.ensures (record { table_room = rest_room _ l.answer; from_le_to = rest_some _ l.answer })

pub free_owners-requires : goal.free_owners-requires
free_owners-requires c =
    let p = c.requires.hold in
    let k = c.free_rest.auto.img in record { image_sized = sized_same k p.listed.sized; img_in_bounds = rw k (omega (arith, p.whole, c.in-Some.ensures.wrote.long)) }

pub returns : goal.returns
returns c =
    let freed : let p = c.args in c.free_rest.new.img ≡ rest_freed (volume (geometry_of p.g) p.img.now).minis p.img.now = let p = c.args in (rw c.cells.ensures at c.free_rest.ensures) ∙ third_is p.g c.in-Some.ensures.answer in
    let p = c.args in
    let l = c.in-Some.ensures in record { image = c.free_owners.ensures.image ∙ ap (fourth_step (geometry_of p.g)) freed ∙ sym (third_taken _ _ l.answer.0); wrote = wrote_two l.wrote (rw c.free_rest.auto.img at c.free_owners.ensures.wrote) }
