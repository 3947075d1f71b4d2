use mathlib.Core.Path.{◌≡◌, sym, ◌∙◌, ap}
use Rattle.format.specs.Layout.Volume.{volume}
use Rattle.format.specs.Rules.Cells.{rest_free}
use Rattle.kinds.specs.Sizes.{geometry_of}
use Rattle.tables.proofs.WorkLaws.{wrote_two}
use Rattle.volume.proofs.MiniStage.{system_minis}
use Rattle.repair_owners.proofs.Asking.{system_breaks, rest_breaks, streams_decide, system_entries, mini_cells_lem, freed_own}
use Rattle.repair_owners.proofs.free_owners.Goals as goal

pub returns-in_default : goal.returns-in_default
returns-in_default c = let l = c.in_default.ensures in record { image = system_breaks _ _ l.answer; wrote = l.wrote }

pub cells_rest-requires : goal.cells_rest-requires
cells_rest-requires c = c.in-Some.ensures.answer.1.1.lists.minis

pub free_marked-requires : goal.free_marked-requires
free_marked-requires c =
    let l = c.in-Some.ensures in
    record { system_marked = l.answer.1.1; img_value = mini_cells_lem l.answer (system_entries _ _ l.answer.0) }

pub returns-then-cells_rest : goal.returns-then-cells_rest
returns-then-cells_rest c =
    let rest : let p = c.args in c.cells_rest.result ≡ rest_free (volume (geometry_of p.g) p.img.now).minis = c.cells_rest.ensures ∙ ap rest_free (system_minis c.in-Some.ensures.answer) in
    let l = c.in-Some.ensures in
    record { image = c.free_marked.ensures.image ∙ freed_own l.answer ∙ streams_decide _ _ l.answer.0 (sym rest ∙ c.if-cells_rest.true); wrote = wrote_two l.wrote c.free_marked.ensures.wrote }

pub returns-else-cells_rest : goal.returns-else-cells_rest
returns-else-cells_rest c =
    let rest : let p = c.args in c.cells_rest.result ≡ rest_free (volume (geometry_of p.g) p.img.now).minis = c.cells_rest.ensures ∙ ap rest_free (system_minis c.in-Some.ensures.answer) in
    let l = c.in-Some.ensures in record { image = rest_breaks _ _ l.answer.0 (sym rest ∙ c.if-cells_rest.false); wrote = l.wrote }
