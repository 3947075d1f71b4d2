use mathlib.Core.Path.{◌≡◌, ◌∙◌, ap, subst}
use Rattle.format.specs.Layout.Volume.{volume}
use Rattle.format.specs.Rules.Cells.{rest_free}
use Rattle.kinds.specs.Sizes.{geometry_of}
use Rattle.kinds.specs.declared.Refusal.TheVariants.{Mini}
use Rattle.theory.proofs.Loops.{said_yes, said_no}
use Rattle.volume.specs.Groups.{owner_groups}
use Rattle.volume.proofs.Outcomes.{ok_is, err_is, minis_break, rest_breaks, minis_hold, stage_refused, stage_later, stage_for}
use Rattle.volume.proofs.MiniStage.{system_minis}
use mathlib.Core.Bool.{not}
use Rattle.std.proofs.lemmas.Result.{err_from_is_err_and}
use Rattle.std.proofs.Common.{Some}
use Rattle.format.specs.Rules.Mini.{mini_tables}
use Rattle.volume.specs.Passed.{SystemRight}
use Rattle.volume.proofs.mini_stage.mini_groups.Goals as goal
use Rattle.volume.proofs.mini_stage.mini_groups.Goals.{In_ok-s}

pub returns-in_err-s : goal.returns-in_err-s
returns-in_err-s c =
    let r = err_from_is_err_and c.from_residual.result c.from_residual.ensures.1 in
    let l = c.system_tables.ensures in
    let k = err_is _ Mini c.in_err-s.ensures.value in
    let h = subst (λ s. SystemRight c.args.g c.args.img.now (mini_tables (volume (geometry_of c.args.g) c.args.img.now)) c.system_tables.new.work s) k.0 l.answer in
    rw (r.1, r.2, k.1) (stage_refused _ _ _ Mini (minis_break _ h) l.wrote)

right : (c : In_ok-s) → SystemRight c.args.g c.args.img.now (mini_tables (volume (geometry_of c.args.g) c.args.img.now)) c.system_tables.new.work (Some c.in_ok-s.s)
right c = subst (λ s. SystemRight c.args.g c.args.img.now (mini_tables (volume (geometry_of c.args.g) c.args.img.now)) c.system_tables.new.work s) (ok_is _ Mini c.in_ok-s.ensures.value) c.system_tables.ensures.answer

pub cells_rest-requires : goal.cells_rest-requires
cells_rest-requires c = (right (goal.at.cells_rest-requires c).In_ok-s).1.1.lists.minis

pub returns-then-not-cells_rest : goal.returns-then-not-cells_rest
returns-then-not-cells_rest c =
    let s = right (goal.at.returns-then-not-cells_rest c).In_ok-s in
    let rest : let p = c.args in c.cells_rest.result ≡ rest_free (volume (geometry_of p.g) p.img.now).minis = c.cells_rest.ensures ∙ ap rest_free (system_minis s) in
    stage_refused _ _ _ Mini (rest_breaks _ s.0 (said_no (ap not c.if-not-cells_rest.true) rest)) c.system_tables.ensures.wrote

pub owner_groups-requires : goal.owner_groups-requires
owner_groups-requires c = (right (goal.at.owner_groups-requires c).In_ok-s).1.1

pub returns : goal.returns
returns c =
    let s = right (goal.at.returns c).In_ok-s in
    let rest : let p = c.args in c.cells_rest.result ≡ rest_free (volume (geometry_of p.g) p.img.now).minis = c.cells_rest.ensures ∙ ap rest_free (system_minis s) in
    stage_later (minis_hold _ s.0 (said_yes (ap not c.if-not-cells_rest.false) rest)) c.system_tables.ensures.wrote (stage_for owner_groups _ (ap (λ t. t.geometry) s.1.0) c.owner_groups.ensures)
