use mathlib.Core.Path.{ap}
use native.Mathlib.Omega.{arith}
use Rattle.tables.proofs.WorkLaws.{wrote_two}
use Rattle.volume.specs.Passed.{ListsStand}
use Rattle.volume.proofs.ListsKept.{lists_kept}
use Rattle.volume.proofs.Outcomes.{wrote_ours, owners_refused, owners_hold}
use Rattle.std.proofs.lemmas.Result.{err_from_is_err_and}
use Rattle.volume.proofs.owner_stage.owner_groups.Goals as goal

pub owner_rules-requires : goal.owner_rules-requires
owner_rules-requires c = let p = c.requires in record { streams_markable = p.streams; cells_right = p.cells; only_system = p.only }

pub list_stream-requires : goal.list_stream-requires
list_stream-requires c =
    let still : let p = c.args in ListsStand p.t p.d p.m p.img.now c.owner_rules.new.work = let s = c.requires in let l = s.lists in lists_kept c.owner_rules.ensures.wrote l (omega (arith, l.room, l.minis.counts.few, s.streams.units, l.minis.counts.count)) in
    still

pub returns-in_err-owner_rules : goal.returns-in_err-owner_rules
returns-in_err-owner_rules c =
    let s = c.requires in
    let l = c.in_err-owner_rules.ensures in
    let r = err_from_is_err_and c.from_residual.result c.from_residual.ensures.1 in
    rw (r.1, r.2) (record { outcome = owners_refused _ l.answer; wrote = wrote_ours c.args.img.now l.wrote (omega (arith, s.streams.behind, s.lists.mini.before, s.lists.mini.within)) })

pub returns : goal.returns
returns c =
    let s = c.requires in
    let l = s.lists in
    let o = c.in_ok-owner_rules.ensures in
    let wrote' = wrote_ours c.args.img.now o.wrote (omega (arith, s.streams.behind, s.lists.mini.before, s.lists.mini.within)) in
    record {
      outcome = (owners_hold _ o.answer, (ap (λ t. t.geometry) c.list_stream.ensures.answer.0, c.list_stream.ensures.ready));
      wrote = wrote_two wrote' (wrote_ours c.args.img.now c.list_stream.ensures.wrote (omega (arith, l.before, l.mini.before, l.mini.within)));
    }
