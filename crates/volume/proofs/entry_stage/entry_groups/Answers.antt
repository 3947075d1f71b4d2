use Rattle.std.proofs.lemmas.Result.{err_from_is_err_and}
use Rattle.volume.proofs.Outcomes.{stage_later}
use Rattle.volume.proofs.Verdicts.{entries_refused, entries_hold_lem}
use Rattle.volume.proofs.entry_stage.entry_groups.Goals as goal

pub returns-in_err-entry_tests : goal.returns-in_err-entry_tests
returns-in_err-entry_tests c =
    let r = err_from_is_err_and c.from_residual.result c.from_residual.ensures.1 in
    let l = c.in_err-entry_tests.ensures in
    rw (r.1, r.2) (record { outcome = entries_refused _ _ l.answer; wrote = l.wrote })

pub returns : goal.returns
returns c = let l = c.in_ok-entry_tests.ensures in stage_later (entries_hold_lem _ _ l.answer) l.wrote c.mini_groups.ensures
