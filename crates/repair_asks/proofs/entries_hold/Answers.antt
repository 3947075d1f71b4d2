use Rattle.repair_asks.proofs.Asked.{entries_wrong, entries_right, later}
use Rattle.repair_asks.proofs.entries_hold.Goals as goal

pub returns-in_err-ok : goal.returns-in_err-ok
returns-in_err-ok c =
    let l = c.entry_tests.ensures in
    rw c.from_residual.ensures (record { answer = entries_wrong _ _ _ l.answer c.in_err-ok.ensures.value; wrote = l.wrote })

pub returns : goal.returns
returns c =
    let l = c.entry_tests.ensures in
    later (entries_right _ _ _ l.answer c.in_ok-ok.ensures.value) l c.system_tables.ensures
