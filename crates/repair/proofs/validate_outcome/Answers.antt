use mathlib.Core.Path.{sym}
use Rattle.std.proofs.lemmas.Result.{err_from_is_err_and}
use Rattle.repair.proofs.Outcomes.{after_long, refused_outcome, ready_outcome}
use Rattle.repair.proofs.validate_outcome.Goals as goal

pub returns-in_err-v : goal.returns-in_err-v
returns-in_err-v c =
    let r = err_from_is_err_and c.from_residual.result c.from_residual.ensures.1 in
    let x = refused_outcome c.requires _ c.in_err-v.ensures in
    rw (r.1, r.2) (record { reply = x.0; wrote = x.1 })

pub count_differences-requires : goal.count_differences-requires
count_differences-requires c = record { readied = c.in_ok-v.ensures.1.1.0; img_len = sym (after_long c.requires) }

pub returns : goal.returns
returns c = let x = ready_outcome c.requires _ c.in_ok-v.ensures c.count_differences.ensures in record { reply = x.0; wrote = x.1 }
