use Rattle.std.proofs.lemmas.Result.{err_from_is_err_and}
use Rattle.queries.proofs.Finds.{find_asks}
use Rattle.creation.proofs.Found.{parent_at, parent_none}
use Rattle.creation.proofs.Answers.{parent_stopped}
use Rattle.creation.proofs.create_in.Goals as goal

pub find_parent-requires : goal.find_parent-requires
find_parent-requires c = let r = find_asks c.requires in record { directory_listed = r.0; img_value = r.1.0; img_value_2 = r.1.1 }

pub create_below-requires-clause-parent_at : goal.create_below-requires-clause-parent_at
create_below-requires-clause-parent_at c = parent_at c.requires _ _ c.in_ok-p.ensures.answer c.in_ok-p.ensures.inside

pub returns-in_err-p : goal.returns-in_err-p
returns-in_err-p c =
    let p = err_from_is_err_and c.from_residual.result c.from_residual.ensures.1 in
    let r = parent_stopped _ _ _ _ _ _ (parent_none c.requires _ _ c.in_err-p.ensures.answer) in
    rw (p.1, p.2) (record { result_value = r.0; img_after = r.1 })
