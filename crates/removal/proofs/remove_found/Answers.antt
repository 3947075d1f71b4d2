use Rattle.removal.proofs.Parents.{not_refused}
use Rattle.removal.proofs.Removes.{entries_right, trees_right}
use Rattle.removal.proofs.remove_found.Goals as goal

pub find_parent-requires : goal.find_parent-requires
find_parent-requires c =
    let a = c.requires.accepted in
    record { directory_listed = c.requires.directory_listed; img_value = entries_right c.args.d _ a; img_value_2 = trees_right c.args.d _ a }

pub returns-in_default : goal.returns-in_default
returns-in_default c = absurd (not_refused _ _ c.requires.leads_to _ c.in_default.ensures.answer)

pub remove_below-requires-clause-parent_at : goal.remove_below-requires-clause-parent_at
remove_below-requires-clause-parent_at c = record { found = c.in-Ok.ensures.answer; inside = c.in-Ok.ensures.inside.0; last = c.in-Ok.ensures.inside.1 }
