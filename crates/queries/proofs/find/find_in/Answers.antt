use borrow.Author.Rules.{rules}
use Rattle.std.proofs.lemmas.Result.{err_from_is_err_and}
use Rattle.queries.proofs.Finds.{find_asks, looked_up, find_found, find_refused}
use Rattle.queries.proofs.find.find_in.Goals as goal

pub find_entry-requires : goal.find_entry-requires
find_entry-requires c = let r = find_asks c.requires in record { directory_listed = r.0; img_value = r.1.0; img_value_2 = r.1.1 }

pub returns-in_err-x : goal.returns-in_err-x
returns-in_err-x c =
    let r = err_from_is_err_and c.from_residual.result c.from_residual.ensures.1 in
    rw (r.1, r.2) (find_refused c.requires _ _ c.in_err-x.ensures.answer)

pub object_at-requires : goal.object_at-requires
object_at-requires c = record { directory_listed = (find_asks c.requires).0; x_bound = c.in_ok-x.ensures.inside }

pub returns : goal.returns
returns c =
    let l = c.in_ok-x.ensures in
    let o = c.object_at.ensures in
    find_found c.requires _ _ l.answer o.id_value (looked_up c.requires _ l.inside (o.id_value, (o.entry_type_value, o.size_value)))
