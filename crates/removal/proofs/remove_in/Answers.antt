use native.Mathlib.Omega.{arith}
use Rattle.std.proofs.lemmas.Result.{err_from_is_err_and}
use Rattle.tables.proofs.WorkLaws.{wrote_none, wrote_two, wrote_wider}
use Rattle.queries.proofs.Finds.{find_asks}
use Rattle.removal.proofs.Cuts.{refused_right, removed_inside, removal_asks, removed_right, removal_short}
use Rattle.removal.proofs.remove_in.Goals as goal

pub find_removable-requires : goal.find_removable-requires
find_removable-requires c = let r = find_asks c.requires in record { directory_listed = r.0; img_value = r.1.0; img_value_2 = r.1.1 }

pub release_units-requires-clause-x_bound : goal.release_units-requires-clause-x_bound
release_units-requires-clause-x_bound c = removed_inside c.requires _ _ c.in_ok-x.ensures

pub remove_found-requires : goal.remove_found-requires
remove_found-requires c =
    let r = removal_asks c.requires _ _ c.in_ok-x.ensures c.release_units.ensures.image c.release_units.ensures.wrote in
    record { directory_listed = r.0; d_bound = r.1.0; accepted = r.1.1.0; leads_to = r.1.1.1 }

pub returns-in_err-x : goal.returns-in_err-x
returns-in_err-x c =
    let p = err_from_is_err_and c.from_residual.result c.from_residual.ensures.1 in
    let a = refused_right c.requires _ _ c.in_err-x.ensures in
    rw (p.1, p.2) (record { answer = a.0; image = a.1; wrote = wrote_none _ 0 _ })

pub returns : goal.returns
returns c =
    let o = c.requires in
    let a = removed_right o _ _ c.in_ok-x.ensures c.release_units.ensures.image c.remove_found.ensures.image in
    record { answer = a.0; image = a.1; wrote = wrote_two c.release_units.ensures.wrote (wrote_wider 0 _ c.remove_found.ensures.wrote (omega arith) (omega (arith, removal_short o))) }
