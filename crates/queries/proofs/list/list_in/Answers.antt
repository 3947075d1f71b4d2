use borrow.Author.Rules.{rules}
use mathlib.Core.Path.{◌≡◌}
use Rattle.std.proofs.lemmas.Result.{err_from_is_err_and}
use Rattle.kinds.specs.declared.Refusal.TheVariants.{OutTooShort}
use Rattle.queries.proofs.Lists.{list_asks, listed_still, list_wrote, list_wrote_two, list_refused, list_room, list_counted, list_written}
use Rattle.queries.proofs.list.list_in.Goals as goal

pub measure-requires : goal.measure-requires
measure-requires c = let r = list_asks c.requires in record { directory_listed = r.0; img_value = r.1.0; img_value_2 = r.1.1.0; d_bound = r.1.1.1.0; d_bound_2 = r.1.1.1.1 }

pub returns-in_err-s : goal.returns-in_err-s
returns-in_err-s c =
    let none = c.in_err-s.ensures.ok_part in
    let value = rw none at c.in_err-s.ensures.value in
    let refusal : c.in_err-s.field-0.0 ≡ OutTooShort = cc in
    let r = err_from_is_err_and c.from_residual.result c.from_residual.ensures.1 in
    let a = list_refused c.requires c.args.out.now _ c.measure.ensures.answer none in
    rw (r.1, r.2, refusal) (record { result_value = a.0; out_after = a.1; wrote = list_wrote c.requires c.measure.ensures.wrote })

pub write-requires : goal.write-requires
write-requires c =
    let a = list_asks c.requires in
    let s = list_room c.requires c.args.out.now _ c.measure.ensures.answer c.in_ok-s.ensures.ok_part in
    record { directory_listed = listed_still c.requires c.measure.ensures.wrote; img_value = a.1.0; img_value_2 = a.1.1.0; d_bound = a.1.1.1.0; d_bound_2 = a.1.1.1.1; objects_value = s.0; img_in_bounds = s.1 }

pub returns : goal.returns
returns c =
    let k = c.in_ok-s.ensures.ok_part in
    record {
      result_value = list_counted c.requires c.args.out.now _ c.measure.ensures.answer k;
      out_after = list_written c.requires c.args.out.now _ c.measure.ensures.answer k c.write.ensures.written;
      wrote = list_wrote_two c.requires c.measure.ensures.wrote c.write.ensures.wrote;
    }
