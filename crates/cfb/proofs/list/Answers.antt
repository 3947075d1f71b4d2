use mathlib.Core.Path.{◌∙◌}
use mathlib.Core.List.{[]}
use Rattle.std.proofs.lemmas.Result.{err_from_is_err_and}
use Rattle.format.specs.Calls.Call.{list, out_of}
use Rattle.opened.specs.Sequence.{lent}
use Rattle.opened.proofs.Sequence.{same_refused, same_reply, same_out, same_work}
use Rattle.cfb.proofs.list.Goals as goal

pub returns-in_err-v : goal.returns-in_err-v
unfolding lent out_of
returns-in_err-v c =
    let a = c.args in
    let p = err_from_is_err_and c.from_residual.result c.from_residual.ensures.1 in
    let r = same_refused a.image.now a.work.now c.open_image.new.work c.in_err-v.field-0.0 c.in_err-v.ensures (list a.out.now []) in
    rw (p.1, p.2) (record { result_value = r.number; out_after = r.out; work_after = r.work })

pub returns : goal.returns
unfolding lent
returns c =
    let q = c.in_ok-v.ensures in
    let p = list c.args.out.now [] in
    let e = c.list_opened-r.ensures in
    record {
      result_value = e.result_value ∙ same_reply q p;
      out_after = e.out_after ∙ same_out q p;
      work_after = same_work q p e.wrote c.close.ensures;
    }
