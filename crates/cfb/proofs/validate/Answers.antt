use mathlib.Core.Path.{sym, ◌∙◌, ap}
use mathlib.Core.List.{[]}
use Rattle.std.proofs.lemmas.Result.{err_from_is_err_and}
use Rattle.format.specs.Calls.Call.{validate}
use Rattle.format.specs.Calls.Reply.{plain}
use Rattle.tables.proofs.WorkLaws.{wrote_none}
use Rattle.opened.specs.Sequence.{lent}
use Rattle.opened.proofs.Validated.{reply_is}
use Rattle.opened.proofs.Sequence.{same_refused, same_work}
use Rattle.cfb.proofs.validate.Goals as goal

pub returns-in_err-v : goal.returns-in_err-v
unfolding lent
returns-in_err-v c =
    let a = c.args in
    let p = err_from_is_err_and c.from_residual.result c.from_residual.ensures.1 in
    let r = same_refused a.image.now a.work.now c.open_image.new.work c.in_err-v.field-0.0 c.in_err-v.ensures (validate []) in
    rw (p.1, p.2) (record { result_value = r.number; work_after = r.work })

pub returns : goal.returns
unfolding lent
returns c =
    let q = c.in_ok-v.ensures in
    record {
      result_value = sym (reply_is _ c.args.image.now c.args.work.now ∙ ap plain q.0);
      work_after = same_work q (validate []) (wrote_none _ _ _) c.close.ensures;
    }
