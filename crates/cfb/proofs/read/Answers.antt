use mathlib.Core.Path.{◌∙◌}
use mathlib.Core.List.{[]}
use Rattle.std.proofs.lemmas.Result.{err_from_is_err_and}
use Rattle.format.specs.Calls.Call.{read, out_of}
use Rattle.tables.proofs.WorkLaws.{wrote_none}
use Rattle.opened.specs.Sequence.{lent}
use Rattle.opened.proofs.Sequence.{same_refused, same_reply, same_work, same_out}
use Rattle.cfb.proofs.read.Goals as goal

pub returns-in_err-v : goal.returns-in_err-v
unfolding lent out_of
returns-in_err-v c =
    let a = c.args in
    let p = err_from_is_err_and c.from_residual.result c.from_residual.ensures.1 in
    let r = same_refused a.image.now a.work.now c.open_image.new.work c.in_err-v.field-0.0 c.in_err-v.ensures (read a.path.now a.offset a.out.now []) in
    rw (p.1, p.2) (record { result_value = r.number; out_after = r.out; work_after = r.work })

pub returns : goal.returns
unfolding lent
returns c =
    let a = c.args in
    let q = c.in_ok-v.ensures in
    let p = read a.path.now a.offset a.out.now [] in
    record {
      result_value = c.read_opened-r.ensures.result_value ∙ same_reply q p;
      out_after = c.read_opened-r.ensures.out_after ∙ same_out q p;
      work_after = same_work q p (wrote_none _ _ _) c.close.ensures;
    }
