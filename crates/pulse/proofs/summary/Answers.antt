use mathlib.Core.Path.{◌∙◌, subst}
use Rattle.std.proofs.lemmas.Result.{err_from_is_err_and}
use Rattle.opened.proofs.Inside.{Late}
use Rattle.pulse_laws.specs.Calls.{summary_answer}
use Rattle.pulse.specs.declared.answers.PulseRefusal.TheVariants.{File}
use Rattle.pulse.proofs.Outcomes.{summary_refused}
use Rattle.pulse.proofs.WorkLengths.{summary_long, summary_reply_long}
use Rattle.pulse.proofs.Opening.{summary_number, work_refused, opened_long, late_summary, work_closed}
use Rattle.pulse.proofs.summary.Goals as goal

pub returns-in_err-v : goal.returns-in_err-v
returns-in_err-v c =
    let p = c.args in
    let r = err_from_is_err_and c.from_residual.result c.from_residual.ensures.1 in
    let w = c.open_image.new.work in
    let a = c.in_err-v.field-0.0 in
    let n = summary_number p.image.now p.work.now w a c.in_err-v.ensures p.path.now in
    record {
      result_value = rw (r.1, r.2) (summary_refused p.image.now p.path.now p.work.now (File a) n);
      work_after = work_refused p.image.now p.work.now w a c.in_err-v.ensures _ n;
    }

pub returns : goal.returns
returns c =
    let p = c.args in
    let q = c.in_ok-v.ensures in
    let w = c.open_image.new.work in
    let l = subst Late (summary_long w p.work.now (opened_long q) p.image.now p.path.now) (late_summary q.1.0 p.path.now) in
    record {
      result_value = c.summary_in-r.ensures.result_value ∙ summary_reply_long w p.work.now (opened_long q) p.image.now p.path.now;
      work_after = work_closed q (summary_answer p.image.now p.path.now p.work.now) l c.summary_in-r.ensures.wrote c.close.ensures;
    }
