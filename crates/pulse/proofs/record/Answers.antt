use mathlib.Core.Path.{◌∙◌, subst}
use Rattle.std.proofs.lemmas.Result.{err_from_is_err_and}
use Rattle.kinds.specs.Numbers.{refusal_number}
use Rattle.kinds.proofs.Refusals.{refusal_some}
use Rattle.opened.proofs.Inside.{Late}
use Rattle.pulse_laws.specs.Calls.{record_answer}
use Rattle.pulse.specs.declared.answers.PulseRefusal.TheVariants.{File}
use Rattle.pulse.proofs.Outcomes.{record_number, record_refused}
use Rattle.pulse.proofs.WorkLengths.{record_long, record_reply_long}
use Rattle.pulse.proofs.Opening.{summary_number, work_refused, opened_long, late_record, work_closed}
use Rattle.pulse.proofs.record.Goals as goal

pub returns-in_err-v : goal.returns-in_err-v
returns-in_err-v c =
    let p = c.args in
    let r = err_from_is_err_and c.from_residual.result c.from_residual.ensures.1 in
    let w = c.open_image.new.work in
    let a = c.in_err-v.field-0.0 in
    let n = summary_number p.image.now p.work.now w a c.in_err-v.ensures p.path.now in
    let m = record_number p.image.now p.path.now p.work.now (refusal_number a) (refusal_some a) n p.number.0 in
    record {
      result_value = rw (r.1, r.2) (record_refused p.image.now p.path.now p.work.now (File a) n p.number.0);
      work_after = work_refused p.image.now p.work.now w a c.in_err-v.ensures _ m;
    }

pub returns : goal.returns
returns c =
    let p = c.args in
    let q = c.in_ok-v.ensures in
    let w = c.open_image.new.work in
    let l = subst Late (record_long w p.work.now (opened_long q) p.image.now p.path.now p.number.0) (late_record q.1.0 p.path.now p.number.0) in
    record {
      result_value = c.record_in-r.ensures.result_value ∙ record_reply_long w p.work.now (opened_long q) p.image.now p.path.now p.number.0;
      work_after = work_closed q (record_answer p.image.now p.path.now p.number.0 p.work.now) l c.record_in-r.ensures.wrote c.close.ensures;
    }
