use mathlib.Core.Path.{ap, ◌∙◌, subst}
use Rattle.std.proofs.lemmas.Result.{err_from_is_err_and}
use Rattle.format.specs.Rules.Length.{work_need}
use Rattle.format.specs.Calls.Buffers.{work_cleared}
use Rattle.kinds.specs.Numbers.{refusal_number}
use Rattle.kinds.proofs.Refusals.{refusal_some}
use Rattle.opened.proofs.Inside.{Late}
use Rattle.pulse_laws.specs.Calls.{add_answer}
use Rattle.pulse.specs.Replies.{pulse_for}
use Rattle.pulse.specs.declared.answers.PulseRefusal.TheVariants.{File}
use Rattle.pulse.proofs.Outcomes.{addition_number, addition_refused}
use Rattle.pulse.proofs.WorkLengths.{add_long, reply_long, added_long}
use Rattle.pulse.proofs.Opening.{summary_number, work_refused, opened_long, late_add, work_closed}
use Rattle.pulse.proofs.add.Goals as goal

pub returns-in_err-v : goal.returns-in_err-v
returns-in_err-v c =
    let p = c.args in
    let r = err_from_is_err_and c.from_residual.result c.from_residual.ensures.1 in
    let w = c.open_image.new.work in
    let a = c.in_err-v.field-0.0 in
    let x = pulse_for p.valve p.ticks in
    let n = summary_number p.image.now p.work.now w a c.in_err-v.ensures p.path.now in
    let m = addition_number p.image.now p.path.now p.work.now (refusal_number a) (refusal_some a) n x in
    let k = addition_refused p.image.now p.path.now p.work.now (File a) n x in
    record {
      result_value = rw (r.1, r.2) k.0;
      image_after = k.1;
      work_after = work_refused p.image.now p.work.now w a c.in_err-v.ensures _ m;
    }

pub returns : goal.returns
returns c =
    let p = c.args in
    let q = c.in_ok-v.ensures in
    let w = c.open_image.new.work in
    let x = pulse_for p.valve p.ticks in
    let l = subst Late (add_long w p.work.now (opened_long q) p.image.now p.path.now x) (late_add q.1.0 p.path.now x) in
    let e = c.close.ensures ∙ ap (λ n. work_cleared (work_need n) c.add_in-r.new.work) c.add_in-r.auto.image in
    record {
      result_value = c.add_in-r.ensures.result_value ∙ reply_long w p.work.now (opened_long q) p.image.now p.path.now x;
      image_after = c.add_in-r.ensures.image_after ∙ added_long w p.work.now (opened_long q) p.image.now p.path.now x;
      work_after = work_closed q (add_answer p.image.now p.path.now x p.work.now) l c.add_in-r.ensures.wrote e;
    }
