use mathlib.Core.Path.{refl}
use Rattle.std.proofs.lemmas.Result.{err_from_is_err_and}
use Rattle.opened.proofs.Validated.{validate_refused}
use Rattle.opened.proofs.Sequence.{still_opened, open_once}
use Rattle.opened_run.specs.Row.{row_calls, row_given}
use Rattle.opened_run.proofs.in_a_row.Goals as goal

pub close-requires : goal.close-requires
close-requires c =
    let a = c.args in
    let cs = row_calls a.path.now a.new a.offset a.bytes.now a.out.now a.text.now in
    let xs = row_given c.calls-steps.result c.calls-steps.new.out c.calls-steps.new.text in
    still_opened c.in_ok-v.v a.image.now c.open_image.new.work cs xs c.calls-steps.new.image c.calls-steps.new.work c.in_ok-v.ensures.1.0 c.calls-steps.ensures

pub returns-in_err-v : goal.returns-in_err-v
returns-in_err-v c =
    let a = c.args in
    let e = err_from_is_err_and c.from_residual.result c.from_residual.ensures.1 in
    let r = validate_refused _ a.image.now a.work.now c.open_image.new.work c.in_err-v.field-0.0 c.in_err-v.ensures in
    rw (e.1, e.2) (r.0, (refl, (r.1, (refl, refl))))

pub returns : goal.returns
returns c =
    let a = c.args in
    let cs = row_calls a.path.now a.new a.offset a.bytes.now a.out.now a.text.now in
    let xs = row_given c.calls-steps.result c.calls-steps.new.out c.calls-steps.new.text in
    open_once c.in_ok-v.v a.image.now a.work.now c.open_image.new.work cs xs c.calls-steps.new.image c.calls-steps.new.work c.close.new.work c.in_ok-v.ensures c.calls-steps.ensures c.close.ensures
