use mathlib.Core.Path.{◌≡◌, sym, ◌∙◌}
use Rattle.std.proofs.lemmas.Result.{err_from_is_err_and}
use Rattle.pulse.specs.declared.answers.PulseRefusal.TheVariants.{NotPulses}
use Rattle.pulse.proofs.Finding.{find_refused, found_other, found_pulses}
use Rattle.pulse.proofs.calls.find_pulses.Goals as goal

pub returns-in_err-object-clause-pulses_found : goal.returns-in_err-object-clause-pulses_found
returns-in_err-object-clause-pulses_found c =
    let p = err_from_is_err_and c.from_residual.result c.from_residual.ensures.1 in
    rw (p.1, p.2) (find_refused c.args.image.now c.args.path.now c.args.work.now c.in_err-object.field-0.0 c.in_err-object.ensures)

pub returns-in_err-trailer-clause-pulses_found : goal.returns-in_err-trailer-clause-pulses_found
returns-in_err-trailer-clause-pulses_found c =
    let p = err_from_is_err_and c.from_residual-in_err-trailer.result c.from_residual-in_err-trailer.ensures.1 in
    let e = rw c.in_err-trailer.ensures.ok_part at c.in_err-trailer.ensures.value in
    let r : c.in_err-trailer.field-0.0 ≡ NotPulses = cc in
    rw (p.1, p.2, r) (found_other c.args.image.now c.args.path.now c.args.work.now c.in_ok-object.object c.in_ok-object.ensures (sym c.in_err-trailer.ensures.ok_part ∙ c.parse.ensures))

pub returns-clause-pulses_found : goal.returns-clause-pulses_found
returns-clause-pulses_found c =
    found_pulses c.args.image.now c.args.path.now c.args.work.now c.in_ok-object.object c.in_ok-object.ensures c.in_ok-trailer.trailer
    c.open_stream.ensures.wrote.long c.open_stream.ensures.open_stream (sym c.in_ok-trailer.ensures.ok_part ∙ c.parse.ensures)
