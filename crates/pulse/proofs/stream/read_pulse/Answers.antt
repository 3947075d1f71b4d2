use mathlib.Core.Path.{ap, ◌∙◌}
use Rattle.pulse_records.specs.Records.{pulse_in}
use Rattle.pulse.proofs.Parsing.{pulse_read}
use Rattle.pulse.proofs.stream.read_pulse.Goals as goal

pub returns : goal.returns
returns c = c.pulse_at.ensures ∙ ap (λ b. pulse_in b 0) c.read_part.ensures ∙ pulse_read _ _
