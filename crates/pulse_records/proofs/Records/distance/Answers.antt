use mathlib.Core.Path.{refl}
use Rattle.pulse_laws.specs.Pulse.{distance_for}
use Rattle.pulse_records.proofs.Records.distance.Goals as goal

pub returns : goal.returns
unfolding distance_for
returns c = refl
