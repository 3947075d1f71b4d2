use Rattle.pulse_records.specs.Records.{pulse_in}
use Rattle.pulse_records.proofs.sums.pulse_at.Goals as goal

pub returns : goal.returns
unfolding pulse_in
returns c = rw (c.u32_at.ensures, c.u16_at.ensures)
