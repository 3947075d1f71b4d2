use Rattle.pulse_records.specs.Records.{pulse_in, right_at}
use Rattle.pulse_records.proofs.sums.is_right.Goals as goal

pub returns : goal.returns
unfolding pulse_in right_at
returns c = rw (c.some.ensures, c.pulse_at-p.ensures, c.u16_at-zero.ensures)
