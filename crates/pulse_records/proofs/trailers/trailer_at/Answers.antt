use Rattle.pulse_records.specs.Records.{trailer_in}
use Rattle.pulse_records.proofs.trailers.trailer_at.Goals as goal

pub returns : goal.returns
unfolding trailer_in
returns c = rw (c.u64_at.ensures, c.u32_at-2.ensures, c.u32_at.ensures)
