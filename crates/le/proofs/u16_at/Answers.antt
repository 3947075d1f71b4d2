use Rattle.std.proofs.Common.{rules}
use Rattle.theory.proofs.Bytes.{u16_bytes}
use Rattle.le.proofs.u16_at.Goals as goal

pub returns : goal.returns
returns c = rw u16_bytes (search rules)
