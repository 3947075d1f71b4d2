use Rattle.std.proofs.Common.{rules}
use Rattle.theory.proofs.Bytes.{u32_bytes}
use Rattle.le.proofs.u32_at.Goals as goal

pub returns : goal.returns
returns c = rw u32_bytes (search rules)
