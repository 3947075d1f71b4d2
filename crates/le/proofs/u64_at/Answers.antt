use borrow.Author.Rules.{rules}
use Rattle.theory.proofs.Bytes.{u64_halves}
use Rattle.le.proofs.u64_at.Goals as goal

pub returns : goal.returns
returns c = rw u64_halves (search rules)
