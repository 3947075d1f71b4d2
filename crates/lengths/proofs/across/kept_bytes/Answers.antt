use native.Mathlib.Omega.{arith}
use Rattle.lengths.proofs.Crossings.{fewer}
use Rattle.lengths.proofs.across.kept_bytes.Goals as goal

pub returns : goal.returns
returns c = record { count = omega arith; few = omega (arith, fewer _ _ c.requires) }
