use borrow.Author.Rules.{rules}
use Rattle.format.specs.Layout.Geometry.{mini_bytes}
use Rattle.spaces.proofs.unit_bytes.Goals as goal

pub returns-in-Minis : goal.returns-in-Minis
unfolding mini_bytes
returns-in-Minis c = rw c.in-Minis.is
