use borrow.Author.Rules.{rules}
use Prim.Native.Nat.{◌+◌}
use native.Mathlib.Nat.{mul-le-mul_left}
use native.Mathlib.Omega.{arith}
use Rattle.format.specs.Layout.Geometry.{sector_place}
use Rattle.kinds.proofs.Sector.place.Goals as goal

pub overflow_cast-result : goal.overflow_cast-result
unfolding sector_place
overflow_cast-result c = search rules

pub overflow_add-result : goal.overflow_add-result
unfolding sector_place
overflow_add-result c = search rules

pub overflow_mul-result : goal.overflow_mul-result
unfolding sector_place
overflow_mul-result c = omega (arith, mul-le-mul_left (c.args.self.0 + 1) c.requires)

pub returns : goal.returns
unfolding sector_place
returns c = search rules
