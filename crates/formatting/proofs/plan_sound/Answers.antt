use borrow.Author.Rules.{rules}
use native.Mathlib.Omega.{arith}
use Rattle.format.specs.Fresh.Plan.{known_version}
use Rattle.fresh.proofs.Numbers.{cells_some}
use Rattle.kinds.specs.Sizes.{geometry_of}
use Rattle.formatting.proofs.Plans.{plan_sized, sound_is}
use Rattle.fresh_sectors.specs.Parts.{plan_of}
use Rattle.formatting.proofs.plan_sound.Goals as goal

pub cells-requires : goal.cells-requires
unfolding known_version
cells-requires c = search rules

pub units_for-used-requires : goal.units_for-used-requires
unfolding known_version
units_for-used-requires c = omega (arith, c.cells.ensures, cells_some (geometry_of c.args.g) (plan_sized (geometry_of c.args.g) (plan_of c.args.p) c.requires))

pub returns : goal.returns
unfolding known_version
returns c = sound_is (geometry_of c.args.g) (plan_of c.args.p) c.cells.result c.units_for-used.result c.cells.ensures c.units_for-used.ensures (omega (arith, c.cells.ensures, cells_some (geometry_of c.args.g) (plan_sized (geometry_of c.args.g) (plan_of c.args.p) c.requires)))
