-- What the laws of fresh images ask of a geometry and of a plan.
use Rattle.std.specs.Prelude.{◌<◌, ◌≡◌, true}
use Rattle.format.specs.Layout.Geometry.{Geometry}
use Rattle.format.specs.Rules.Length.{length_allowed}
use Rattle.frame.specs.Kept.{Sized}
use Rattle.format.specs.Fresh.Plan.{Plan, plan_bytes, parts_fit}

-- a header has room for the version's two numbers
pub record Headed (g : Geometry) : Type 0 where
  pub sized : Sized g
  pub major : g.major < 0x1_0000
  pub shift : g.shift < 0x1_0000

-- answers 1 and 32 are not given
pub record Planned (g : Geometry) (p : Plan) : Type 0 where
  pub allowed : length_allowed g (plan_bytes g p) ≡ true
  pub fits : parts_fit g p ≡ true
