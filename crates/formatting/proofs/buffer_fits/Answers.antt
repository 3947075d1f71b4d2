use mathlib.Core.Path.{sym, ap, ◌∙◌}
use native.Mathlib.Omega.{arith}
use lib.Dec.{eqb}
use Rattle.kinds.specs.Sizes.{geometry_of}
use Rattle.header.proofs.Allowed.{allowed_sized}
use Rattle.formatting.proofs.Plans.{plan_sized, plan_narrow, not_allowed, allowed}
use Rattle.fresh_sectors.specs.Parts.{plan_of}
use Rattle.formatting.proofs.buffer_fits.Goals as goal

pub length_allowed-requires : goal.length_allowed-requires
length_allowed-requires c = record { bytes_nonzero = omega (arith, (plan_sized (geometry_of c.args.g) (plan_of c.args.p) c.requires).wide); bytes_bound = plan_narrow (geometry_of c.args.g) (plan_of c.args.p) c.requires }

pub returns-then-not-length_allowed : goal.returns-then-not-length_allowed
returns-then-not-length_allowed c = not_allowed (geometry_of c.args.g) (plan_of c.args.p) c.requires _ (sym c.length_allowed.ensures ∙ c.if-not-length_allowed.true)

pub sector_count-requires : goal.sector_count-requires
sector_count-requires c = allowed_sized (geometry_of c.args.g) c.args.img.now (plan_sized (geometry_of c.args.g) (plan_of c.args.p) c.requires) (plan_narrow (geometry_of c.args.g) (plan_of c.args.p) c.requires) (sym c.length_allowed.ensures ∙ c.if-not-length_allowed.false)

pub returns : goal.returns
returns c = ap (λ n. eqb n c.args.p.sectors) c.sector_count.ensures ∙ allowed (geometry_of c.args.g) (plan_of c.args.p) c.requires c.args.img.now (sym c.length_allowed.ensures ∙ c.if-not-length_allowed.false)
