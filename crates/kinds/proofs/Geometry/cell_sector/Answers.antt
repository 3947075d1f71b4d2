use Rattle.std.proofs.Common.{rules}
use Rattle.format.specs.Layout.Geometry.{cells_in}
use Rattle.kinds.proofs.Geometry.cell_sector.Goals as goal

pub returns : goal.returns
unfolding cells_in
returns c = search rules
