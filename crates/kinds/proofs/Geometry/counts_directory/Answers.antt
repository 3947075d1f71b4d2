use mathlib.Core.Path.{refl}
use Rattle.format.specs.Layout.Geometry.{counts_directory}
use Rattle.kinds.proofs.Geometry.counts_directory.Goals as goal

pub returns : goal.returns
unfolding counts_directory
returns c = refl
