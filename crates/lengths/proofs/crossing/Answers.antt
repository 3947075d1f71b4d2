use mathlib.Core.Path.{refl}
use Rattle.format.specs.Layout.Need.{cutoff}
use Rattle.format.specs.Calls.SetLength.{small, crosses}
use Rattle.lengths.proofs.crossing.Goals as goal

pub returns : goal.returns
unfolding crosses small cutoff
returns c = refl
