use mathlib.Core.Path.{refl}
use native.Mathlib.Omega.{arith}
use Rattle.tree_walk.proofs.Lends.{rows_are, height, met_most}
use Rattle.tree_walk.proofs.Ends.{next_go}
use Rattle.tree_walk.proofs.next_tree.Goals as goal

pub overflow_sub-top : goal.overflow_sub-top
overflow_sub-top c = let g = c.requires.underway.1 in omega (arith, c.count-n.ensures, rows_are g.lent, height g, met_most g)

pub returns : goal.returns
returns c = λ q g. next_go g c.requires.at_value.0 c.requires.at_value.1 c.requires.at_value.2 c.count-n.ensures refl refl refl refl refl refl refl
