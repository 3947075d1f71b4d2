use lib.ListN.{length}
use Rattle.format.specs.Layout.Tree.{siblings}
use Rattle.theory.specs.TreeViews.{at}
use Rattle.theory.specs.TreeFind.{Seeking}
use Rattle.directory.specs.Listed.{entries_of}
use Rattle.lookup.proofs.find_child.Given as goal

abbrev pub invariant-loop-d : goal.invariant-loop-d
invariant-loop-d l = Seeking (entries_of l.d l.img) l.want l.initial.x.0 l.x.0

abbrev pub decreases-loop-d : goal.decreases-loop-d
decreases-loop-d l = length (siblings (at (entries_of l.d l.img) l.x.0))
