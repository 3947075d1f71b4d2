use lib.ListN.{length}
use Rattle.format.specs.Layout.Tree.{siblings}
use Rattle.theory.specs.TreeViews.{at}
use Rattle.directory.specs.Listed.{entries_of}
use Rattle.listing.proofs.Stack.{Pushing}
use Rattle.listing.proofs.push.Given as goal

abbrev pub invariant-loop-d : goal.invariant-loop-d
invariant-loop-d l = Pushing l.d l.img l.initial.y.0 l.parent l.initial.work l.n l.y.0 l.work l.k

abbrev pub decreases-loop-d : goal.decreases-loop-d
decreases-loop-d l = length (siblings (at (entries_of l.d l.img) l.y.0))
