use lib.ListN.{length}
use Rattle.format.specs.Layout.Tree.{siblings}
use Rattle.theory.specs.TreeViews.{at}
use Rattle.theory.specs.TreeHeir.{HeirWalk}
use Rattle.directory.specs.Listed.{entries_of}
use Rattle.tree_edits.proofs.find_heir.Given as goal

abbrev pub invariant-loop-d : goal.invariant-loop-d
invariant-loop-d l = HeirWalk (entries_of l.d l.img) l.initial.above.0 l.initial.entry.0 l.above.0 l.entry.0

abbrev pub decreases-loop-d : goal.decreases-loop-d
decreases-loop-d l = length (siblings (at (entries_of l.d l.img) l.entry.0))
