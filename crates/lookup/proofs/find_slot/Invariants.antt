use lib.ListN.{length}
use Rattle.format.specs.Layout.Tree.{siblings}
use Rattle.theory.specs.TreeViews.{at}
use Rattle.kinds.specs.Links.{link_field}
use Rattle.directory.specs.Listed.{entries_of}
use Rattle.lookup.proofs.Slots.{Descent}
use Rattle.lookup.proofs.find_slot.Given as goal

abbrev pub invariant-loop-d : goal.invariant-loop-d
invariant-loop-d l = Descent (entries_of l.d l.img) l.want l.initial.h.entry.0 l.h.entry.0 (link_field l.h.field) l.y.0

abbrev pub decreases-loop-d : goal.decreases-loop-d
decreases-loop-d l = length (siblings (at (entries_of l.d l.img) l.y.0))
