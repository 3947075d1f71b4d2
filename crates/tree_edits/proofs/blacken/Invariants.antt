use lib.ListN.{take}
use Rattle.directory.specs.Listed.{place_of}
use Rattle.tree_edits.proofs.Blackening.{Blackening}
use Rattle.tree_edits.proofs.blacken.Given as goal

abbrev pub invariant-loop-y : goal.invariant-loop-y
invariant-loop-y l = Blackening (place_of l.d l.work) (take l.n l.work) l.initial.img l.img l.y-index
