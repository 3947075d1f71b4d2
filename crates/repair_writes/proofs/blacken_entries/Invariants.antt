use mathlib.Core.Path.{◌≡◌}
use Rattle.directory.specs.Listed.{count_of}
use Rattle.repair_writes.proofs.Blackening.{Blackening}
use Rattle.repair_writes.proofs.blacken_entries.Given as goal

abbrev pub invariant-loop-x : goal.invariant-loop-x
invariant-loop-x l =
    (goal.iterator-loop-x).can_next l.x-iterator × (goal.iterator-loop-x).is_finite l.x-iterator
    × ((l.x-iterator.end ≡ count_of l.d) × Blackening l.d l.initial.img l.img l.x-iterator.next)
