use mathlib.Core.Path.{◌≡◌}
use Rattle.format.specs.Calls.Repair.{colour_differs}
use Rattle.tables.specs.Views.{volume_of}
use Rattle.directory.specs.Listed.{entries_of}
use Rattle.repair.proofs.Counting.{Counting}
use Rattle.repair.proofs.differences.colours_differ.Given as goal

abbrev pub invariant-loop-x : goal.invariant-loop-x
invariant-loop-x l =
    (goal.iterator-loop-x).can_next l.x-iterator × (goal.iterator-loop-x).is_finite l.x-iterator
    × ((l.x-iterator.end ≡ (entries_of l.d l.after).count)
    × Counting (colour_differs (volume_of l.d.geometry l.after) l.img l.after) (entries_of l.d l.after).count l.x-iterator.next l.count)
