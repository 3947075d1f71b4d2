use mathlib.Core.Path.{◌≡◌}
use Rattle.directory.specs.Listed.{entries_of}
use Rattle.entry_rules.proofs.Passing.{Passed}
use Rattle.entry_rules.proofs.read_entries.Given as goal

abbrev pub invariant-loop-x : goal.invariant-loop-x
invariant-loop-x l = record {
  can_next : (goal.iterator-loop-x).can_next l.x-iterator;
  is_finite : (goal.iterator-loop-x).is_finite l.x-iterator;
  ends : l.x-iterator.end ≡ l.n;
  passed : Passed (entries_of l.d l.img) l.initial.work l.work l.x-iterator.next;
}
