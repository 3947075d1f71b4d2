use mathlib.Core.Path.{◌≡◌}
use Rattle.directory.specs.Listed.{entries_of}
use Rattle.directory.proofs.Blanks.{NoneBlank}
use Rattle.directory.proofs.lowest_blank.Given as goal

abbrev pub invariant-loop-x : goal.invariant-loop-x
invariant-loop-x l = record {
  can_next : (goal.iterator-loop-x).can_next l.x-iterator;
  is_finite : (goal.iterator-loop-x).is_finite l.x-iterator;
  ends : l.x-iterator.end ≡ (entries_of l.d l.img).count;
  none : NoneBlank (entries_of l.d l.img) l.x-iterator.next;
}
