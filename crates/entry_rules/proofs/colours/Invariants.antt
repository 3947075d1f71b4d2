use Prim.Native.Nat.{◌≤◌}
use mathlib.Core.Path.{◌≡◌}
use Rattle.directory.specs.Listed.{entries_of}
use Rattle.entry_rules.specs.Ahead.{colours_right}
use Rattle.entry_rules.proofs.colours.Given as goal

abbrev pub invariant-loop-y : goal.invariant-loop-y
invariant-loop-y l = record {
  can_next : (goal.iterator-loop-y).can_next l.y-iterator;
  is_finite : (goal.iterator-loop-y).is_finite l.y-iterator;
  ends : l.y-iterator.end ≡ l.end;
  from : l.fn.x.0 ≤ l.y-iterator.next;
  upto : l.y-iterator.next ≤ l.end;
  right : l.ok ≡ colours_right (entries_of l.d l.img) l.fn.x.0 l.y-iterator.next;
}
