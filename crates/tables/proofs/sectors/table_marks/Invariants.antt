use Prim.Native.Nat.{◌-◌}
use Rattle.format.specs.Rules.Tables.{mark_right}
use Rattle.kinds.specs.Sizes.{geometry_of}
use Rattle.cells.proofs.Turns.{Passed}
use Rattle.tables.proofs.sectors.table_marks.Given as goal

abbrev pub invariant-loop-i : goal.invariant-loop-i
invariant-loop-i l = Passed (mark_right (geometry_of l.t.geometry) l.img) l.t.sectors l.ok l.i

abbrev pub decreases-loop-i : goal.decreases-loop-i
decreases-loop-i l = l.t.sectors - l.i
