use Prim.Native.Nat.{◌-◌}
use Rattle.format.specs.Layout.Entry.{name}
use Rattle.entries.specs.Entry.{entry_at, Alike}
use Rattle.entries.proofs.names.alike.Given as goal

abbrev pub invariant-loop-i : goal.invariant-loop-i
invariant-loop-i l = Alike (name (entry_at l.img l.p)) (name (entry_at l.img l.q)) l.i

abbrev pub decreases-loop-i : goal.decreases-loop-i
decreases-loop-i l = l.n - l.i
