use Prim.Native.Nat.{◌-◌}
use Rattle.format.specs.Layout.Entry.{name}
use Rattle.entries.specs.Entry.{entry_at}
use Rattle.text.proofs.Names.{Printed}
use Rattle.text.proofs.name_length.Given as goal

abbrev pub invariant-loop-i : goal.invariant-loop-i
invariant-loop-i l = Printed (name (entry_at l.img l.p)) l.i l.k
