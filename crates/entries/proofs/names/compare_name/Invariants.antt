use Prim.Native.Nat.{◌-◌}
use Rattle.format.specs.Layout.Name.{fold}
use Rattle.format.specs.Layout.Entry.{name}
use Rattle.theory.proofs.NameCompare.{Comparing}
use Rattle.entries.specs.Entry.{entry_at}
use Rattle.entries.proofs.names.compare_name.Given as goal

abbrev pub invariant-loop-i : goal.invariant-loop-i
invariant-loop-i l = Comparing fold l.want (name (entry_at l.img l.q)) l.i
