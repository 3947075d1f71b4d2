use Prim.Native.Nat.{◌-◌}
use Rattle.format.specs.Layout.Entry.{name}
use Rattle.entries.specs.Entry.{entry_at}
use Rattle.text.proofs.Names.{Put}
use Rattle.text.proofs.put_name.Given as goal

abbrev pub invariant-loop-i : goal.invariant-loop-i
invariant-loop-i l = Put l.initial.out (name (entry_at l.img l.p)) l.out l.i l.k
