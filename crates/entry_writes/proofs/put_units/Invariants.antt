use Prim.Native.Nat.{◌-◌}
use Rattle.entry_writes.proofs.Blocks.{Units}
use Rattle.entry_writes.proofs.put_units.Given as goal

abbrev pub invariant-loop-i : goal.invariant-loop-i
invariant-loop-i l = Units l.initial.img l.p l.name l.img l.i
