use Prim.Native.Nat.{◌-◌}
use Rattle.name_pairs.proofs.Pairs.{Looking}
use Rattle.name_pairs.proofs.look.Given as goal

abbrev pub invariant-loop-i : goal.invariant-loop-i
invariant-loop-i l = Looking l.img l.low l.high l.units l.from l.i
