use Prim.Native.Nat.{◌-◌}
use mathlib.Core.Path.{◌≡◌}
use mathlib.Core.Bool.{true}
use Rattle.format.specs.Basics.Lists.{all_below}
use Rattle.name_pairs.specs.Pairs.{pair_rises}
use Rattle.name_pairs.proofs.pairs_rise.Given as goal

abbrev pub invariant-loop-i : goal.invariant-loop-i
invariant-loop-i l = all_below l.i (pair_rises l.img l.low l.high) ≡ true
