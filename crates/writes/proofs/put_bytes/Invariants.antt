use borrow.Author.Rules.{rules}
use Prim.Native.Nat.{◌+◌, ◌-◌, ◌≤◌, ◌<◌}
use mathlib.Core.Path.{◌≡◌}
use native.Mathlib.Omega.{arith}
use lib.ListN.{length, get_or, take}
use Rattle.spaces.specs.Spaces.{listed_space}
use Rattle.spaces.specs.Units.{kind_of, number_in}
use Rattle.spaces.proofs.Units.{unit_as}
use Rattle.writes.proofs.Putting.{Putting, putting_start, putting_below, putting_step, putting_done}
use Rattle.writes.proofs.put_bytes.Given as goal

abbrev pub invariant-loop-i : goal.invariant-loop-i
invariant-loop-i l = Putting (listed_space l.v l.work l.kind) (take l.n l.work) l.offset l.bytes l.initial.img l.img l.k l.o l.i

abbrev pub decreases-loop-i : goal.decreases-loop-i
decreases-loop-i l = length l.bytes - l.i
