use lib.ListN.{take}
use Rattle.spaces.specs.Spaces.{listed_space}
use Rattle.writes.proofs.Zeroing.{Zeroing}
use Rattle.writes.proofs.zero_from.Given as goal

abbrev pub invariant-loop-k : goal.invariant-loop-k
invariant-loop-k l = Zeroing (listed_space l.v l.work l.kind) (take l.n l.work) l.from l.initial.img l.img l.k l.o
