use Rattle.spaces.specs.Spaces.{listed_space}
use Rattle.writes.proofs.Writing.{Writing}
use Rattle.writes.proofs.put_cells.Given as goal

abbrev pub invariant-loop-j : goal.invariant-loop-j
invariant-loop-j l = Writing l.cells (listed_space l.v l.work l.kind) l.work l.from l.to l.initial.img l.img l.j
