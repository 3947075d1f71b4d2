use Prim.Native.Nat.{◌+◌, ◌*◌, ◌<◌}
use Rattle.tables.specs.Work.{Wrote}
use Rattle.directory.specs.Listed.{count_of}
use Rattle.tree_walk.specs.Walking.{left_over}
use Rattle.hierarchy.proofs.Batches.{Batch}
use Rattle.hierarchy.proofs.walk.Given as goal

abbrev pub invariant-loop-next : goal.invariant-loop-next
invariant-loop-next l = Batch l.d l.img l.work l.low l.high l.k l.s × (l.k < 64) × Wrote l.initial.work l.work 0 (3 * count_of l.d + 2)

abbrev pub decreases-loop-next : goal.decreases-loop-next
decreases-loop-next l = left_over l.d l.img l.work l.s
