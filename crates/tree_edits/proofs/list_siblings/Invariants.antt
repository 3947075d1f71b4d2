use Prim.Native.Nat.{ℕ, ◌-◌}
use mathlib.Core.List.{List, []}
use Rattle.directory.specs.Listed.{count_of}
use Rattle.tree_edits.proofs.Gathering.{Gathering}
use Rattle.tree_edits.proofs.list_siblings.Given as goal

abbrev pub invariant-loop-i : goal.invariant-loop-i
invariant-loop-i l = (top : ℕ) (w : List ℕ) → Gathering l.d l.img top w l.initial.work l.initial.i l.initial.n [] → Gathering l.d l.img top w l.work l.i l.n []

abbrev pub decreases-loop-i : goal.decreases-loop-i
decreases-loop-i l = count_of l.d - l.i
