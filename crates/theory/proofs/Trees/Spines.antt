-- A step down a side of a tree leaves fewer siblings: what a loop down a spine is measured by.
use Prim.Native.Nat.{ℕ, ◌<◌}
use native.Mathlib.Omega.{arith}
use lib.ListN.{length, length-append}
use Rattle.format.specs.Layout.Directory.{Directory}
use Rattle.format.specs.Layout.Tree.{siblings}
use Rattle.theory.specs.TreeViews.{left_of, right_of, at, Standing}
use Rattle.theory.proofs.Trees.Stand.{standing}

module _ (d : Directory) (x : ℕ) (s : Standing d x) where
  pub right_shorter : length (siblings (at d (right_of d x))) < length (siblings (at d x))
  unfolding siblings
  right_shorter = rw ((standing d x s).tree, length-append) (omega arith)

  pub left_shorter : length (siblings (at d (left_of d x))) < length (siblings (at d x))
  unfolding siblings
  left_shorter = rw ((standing d x s).tree, length-append) (omega arith)
