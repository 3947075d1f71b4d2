-- The walk in rising order: what is still to come of a tree's siblings.
use mathlib.Core.Path.{◌≡◌}
use mathlib.Core.List.{List, [], ◌∷◌, append_assoc}
use Prim.Native.Nat.{ℕ}
use Rattle.format.specs.Layout.Entry.{NOSTREAM}
use Rattle.format.specs.Layout.Directory.{Directory}
use Rattle.format.specs.Layout.Tree.{siblings}
use Rattle.theory.specs.TreeViews.{rows, at, left_of, right_of, Standing}
use Rattle.theory.proofs.Trees.Grow.{grow_none}
use Rattle.theory.proofs.Trees.Stand.{standing}
use Rattle.theory.specs.TreeInorder.{unwind, to_come}

module _ (d : Directory) where
  -- down: the entry goes on the stack, and its left side comes first
  pub coming_down : (x : ℕ) (ys : List ℕ) → Standing d x → to_come d x ys ≡ to_come d (left_of d x) (x ∷ ys)
  unfolding to_come unwind siblings
  coming_down x ys s = rw (standing d x s).tree (append_assoc (siblings (at d (left_of d x))) _ (unwind d ys))

  -- up: the top of the stack comes, and then its right side
  pub coming_up : (x y : ℕ) (ys : List ℕ) → x ≡ NOSTREAM → to_come d x (y ∷ ys) ≡ y ∷ to_come d (right_of d y) ys
  unfolding to_come unwind siblings
  coming_up x y ys e = rw (grow_none d (rows d) x e)

  -- the end of a tree
  pub coming_none : (x : ℕ) → x ≡ NOSTREAM → to_come d x [] ≡ []
  unfolding to_come unwind siblings
  coming_none x e = rw (grow_none d (rows d) x e)
