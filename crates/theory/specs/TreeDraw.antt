-- A forest that stands in the fields of a directory.
use Rattle.std.specs.Prelude.{ℕ, ◌≡◌, ◌≢◌, true}
use Rattle.format.specs.Layout.Entry.{NOSTREAM, Field, left_field, child_field, right_field}
use Rattle.format.specs.Layout.Directory.{Directory}
use Rattle.format.specs.Layout.Tree.{Forest, empty, broken, node, named}
use Rattle.theory.specs.TreeViews.{left_of, right_of, child_of}
use Rattle.format.specs.Layout.Siblings.{top}

-- what a field of entry x holds
abbrev pub link : Directory → Field → ℕ → ℕ
link d left_field x = left_of d x
link d child_field x = child_of d x
link d right_field x = right_of d x

-- the fields of entry e name the three parts of its node
pub record Placed (d : Directory) (l : Forest) (e : ℕ) (b r : Forest) : Type 0 where
  pub real : e ≢ NOSTREAM
  pub name : named d e ≡ true
  pub lefts : left_of d e ≡ top l
  pub below : child_of d e ≡ top b
  pub rights : right_of d e ≡ top r

-- every node of the forest is placed
abbrev pub Draws : Directory → Forest → Type 0
Draws d empty = Unit {0}
Draws d broken = ⊥
Draws d (node l e b r) = Placed d l e b r × Draws d l × Draws d b × Draws d r

-- the fields of entry x are the same in both directories
pub record SameLinks (d d₂ : Directory) (x : ℕ) : Type 0 where
  pub lefts : left_of d₂ x ≡ left_of d x
  pub below : child_of d₂ x ≡ child_of d x
  pub rights : right_of d₂ x ≡ right_of d x
