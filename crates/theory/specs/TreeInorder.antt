-- Order and colours of the trees, as a walk in order tests them: each sibling comes before the next, and no red one stands right below a red one.
use Rattle.std.specs.Prelude.{ℕ, zero, suc, ◌+◌, ◌≤◌, ◌≡◌, Bool, true, not, ◌&&◌, List, [], ◌∷◌, ◌++◌, ltb, length}
use Rattle.format.specs.Basics.Lists.{all}
use Rattle.format.specs.Layout.Directory.{Directory}
use Rattle.format.specs.Layout.Tree.{Forest, empty, broken, node, siblings}
use Rattle.format.specs.Rules.Trees.{sound, is_object, less, red}
use Rattle.theory.specs.TreeViews.{rows, at, whole, right_of, child_of}
use Rattle.theory.specs.TreeWalk.{Walk}

-- ---- order

-- each comes before the next, x before all
unfoldable pub after : (ℕ → ℕ → Bool) → ℕ → List ℕ → Bool
after lt x [] = true
after lt x (y ∷ ys) = lt x y && after lt y ys

unfoldable pub rising : (ℕ → ℕ → Bool) → List ℕ → Bool
rising lt [] = true
rising lt (x ∷ xs) = after lt x xs

-- the trees below the nodes of a tree
unfoldable pub below_rise : Directory → Forest → Bool
below_rise d empty = true
below_rise d broken = true
below_rise d (node l e b r) = below_rise d l && ((rising (less d) (siblings b) && below_rise d b) && below_rise d r)

unfoldable pub tree_rises : Directory → Forest → Bool
tree_rises d t = rising (less d) (siblings t) && below_rise d t

-- ---- order and colours in one

-- the nodes of a tree, whose top may not be red if `above` says so, and the trees below them
unfoldable pub nodes_right : Directory → Bool → Forest → Bool
nodes_right d above empty = true
nodes_right d above broken = true
nodes_right d above (node l e b r) =
    not (above && red d e)
    && (nodes_right d (red d e) l && ((rising (less d) (siblings b) && nodes_right d true b) && nodes_right d (red d e) r))

unfoldable pub tree_right : Directory → Forest → Bool
tree_right d t = rising (less d) (siblings t) && nodes_right d true t

-- ---- the walk: it goes down to x next; the stack ys holds those above x, the nearest first; the trees that cs names wait

-- what is still to come of the tree's siblings
unfoldable pub unwind : Directory → List ℕ → List ℕ
unwind d [] = []
unwind d (y ∷ ys) = y ∷ (siblings (at d (right_of d y)) ++ unwind d ys)

unfoldable pub to_come : Directory → ℕ → List ℕ → List ℕ
to_come d x ys = siblings (at d x) ++ unwind d ys

-- the fields that those on the stack have still to be followed through: right sides, and trees below
unfoldable pub behind : Directory → List ℕ → List ℕ
behind d [] = []
behind d (y ∷ ys) = right_of d y ∷ (child_of d y ∷ behind d ys)

-- The sibling visited last is given as its number and one, or as 0 where none was: that y comes after it, and that all of a list do.
abbrev pub follows : (ℕ → ℕ → Bool) → ℕ → ℕ → Bool
follows lt zero y = true
follows lt (suc b) y = lt b y

unfoldable pub following : (ℕ → ℕ → Bool) → ℕ → List ℕ → Bool
following lt zero ys = rising lt ys
following lt (suc b) ys = after lt b ys

-- what is behind those on the stack
unfoldable pub stack_right : Directory → List ℕ → Bool
stack_right d [] = true
stack_right d (y ∷ ys) = (tree_right d (at d (child_of d y)) && nodes_right d (red d y) (at d (right_of d y))) && stack_right d ys

abbrev pub right_at : Directory → ℕ → Bool
right_at d c = tree_right d (at d c)

unfoldable pub left_to_test : Directory → ℕ → Bool → ℕ → List ℕ → List ℕ → Bool
left_to_test d x above before ys cs =
    following (less d) before (to_come d x ys) && (nodes_right d above (at d x) && (stack_right d ys && all (right_at d) cs))

-- an object of the directory
abbrev pub object_in : Directory → ℕ → Bool
object_in d x = ltb x (rows d) && is_object d x

abbrev pub LastIn : Directory → ℕ → Type 0
LastIn d zero = Unit {0}
LastIn d (suc b) = object_in d b ≡ true

-- k entries are marked in m; due says what the tests of order will answer that are put off
pub record Inorder (d : Directory) (due : Bool) (k x : ℕ) (above : Bool) (before : ℕ) (ys cs m : List ℕ) : Type 0 where
  pub walk : Walk d k (x ∷ (behind d ys ++ cs)) m
  pub rest : sound (whole d) ≡ true → tree_right d (whole d) ≡ (due && left_to_test d x above before ys cs)
  pub objects : all (object_in d) ys ≡ true
  pub last : LastIn d before
  pub height : length ys + length cs ≤ k
