-- Short names for what the laws of the trees speak of: an entry's fields by its number, and the tree that a number names.
use Rattle.std.specs.Prelude.{ℕ, ◌<◌, ◌≡◌, ◌≢◌, Bool, true, ◌&&◌}
use Rattle.format.specs.Layout.Entry.{NOSTREAM, left, right, child}
use Rattle.format.specs.Layout.Directory.{Directory}
use Rattle.format.specs.Layout.Tree.{Forest, node, grow}
use Rattle.format.specs.Rules.Trees.{sound, reached_once}

abbrev pub rows : Directory → ℕ
rows d = d.count

abbrev pub left_of : Directory → ℕ → ℕ
left_of d x = left (d.entry x)

abbrev pub right_of : Directory → ℕ → ℕ
right_of d x = right (d.entry x)

abbrev pub child_of : Directory → ℕ → ℕ
child_of d x = child (d.entry x)

-- the node at x, its three parts followed through at most `depth` fields
abbrev pub step : Directory → ℕ → ℕ → Forest
step d depth x = node (grow d depth (left_of d x)) x (grow d depth (child_of d x)) (grow d depth (right_of d x))

-- the tree that the number x names
abbrev pub at : Directory → ℕ → Forest
at d x = grow d (rows d) x

abbrev pub sound_at : Directory → ℕ → Bool
sound_at d x = sound (at d x)

-- all that is below the root: `forest d`, written out
abbrev pub whole : Directory → Forest
whole d = at d (child_of d 0)

-- the fields draw trees, and each object stands in them once: the first half of group 15
unfoldable pub shape_ok : Directory → Bool
shape_ok d = sound (whole d) && reached_once d

-- x names a sound tree that is not empty
pub record Standing (d : Directory) (x : ℕ) : Type 0 where
  pub real : x ≢ NOSTREAM
  pub tree_sound : sound (at d x) ≡ true
  pub above : 0 < x
  pub inside : x < rows d

-- a test of a node: of its left side, its entry, the tree below it and its right side
abbrev pub NodeTest : Type 0
NodeTest = Forest → ℕ → Forest → Forest → Bool

-- the test of the node that x names
abbrev pub test_at : Directory → NodeTest → ℕ → Bool
test_at d q x = q (at d (left_of d x)) x (at d (child_of d x)) (at d (right_of d x))
