-- What creating a leaf and removing a node do to a tree of siblings, and what the directory then holds.
use Rattle.std.specs.Prelude.{ℕ, ◌<◌, ◌≡◌, ◌≢◌, Bool, true, false, cond}
use Rattle.format.specs.Basics.Lists.{count}
use Rattle.format.specs.Layout.Name.{Name}
use Rattle.format.specs.Layout.Entry.{NOSTREAM, name, Field, child_field}
use Rattle.format.specs.Layout.Directory.{Directory}
use Rattle.format.specs.Layout.Tree.{Forest, empty, broken, node, siblings}
use Rattle.format.specs.Rules.Trees.{is_object, red}
use Rattle.format.specs.Calls.Find.{child_named, missing}
use Rattle.theory.specs.TreeViews.{rows, left_of, right_of, child_of, whole}
use Rattle.theory.specs.TreeDraw.{link}
use Rattle.theory.specs.TreeWays.{Way, here, into_left, into_right, plug, onward, slot_field, slot_entry, Aside, SameName, SameColour}
use Rattle.format.specs.Layout.Siblings.{top, goes_left, without_node}

-- ---- create

abbrev pub leaf : ℕ → Forest
leaf x = node empty x empty empty

-- the leaf x put at its place, which the test p of the entries on the way tells: left where it holds, else right
unfoldable pub inserted : (ℕ → Bool) → ℕ → Forest → Forest
inserted p x empty = leaf x
inserted p x broken = broken
inserted p x (node l e b r) = cond (p e) (node (inserted p x l) e b r) (node l e b (inserted p x r))

-- the way to that place
unfoldable pub way_to : (ℕ → Bool) → Forest → Way
way_to p empty = here
way_to p broken = here
way_to p (node l e b r) = cond (p e) (into_left (way_to p l) e b r) (into_right l e b (way_to p r))

-- the whole way, where w leads to the tree t of the new object's siblings
abbrev pub leaf_way : Directory → Name → Way → Forest → Way
leaf_way d n w t = onward w (way_to (goes_left d n) t)

-- Entry x, which was blank, is an object of the name n in d₂, and one field names it: the one at the end of its way. All else is as it was.
pub record Created (d d₂ : Directory) (w : Way) (t : Forest) (n : Name) (x : ℕ) : Type 0 where
  pub rows_same : rows d₂ ≡ rows d
  -- where it goes: a whole tree of siblings, none of that name
  pub old : whole d ≡ plug w t
  pub ends : slot_field w child_field ≡ child_field
  pub free : child_named d n t ≡ missing
  -- the entry
  pub above : 0 < x
  pub inside : x < rows d
  pub real : x ≢ NOSTREAM
  pub blank : is_object d x ≡ false
  pub object : is_object d₂ x ≡ true
  pub name_new : name (d₂.entry x) ≡ n
  pub black : red d₂ x ≡ false
  pub lefts : left_of d₂ x ≡ NOSTREAM
  pub below : child_of d₂ x ≡ NOSTREAM
  pub rights : right_of d₂ x ≡ NOSTREAM
  -- the field
  pub slot : link d₂ (slot_field (leaf_way d n w t) child_field) (slot_entry (leaf_way d n w t) 0) ≡ x
  -- all else
  pub kept : (k : Field) (y : ℕ) → y ≢ x → Aside (leaf_way d n w t) child_field 0 k y → link d₂ k y ≡ link d k y
  -- (the root's name is not looked at)
  pub names : (y : ℕ) → y ≢ x → 0 < y → SameName d d₂ y
  pub colours : (y : ℕ) → y ≢ x → SameColour d d₂ y
  pub kind_same : (y : ℕ) → y ≢ x → is_object d₂ y ≡ is_object d y

-- ---- remove

-- left and right of entry e name the sides l and r, and e is black
pub record Sided (d : Directory) (l : Forest) (e : ℕ) (r : Forest) : Type 0 where
  pub lefts : left_of d e ≡ top l
  pub rights : right_of d e ≡ top r
  pub black : red d e ≡ false

-- so it is with every sibling of a tree
abbrev pub Shaped : Directory → Forest → Type 0
Shaped d empty = Unit {0}
Shaped d broken = Unit {0}
Shaped d (node l e b r) = Sided d l e r × Shaped d l × Shaped d r

-- Entry x, which had nothing below it, is blank in d₂, and its siblings make the tree without it, all black. All else is as it was.
pub record Removed (d d₂ : Directory) (w : Way) (t : Forest) (x : ℕ) : Type 0 where
  pub rows_same : rows d₂ ≡ rows d
  -- where it was: a whole tree of siblings, one of which it is
  pub old : whole d ≡ plug w t
  pub ends : slot_field w child_field ≡ child_field
  pub among : 0 < count x (siblings t)
  pub childless : child_of d x ≡ NOSTREAM
  -- the entry
  pub blank : is_object d₂ x ≡ false
  -- its siblings, and the field that names their top
  pub shaped : Shaped d₂ (without_node x t)
  pub slot : child_of d₂ (slot_entry w 0) ≡ top (without_node x t)
  -- all else
  pub below_kept : (y : ℕ) → y ≢ x → y ≢ slot_entry w 0 → child_of d₂ y ≡ child_of d y
  pub sides_kept : (y : ℕ) → count y (siblings t) ≡ 0 → (left_of d₂ y ≡ left_of d y) × (right_of d₂ y ≡ right_of d y)
  -- (the root's name is not looked at)
  pub names : (y : ℕ) → y ≢ x → 0 < y → SameName d d₂ y
  pub colours : (y : ℕ) → count y (siblings t) ≡ 0 → SameColour d d₂ y
  pub kind_same : (y : ℕ) → y ≢ x → is_object d₂ y ≡ is_object d y
