-- Ways into a forest: a forest with one tree left open, and the field that names that tree.
use Rattle.std.specs.Prelude.{ℕ, ◌+◌, ◌≤◌, ◌<◌, ◌≡◌, ◌⊎◌, true, List, [], ◌∷◌, ◌++◌}
use Rattle.format.specs.Basics.Lists.{bit, count}
use Rattle.format.specs.Layout.Entry.{name, colour, Field, left_field, child_field, right_field}
use Rattle.format.specs.Layout.Directory.{Directory}
use Rattle.format.specs.Layout.Tree.{Forest, empty, node, entries, siblings}
use Rattle.format.specs.Rules.Trees.{sound, is_object, every_node, sides_ordered, top_black, coloured}
use Rattle.theory.specs.TreeViews.{rows, child_of, whole}
use Rattle.theory.specs.TreeDraw.{link, Draws}
use Rattle.format.specs.Layout.Siblings.{top}

-- down through the nodes of a forest, each with its other parts
pub data Way : Type 0 where
  here : Way
  into_left : Way → ℕ → Forest → Forest → Way
  into_child : Forest → ℕ → Way → Forest → Way
  into_right : Forest → ℕ → Forest → Way → Way

-- the forest with the tree t at the way's end
abbrev pub plug : Way → Forest → Forest
plug here t = t
plug (into_left w e b r) t = node (plug w t) e b r
plug (into_child l e w r) t = node l e (plug w t) r
plug (into_right l e b w) t = node l e b (plug w t)

-- the way stays among siblings
abbrev pub Level : Way → Type 0
Level here = Unit {0}
Level (into_left w e b r) = Level w
Level (into_child l e w r) = ⊥
Level (into_right l e b w) = Level w

-- one way after the other
abbrev pub onward : Way → Way → Way
onward here v = v
onward (into_left w e b r) v = into_left (onward w v) e b r
onward (into_child l e w r) v = into_child l e (onward w v) r
onward (into_right l e b w) v = into_right l e b (onward w v)

-- the field at the way's end, where field k of entry x names the forest
abbrev pub slot_field : Way → Field → Field
slot_field here k = k
slot_field (into_left w e b r) k = slot_field w left_field
slot_field (into_child l e w r) k = slot_field w child_field
slot_field (into_right l e b w) k = slot_field w right_field

abbrev pub slot_entry : Way → ℕ → ℕ
slot_entry here x = x
slot_entry (into_left w e b r) x = slot_entry w e
slot_entry (into_child l e w r) x = slot_entry w e
slot_entry (into_right l e b w) x = slot_entry w e

-- field k of entry y is not the one at the way's end
abbrev pub Aside : Way → Field → ℕ → Field → ℕ → Type 0
Aside w k₀ x₀ k y = k ≡ slot_field w k₀ → y ≡ slot_entry w x₀ → ⊥

-- what is listed before the tree at the way's end, and what after it
unfoldable pub listed_before : Way → List ℕ
listed_before here = []
listed_before (into_left w e b r) = listed_before w
listed_before (into_child l e w r) = entries l ++ (e ∷ listed_before w)
listed_before (into_right l e b w) = entries l ++ (e ∷ (entries b ++ listed_before w))

unfoldable pub listed_after : Way → List ℕ
listed_after here = []
listed_after (into_left w e b r) = listed_after w ++ (e ∷ (entries b ++ entries r))
listed_after (into_child l e w r) = listed_after w ++ entries r
listed_after (into_right l e b w) = listed_after w

-- the siblings before the tree at the end of such a way, and those after it
unfoldable pub siblings_before : Way → List ℕ
siblings_before here = []
siblings_before (into_left w e b r) = siblings_before w
siblings_before (into_child l e w r) = []
siblings_before (into_right l e b w) = siblings l ++ (e ∷ siblings_before w)

unfoldable pub siblings_after : Way → List ℕ
siblings_after here = []
siblings_after (into_left w e b r) = siblings_after w ++ (e ∷ siblings r)
siblings_after (into_child l e w r) = []
siblings_after (into_right l e b w) = siblings_after w

-- Directory d draws the forest with t at the way's end. In d₂ the field there names t₂, which d₂ draws, and every other field of the
-- entries outside is as it was.
pub record Replaced (d d₂ : Directory) (w : Way) (t t₂ : Forest) : Type 0 where
  pub rows_same : rows d₂ ≡ rows d
  pub drawn : Draws d (plug w t)
  pub root : child_of d 0 ≡ top (plug w t)
  pub once : (y : ℕ) → count y (entries (plug w empty)) ≤ 1
  pub kept : (k : Field) (y : ℕ) → (y ≡ 0) ⊎ (0 < count y (entries (plug w empty))) → Aside w child_field 0 k y → link d₂ k y ≡ link d k y
  pub slot : link d₂ (slot_field w child_field) (slot_entry w 0) ≡ top t₂
  pub drawn_new : Draws d₂ t₂

abbrev pub SameName : Directory → Directory → ℕ → Type 0
SameName d d₂ x = name (d₂.entry x) ≡ name (d.entry x)

abbrev pub SameColour : Directory → Directory → ℕ → Type 0
SameColour d d₂ x = colour (d₂.entry x) ≡ colour (d.entry x)

-- A whole tree of siblings is replaced by one that keeps the rules, beside entries that keep their names and colours. Every object then
-- stands in the one or the other once.
pub record Regrown (d d₂ : Directory) (w : Way) (t t₂ : Forest) : Type 0 where
  pub rows_same : rows d₂ ≡ rows d
  pub old : whole d ≡ plug w t
  pub new : whole d₂ ≡ plug w t₂
  pub new_sound : sound (plug w t₂) ≡ true
  -- the way ends at a tree of siblings as a whole
  pub ends : slot_field w child_field ≡ child_field
  pub names : (y : ℕ) → 0 < count y (entries (plug w empty)) → SameName d d₂ y
  pub colours : (y : ℕ) → 0 < count y (entries (plug w empty)) → SameColour d d₂ y
  pub counts : (y : ℕ) → y < rows d → count y (entries (plug w empty)) + count y (entries t₂) ≡ bit (is_object d₂ y)
  pub sorted : every_node (sides_ordered d₂) t₂ ≡ true
  pub top_black_lem : top_black d₂ t₂ ≡ true
  pub paint : every_node (coloured d₂) t₂ ≡ true
