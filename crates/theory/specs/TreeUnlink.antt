-- A removal by the few fields that change: the one that named the node, and those of the heir that takes its place.
use Rattle.std.specs.Prelude.{ℕ, ◌<◌, ◌≡◌, ◌≢◌, ◌⊎◌, false}
use Rattle.format.specs.Basics.Lists.{count}
use Rattle.format.specs.Layout.Directory.{Directory}
use Rattle.format.specs.Layout.Tree.{Forest, empty, node, siblings}
use Rattle.format.specs.Rules.Trees.{is_object, red}
use Rattle.theory.specs.TreeViews.{rows, left_of, right_of, whole}
use Rattle.theory.specs.TreeDraw.{link}
use Rattle.theory.specs.TreeWays.{Way, here, into_left, into_child, into_right, plug, onward, Level, slot_field, slot_entry, Aside, SameName, SameColour}
use Rattle.format.specs.Layout.Entry.{Field, child_field, right_field}
use Rattle.format.specs.Layout.Siblings.{top, sides_joined}

-- the way goes right at every step
abbrev pub Rightward : Way → Type 0
Rightward here = Unit {0}
Rightward (into_left w e b r) = ⊥
Rightward (into_child l e w r) = ⊥
Rightward (into_right l e b w) = Rightward w

-- where entry x stands: w leads to the tree t of its siblings, and v among these to its node, whose sides are l and r
pub record Located (d : Directory) (w v : Way) (t l : Forest) (x : ℕ) (r : Forest) : Type 0 where
  pub old : whole d ≡ plug w t
  pub ends : slot_field w child_field ≡ child_field
  pub level : Level v
  pub place : t ≡ plug v (node l x empty r)

-- a field of another entry than x which did not name x
abbrev pub Spared : Way → Way → ℕ → Field → ℕ → Type 0
Spared w v x k y = (y ≢ x) × Aside (onward w v) child_field 0 k y

-- One side is empty: the field that named x names the other side now.
pub record Bypassed (d d₂ : Directory) (w v : Way) (l : Forest) (x : ℕ) (r : Forest) : Type 0 where
  pub bare : (l ≡ empty) ⊎ (r ≡ empty)
  pub slot : link d₂ (slot_field (onward w v) child_field) (slot_entry (onward w v) 0) ≡ top (sides_joined l r)
  pub kept : (k : Field) (y : ℕ) → Spared w v x k y → link d₂ k y ≡ link d k y

-- Neither is: the heir h is the last on the way right in the left side l, where u leads. It gives its place to its own left side hl.
pub record Inherited (d d₂ : Directory) (w v u : Way) (hl : Forest) (h : ℕ) (hb : Forest) (x : ℕ) (r : Forest) : Type 0 where
  pub right : Rightward u
  pub some : r ≢ empty
  pub slot : link d₂ (slot_field (onward w v) child_field) (slot_entry (onward w v) 0) ≡ h
  -- the heir's old place, if it was not that of the left side's top
  pub freed : slot_entry u x ≢ x → right_of d₂ (slot_entry u x) ≡ top hl
  pub lefts : left_of d₂ h ≡ top (plug u hl)
  pub rights : right_of d₂ h ≡ top r
  pub kept : (k : Field) (y : ℕ) → Spared w v x k y → (k ≡ child_field) ⊎ (y ≢ h) → (k ≡ right_field → y ≡ slot_entry u x → ⊥) → link d₂ k y ≡ link d k y

-- what changes beside the links: x is blank, its siblings are black
pub record Blanked (d d₂ : Directory) (t : Forest) (x : ℕ) : Type 0 where
  pub rows_same : rows d₂ ≡ rows d
  pub blank : is_object d₂ x ≡ false
  pub black : (y : ℕ) → 0 < count y (siblings t) → y ≢ x → red d₂ y ≡ false
  pub names : (y : ℕ) → y ≢ x → 0 < y → SameName d d₂ y
  pub colours : (y : ℕ) → count y (siblings t) ≡ 0 → SameColour d d₂ y
  pub kind_same : (y : ℕ) → y ≢ x → is_object d₂ y ≡ is_object d y
