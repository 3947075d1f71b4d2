-- A tree of siblings with a new leaf's place in it, and without one of its nodes.
use Rattle.std.specs.Prelude.{ℕ, Bool, cond, eqb}
use Rattle.format.specs.Layout.Name.{Name, name_less}
use Rattle.format.specs.Layout.Entry.{NOSTREAM, Field, left_field, right_field, name}
use Rattle.format.specs.Layout.Directory.{Directory}
use Rattle.format.specs.Layout.Tree.{Forest, empty, broken, node}

-- the number that names a tree: its top, NOSTREAM for none. Where group 15 holds, no tree here is broken.
abbrev pub top : Forest → ℕ
top empty = NOSTREAM
top broken = 0
top (node l e b r) = e

-- ---- the place of a new leaf

-- a name goes to the left of an entry
unfoldable pub goes_left : Directory → Name → ℕ → Bool
goes_left d n y = name_less n (name (d.entry y))

-- the field that is to name the leaf, and whose it is
pub record Slot : Type 0 where
  pub entry : ℕ
  pub field : Field

-- down the siblings, which the slot h names: left where the test holds, else right, until there is none
unfoldable pub slot_in : (ℕ → Bool) → Slot → Forest → Slot
slot_in p h empty = h
slot_in p h broken = h
slot_in p h (node l e b r) =
    cond (p e) (slot_in p (record { entry = e; field = left_field }) l) (slot_in p (record { entry = e; field = right_field }) r)

-- ---- the tree without a node

-- the greatest of a tree's siblings, z where it has none
unfoldable pub greatest : ℕ → Forest → ℕ
greatest z empty = z
greatest z broken = z
greatest z (node l e b r) = greatest e r

-- the tree `node l e b r` without its greatest, which is the last on the way right; its left side takes its place
unfoldable pub without_greatest : Forest → ℕ → Forest → Forest → Forest
without_greatest l e b empty = l
without_greatest l e b broken = l
without_greatest l e b (node l₂ e₂ b₂ r₂) = node l e b (without_greatest l₂ e₂ b₂ r₂)

-- the tree below that greatest; its entry is `greatest e r`
unfoldable pub below_greatest : Forest → Forest → Forest
below_greatest b empty = b
below_greatest b broken = b
below_greatest b (node l₂ e₂ b₂ r₂) = below_greatest b₂ r₂

-- what takes the place of a node with the sides l and r: the one side where the other is empty, else the greatest of the left one
unfoldable pub sides_joined : Forest → Forest → Forest
sides_joined empty r = r
sides_joined broken r = r
sides_joined (node l e b m) empty = node l e b m
sides_joined (node l e b m) broken = node l e b m
sides_joined (node l e b m) (node l₂ e₂ b₂ r₂) = node (without_greatest l e b m) (greatest e m) (below_greatest b m) (node l₂ e₂ b₂ r₂)

-- a tree of siblings without x, which stands in it once
unfoldable pub without_node : ℕ → Forest → Forest
without_node x empty = empty
without_node x broken = broken
without_node x (node l e b r) = cond (eqb e x) (sides_joined l r) (node (without_node x l) e b (without_node x r))
