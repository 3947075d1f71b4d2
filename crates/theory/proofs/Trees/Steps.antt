-- Ways one step longer.
use Prim.Native.Nat.{ℕ}
use mathlib.Core.Path.{◌≡◌}
use Rattle.format.specs.Layout.Entry.{Field, left_field, right_field}
use Rattle.format.specs.Layout.Tree.{Forest}
use Rattle.theory.specs.TreeWays.{Way, here, into_left, into_child, into_right, onward, Level, slot_field, slot_entry}
use Rattle.theory.proofs.Trees.Ways.{slot_onward}

pub level_onward : (v u : Way) → Level v → Level u → Level (onward v u)
level_onward here u h k = k
level_onward (into_left v e b r) u h k = level_onward v u h k
level_onward (into_child l e v r) u h k = absurd h
level_onward (into_right l e b v) u h k = level_onward v u h k

-- the field at the end of a way one step longer is the node's
pub slot_left : (v : Way) (e : ℕ) (b r : Forest) (k : Field) (x : ℕ)
    → (slot_field (onward v (into_left here e b r)) k ≡ left_field) × (slot_entry (onward v (into_left here e b r)) x ≡ e)
slot_left v e b r k x = slot_onward v (into_left here e b r) k x

pub slot_right : (v : Way) (l : Forest) (e : ℕ) (b : Forest) (k : Field) (x : ℕ)
    → (slot_field (onward v (into_right l e b here)) k ≡ right_field) × (slot_entry (onward v (into_right l e b here)) x ≡ e)
slot_right v l e b k x = slot_onward v (into_right l e b here) k x
