-- Ways into a forest: the entries outside the tree at the end of a way, and the field that names that tree.
use mathlib.Core.Path.{◌≡◌, refl, ap}
use mathlib.Core.Logic.{◌≢◌, ◌⊎◌, inl, inr}
use mathlib.Core.List.{List, ◌++◌, append_assoc}
use Prim.Native.Nat.{ℕ, ◌+◌, ◌<◌}
use native.Mathlib.Omega.{arith}
use borrow.Author.Tests.{eq-eqb}
use lib.Dec.{eqb}
use Rattle.format.specs.Basics.Lists.{bit, count}
use Rattle.format.specs.Layout.Tree.{Forest, empty, entries}
use Rattle.theory.specs.TreeWays.{Way, here, into_left, into_child, into_right, plug, onward, slot_field, slot_entry, listed_before, listed_after}
use Rattle.theory.proofs.Counts.{bit_self}
use Rattle.theory.proofs.Trees.Grow.{count_node}
use Rattle.format.specs.Layout.Entry.{Field, left_field, child_field, right_field}
use Rattle.format.specs.Layout.Siblings.{top}

-- ---- the entries

pub count_plug : (y : ℕ) (w : Way) (t : Forest) → count y (entries (plug w t)) ≡ count y (entries (plug w empty)) + count y (entries t)
unfolding entries
count_plug y here t = omega arith
count_plug y (into_left w e b r) t =
    omega (arith, count_plug y w t, count_node y (plug w t) e b r, count_node y (plug w empty) e b r)
count_plug y (into_child l e w r) t =
    omega (arith, count_plug y w t, count_node y l e (plug w t) r, count_node y l e (plug w empty) r)
count_plug y (into_right l e b w) t =
    omega (arith, count_plug y w t, count_node y l e b (plug w t), count_node y l e b (plug w empty))

-- the listing: what comes before, the tree, what comes after
pub entries_plug : (w : Way) (t : Forest) → entries (plug w t) ≡ listed_before w ++ (entries t ++ listed_after w)
unfolding entries listed_before listed_after
entries_plug here t = simp mathlib.Core.List.append-nil
entries_plug (into_left w e b r) t = rw (entries_plug w t) (simp append_assoc)
entries_plug (into_child l e w r) t = rw (entries_plug w t) (simp append_assoc)
entries_plug (into_right l e b w) t = rw (entries_plug w t) (simp append_assoc)

-- ---- ways after ways

pub plug_onward : (w v : Way) (t : Forest) → plug (onward w v) t ≡ plug w (plug v t)
plug_onward here v t = refl
plug_onward (into_left w e b r) v t = rw (plug_onward w v t)
plug_onward (into_child l e w r) v t = rw (plug_onward w v t)
plug_onward (into_right l e b w) v t = rw (plug_onward w v t)

pub slot_onward : (w v : Way) (k : Field) (x : ℕ)
    → (slot_field (onward w v) k ≡ slot_field v (slot_field w k)) × (slot_entry (onward w v) x ≡ slot_entry v (slot_entry w x))
slot_onward here v k x = (refl, refl)
slot_onward (into_left w e b r) v k x = slot_onward w v left_field e
slot_onward (into_child l e w r) v k x = slot_onward w v child_field e
slot_onward (into_right l e b w) v k x = slot_onward w v right_field e

-- ---- the field at the way's end

-- the way is no step: the field is the one that was given
pub record Still (w : Way) (k : Field) (x : ℕ) : Type 0 where
  pub field : slot_field w k ≡ k
  pub entry : slot_entry w x ≡ x
  pub whole_is : (t : Forest) → plug w t ≡ t

-- the way is some steps: the field is an entry's outside the tree, and the top of the forest is there too
pub record Deep (w : Way) (x : ℕ) : Type 0 where
  pub outside : 0 < count (slot_entry w x) (entries (plug w empty))
  pub top_same : (t t₂ : Forest) → top (plug w t₂) ≡ top (plug w t)

pub still_or_deep : (w : Way) (k : Field) (x : ℕ) → (Still w k x) ⊎ (Deep w x)
still_or_deep here k x = inl (record { field = refl; entry = refl; whole_is = λ t. refl })
still_or_deep (into_left w e b r) k x =
    inr (record {
      outside =
          elim (still_or_deep w left_field e) [
            | inl s ↦ rw s.entry (omega (arith, count_node e (plug w empty) e b r, bit_self e))
            | inr s ↦ omega (arith, count_node (slot_entry w e) (plug w empty) e b r, s.outside)
          ];
      top_same = λ t t₂. refl;
    })
still_or_deep (into_child l e w r) k x =
    inr (record {
      outside =
          elim (still_or_deep w child_field e) [
            | inl s ↦ rw s.entry (omega (arith, count_node e l e (plug w empty) r, bit_self e))
            | inr s ↦ omega (arith, count_node (slot_entry w e) l e (plug w empty) r, s.outside)
          ];
      top_same = λ t t₂. refl;
    })
still_or_deep (into_right l e b w) k x =
    inr (record {
      outside =
          elim (still_or_deep w right_field e) [
            | inl s ↦ rw s.entry (omega (arith, count_node e l e b (plug w empty), bit_self e))
            | inr s ↦ omega (arith, count_node (slot_entry w e) l e b (plug w empty), s.outside)
          ];
      top_same = λ t t₂. refl;
    })

pub apart_of : (y e : ℕ) → bit (eqb y e) ≡ 0 → y ≢ e
apart_of y e h z = let q = ap bit (eq-eqb y e z) in omega arith

pub left_child : left_field ≢ child_field
left_child p = let z : ◌≡◌ {A = ℕ} 0 1 = cc in omega arith

pub left_right : left_field ≢ right_field
left_right p = let z : ◌≡◌ {A = ℕ} 0 1 = cc in omega arith

pub child_right : child_field ≢ right_field
child_right p = let z : ◌≡◌ {A = ℕ} 0 1 = cc in omega arith
