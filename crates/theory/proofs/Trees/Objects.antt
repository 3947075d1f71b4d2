-- The objects of a forest along a way, and what an edit does to them.
use Prim.Native.Nat.{ℕ, ◌<◌}
use mathlib.Core.Path.{◌≡◌, refl, sym, ap, ap₂}
use mathlib.Core.List.{List, [], ◌∷◌, ◌++◌, map, map-append, append_assoc, append-nil}
use native.Mathlib.Omega.{arith}
use Rattle.format.specs.Basics.Lists.{count}
use Rattle.format.specs.Layout.Name.{Name}
use Rattle.format.specs.Layout.Entry.{name}
use Rattle.format.specs.Layout.Directory.{Directory}
use Rattle.format.specs.Layout.Tree.{Forest, empty, broken, node, entries}
use Rattle.format.specs.Layout.Siblings.{greatest, without_greatest, below_greatest, sides_joined}
use Rattle.theory.specs.TreeWays.{Way, here, into_left, into_child, into_right, plug, onward, Level, SameName}
use Rattle.theory.specs.TreeObjects.{Object, entry_of, prefixed, single, objects, gathered, way_names, objects_before, objects_after}
use Rattle.theory.proofs.Counts.{bit_self}
use Rattle.theory.proofs.Trees.Grow.{count_node}

-- ---- prefixes

pub prefixed_none : (os : List Object) → map (prefixed []) os ≡ os
unfolding prefixed
prefixed_none [] = refl
prefixed_none (o ∷ os) = ap (λ (k : List Object). o ∷ k) (prefixed_none os)

pub prefixed_twice : (p q : List Name) (os : List Object) → map (prefixed p) (map (prefixed q) os) ≡ map (prefixed (p ++ q)) os
unfolding prefixed
prefixed_twice p q [] = refl
prefixed_twice p q (o ∷ os) = ap₂ (λ (a : List Name) (k : List Object). record { path = a; entry = o.entry } ∷ k) (sym (append_assoc p q o.path)) (prefixed_twice p q os)

-- ---- entries

entry_prefixed : (p : List Name) (os : List Object) → map entry_of (map (prefixed p) os) ≡ map entry_of os
unfolding prefixed
entry_prefixed p [] = refl
entry_prefixed p (o ∷ os) = ap (λ (k : List ℕ). o.entry ∷ k) (entry_prefixed p os)

-- the objects are the entries, in their order
pub objects_entries : (d : Directory) (t : Forest) → map entry_of (objects d t) ≡ entries t
unfolding objects entries
objects_entries d empty = refl
objects_entries d broken = refl
objects_entries d (node l e b r) =
    simp (map-append, entry_prefixed, objects_entries d l, objects_entries d b, objects_entries d r)

-- names that stay make paths that stay
pub objects_kept : (d d₂ : Directory) (t : Forest) → ((y : ℕ) → 0 < count y (entries t) → SameName d d₂ y) → objects d₂ t ≡ objects d t
unfolding objects
objects_kept d d₂ empty h = refl
objects_kept d d₂ broken h = refl
objects_kept d d₂ (node l e b r) h =
    rw (
      h e (omega (arith, count_node e l e b r, bit_self e)),
      objects_kept d d₂ l (λ y c. h y (omega (arith, count_node y l e b r))),
      objects_kept d d₂ b (λ y c. h y (omega (arith, count_node y l e b r))),
      objects_kept d d₂ r (λ y c. h y (omega (arith, count_node y l e b r))),
    )

-- ---- along a way

pub objects_plug : (d : Directory) (w : Way) (t : Forest)
    → objects d (plug w t) ≡ objects_before d w ++ (map (prefixed (way_names d w)) (objects d t) ++ objects_after d w)
unfolding objects objects_before objects_after way_names
objects_plug d here t = simp (prefixed_none, append-nil)
objects_plug d (into_left w e b r) t = rw (objects_plug d w t) (simp append_assoc)
objects_plug d (into_child l e w r) t = rw (objects_plug d w t) (simp (map-append, prefixed_twice, append_assoc))
objects_plug d (into_right l e b w) t = rw (objects_plug d w t) (simp append_assoc)

-- a way among siblings goes through no storage
pub level_names : (d : Directory) (w : Way) → Level w → way_names d w ≡ []
unfolding way_names
level_names d here h = refl
level_names d (into_left w e b r) h = level_names d w h
level_names d (into_child l e w r) h = absurd h
level_names d (into_right l e b w) h = level_names d w h

pub names_onward : (d : Directory) (w v : Way) → way_names d (onward w v) ≡ way_names d w ++ way_names d v
unfolding way_names
names_onward d here v = refl
names_onward d (into_left w e b r) v = names_onward d w v
names_onward d (into_child l e w r) v = ap (λ (k : List Name). name (d.entry e) ∷ k) (names_onward d w v)
names_onward d (into_right l e b w) v = names_onward d w v

-- ---- two sides joined

last_objects : (d : Directory) (l : Forest) (e : ℕ) (b r : Forest)
    → objects d (node l e b r) ≡ objects d (without_greatest l e b r) ++ (single d (greatest e r) ∷ map (prefixed (name (d.entry (greatest e r)) ∷ [])) (objects d (below_greatest b r)))
unfolding objects without_greatest below_greatest greatest
last_objects d l e b empty = simp append-nil
last_objects d l e b broken = simp append-nil
last_objects d l e b (node l₂ e₂ b₂ r₂) = let h = last_objects d l₂ e₂ b₂ r₂ in rw h (simp append_assoc)

pub joined_objects : (d : Directory) (l r : Forest) → objects d (sides_joined l r) ≡ objects d l ++ objects d r
unfolding objects sides_joined
joined_objects d empty r = refl
joined_objects d broken r = refl
joined_objects d (node l e b m) empty = simp append-nil
joined_objects d (node l e b m) broken = simp append-nil
joined_objects d (node l e b m) (node l₂ e₂ b₂ r₂) = let h = last_objects d l e b m in rw h (simp append_assoc)

-- ---- what is gathered from them

pub gathered_append : {A : Type 0} (f : Object → List A) (os ps : List Object) → gathered f (os ++ ps) ≡ gathered f os ++ gathered f ps
unfolding gathered
gathered_append f [] ps = refl
gathered_append f (o ∷ os) ps = rw (gathered_append f os ps) (sym (append_assoc (f o) (gathered f os) (gathered f ps)))
