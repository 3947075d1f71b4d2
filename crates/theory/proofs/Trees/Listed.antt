-- What creating and removing do to the listing: one object more or less, and every other keeps its path and its place.
use Prim.Native.Nat.{ℕ, ◌<◌}
use mathlib.Core.Path.{◌≡◌, refl, sym, ap, ap₂, ◌∙◌}
use mathlib.Core.Logic.{◌≢◌}
use mathlib.Core.List.{List, [], ◌∷◌, ◌++◌, map, map-append, append_assoc, append-nil}
use native.Mathlib.Omega.{arith}
use native.Mathlib.Decide.{dec_lt}
use Rattle.format.specs.Basics.Lists.{count}
use Rattle.format.specs.Layout.Name.{Name}
use Rattle.format.specs.Layout.Entry.{name}
use Rattle.format.specs.Layout.Directory.{Directory}
use Rattle.format.specs.Layout.Tree.{Forest, empty, node, entries}
use Rattle.format.specs.Layout.Siblings.{goes_left, sides_joined, without_node}
use Rattle.theory.specs.TreeViews.{whole}
use Rattle.theory.specs.TreeOrder.{Rules}
use Rattle.theory.specs.TreeWays.{Way, here, into_left, into_child, into_right, plug, onward, SameName}
use Rattle.theory.specs.TreeEdits.{leaf, way_to, leaf_way, Created, Removed}
use Rattle.theory.specs.TreeObjects.{Object, entry_of, prefixed, objects, way_names, objects_before, objects_after, OneMore}
use Rattle.theory.proofs.Counts.{bit_self}
use Rattle.theory.proofs.Trees.Grow.{count_node}
use Rattle.theory.proofs.Trees.Ways.{count_plug, plug_onward}
use Rattle.theory.proofs.Trees.Insert.{way_to_level}
use Rattle.theory.proofs.Trees.Create.{other, old_plug, new_plug, created_whole, standing}
use Rattle.theory.proofs.Trees.Remove.{Spot}
use Rattle.theory.proofs.Trees.Removal.{spot_empty, drawn, left_over, outside, removed_at, removed_whole, left_positive}
use Rattle.theory.proofs.Trees.Objects.{objects_entries, objects_kept, objects_plug, level_names, names_onward, joined_objects}

pub names_kept : (d d₂ : Directory) (w : Way) → ((y : ℕ) → 0 < count y (entries (plug w empty)) → SameName d d₂ y) → way_names d₂ w ≡ way_names d w
unfolding way_names
names_kept d d₂ here h = refl
names_kept d d₂ (into_left w e b r) h = names_kept d d₂ w (λ y c. h y (omega (arith, count_node y (plug w empty) e b r)))
names_kept d d₂ (into_child l e w r) h =
    ap₂ ◌∷◌ (h e (omega (arith, count_node e l e (plug w empty) r, bit_self e))) (names_kept d d₂ w (λ y c. h y (omega (arith, count_node y l e (plug w empty) r))))
names_kept d d₂ (into_right l e b w) h = names_kept d d₂ w (λ y c. h y (omega (arith, count_node y l e b (plug w empty))))

-- ---- create

module _ (d d₂ : Directory) (w : Way) (t : Forest) (n : Name) (x : ℕ) (c : Created d d₂ w t n x) (r : Rules d) where
  abbrev lw : Way
  lw = leaf_way d n w t

  leaf_names : way_names d₂ lw ++ (name (d₂.entry x) ∷ []) ≡ way_names d w ++ (n ∷ [])
  leaf_names =
      let a = names_onward d₂ w (way_to (goes_left d n) t) in
      let k = names_kept d d₂ w (λ y h. c.names y (other d d₂ w t n x c r y (omega (arith, count_plug y w t))) (standing d d₂ w t n x c r y (omega (arith, count_plug y w t)))) in
      rw (a, level_names d₂ (way_to (goes_left d n) t) (way_to_level (goes_left d n) x t), append-nil (way_names d₂ w), k, c.name_new)

  less_listed : objects d (whole d) ≡ objects_before d₂ lw ++ objects_after d₂ lw
  unfolding objects
  less_listed =
      ap (objects d) c.old
      ∙ sym (objects_kept d d₂ (plug w t) (λ y h. c.names y (other d d₂ w t n x c r y h) (standing d d₂ w t n x c r y h)))
      ∙ ap (objects d₂) (sym (old_plug d d₂ w t n x c r))
      ∙ objects_plug d₂ lw empty

  more_listed : objects d₂ (whole d₂) ≡ objects_before d₂ lw ++ (record { path = way_names d₂ lw ++ (name (d₂.entry x) ∷ []); entry = x } ∷ objects_after d₂ lw)
  unfolding objects prefixed
  more_listed =
      ap (objects d₂) (created_whole d d₂ w t n x c r ∙ sym (new_plug d d₂ w t n x c r))
      ∙ objects_plug d₂ lw (leaf x)

  pub created_objects : OneMore d d₂ (record { path = way_names d w ++ (n ∷ []); entry = x })
  created_objects = record {
    before = objects_before d₂ lw;
    after = objects_after d₂ lw;
    less_objects = less_listed;
    more_objects = more_listed ∙ rw leaf_names;
  }

-- ---- remove

module _ (d d₂ : Directory) (w : Way) (t : Forest) (x : ℕ) (c : Removed d d₂ w t x) (r : Rules d) where
  abbrev s : Spot x t
  s = removed_at d d₂ w t x c r

  abbrev sw : Way
  sw = onward w s.way

  abbrev side_before : List Object
  side_before = objects_before d sw ++ map (prefixed (way_names d sw)) (objects d s.lefts)

  abbrev side_after : List Object
  side_after = map (prefixed (way_names d sw)) (objects d s.rights) ++ objects_after d sw

  spot_names : way_names d sw ++ (name (d.entry x) ∷ []) ≡ way_names d w ++ (name (d.entry x) ∷ [])
  spot_names = let a = names_onward d w s.way in rw (a, level_names d s.way s.level, append-nil (way_names d w))

  was_listed : objects d (whole d) ≡ side_before ++ (record { path = way_names d sw ++ (name (d.entry x) ∷ []); entry = x } ∷ side_after)
  unfolding objects prefixed
  was_listed =
      let b = s.below in
      let e = spot_empty d x t (drawn d d₂ w t x c r) c.childless s in
      ap (objects d) (c.old ∙ ap (plug w) s.before ∙ sym (plug_onward w s.way (node s.lefts x b s.rights)))
      ∙ objects_plug d sw (node s.lefts x b s.rights)
      ∙ rw e (simp (map-append, append_assoc))

  is_listed : objects d₂ (whole d₂) ≡ side_before ++ side_after
  is_listed =
      ap (objects d₂) (removed_whole d d₂ w t x c r)
      ∙ objects_kept d d₂ (plug w (without_node x t)) (λ y h. c.names y (still y h) (left_positive d d₂ w t x c r y h))
      ∙ ap (objects d) (ap (plug w) s.after ∙ sym (plug_onward w s.way (sides_joined s.lefts s.rights)))
      ∙ objects_plug d sw (sides_joined s.lefts s.rights)
      ∙ rw (joined_objects d s.lefts s.rights) (simp (map-append, append_assoc))
    where
      still : (y : ℕ) → 0 < count y (entries (plug w (without_node x t))) → y ≢ x
      still y h =
          elim (dec_lt 0 (count y (entries (without_node x t)))) [
            | yes k ↦ left_over d d₂ w t x c r y k
            | no k ↦ (outside d d₂ w t x c r y (omega (arith, count_plug y w (without_node x t)))).0
          ]

  pub removed_objects : OneMore d₂ d (record { path = way_names d w ++ (name (d.entry x) ∷ []); entry = x })
  removed_objects = record {
    before = side_before;
    after = side_after;
    less_objects = is_listed;
    more_objects = was_listed ∙ rw spot_names;
  }

-- ---- entries

pub less_entries : (d d₂ : Directory) (new : Object) (m : OneMore d d₂ new) → entries (whole d) ≡ map entry_of m.before ++ map entry_of m.after
less_entries d d₂ new m = sym (objects_entries d (whole d)) ∙ ap (map entry_of) m.less_objects ∙ map-append entry_of m.before m.after

pub more_entries : (d d₂ : Directory) (new : Object) (m : OneMore d d₂ new) → entries (whole d₂) ≡ map entry_of m.before ++ (new.entry ∷ map entry_of m.after)
more_entries d d₂ new m = sym (objects_entries d₂ (whole d₂)) ∙ ap (map entry_of) m.more_objects ∙ map-append entry_of m.before (new ∷ m.after)
