-- The storages that a path goes through are listed, and so the path can be spelled as they are.
use Prim.Native.Nat.{ℕ, ◌<◌}
use mathlib.Core.Path.{◌≡◌, refl, sym, ap, ◌∙◌}
use mathlib.Core.Logic.{◌⊎◌, inl, inr}
use mathlib.Core.Bool.{true}
use mathlib.Core.List.{List, [], ◌∷◌, ◌++◌, map, map-append, append_assoc}
use native.Mathlib.Omega.{arith}
use lib.ListN.{length, length-append}
use Rattle.format.specs.Layout.Name.{Name}
use Rattle.format.specs.Layout.Entry.{Field, left_field, child_field, right_field, name, is_storage}
use Rattle.format.specs.Layout.Directory.{Directory}
use Rattle.format.specs.Layout.PathOrder.{same_path}
use Rattle.format.specs.History.Storages.{storages_in, spelled}
use Rattle.theory.specs.TreeViews.{whole}
use Rattle.theory.specs.TreeWays.{Way, here, into_left, into_child, into_right, slot_field, slot_entry}
use Rattle.theory.specs.TreeObjects.{Object, prefixed, single, objects, objects_before, way_names, gathered, meant, Searched, storage_of, storages_from}
use Rattle.theory.proofs.Trees.Ways.{left_child, child_right}
use Rattle.theory.proofs.Trees.Insert.{either}
use Rattle.theory.proofs.Trees.Objects.{gathered_append}
use Rattle.theory.proofs.Trees.Meant.{own_meant}
use Rattle.theory.proofs.Trees.Found.{meant_few}
use Rattle.theory.proofs.Trees.Storages.{storages_objects, storage_one, storage_none}

-- o stands in a list
pub record Listed (all : List Object) (o : Object) : Type 0 where
  pub before : List Object
  pub after : List Object
  pub is : all ≡ before ++ (o ∷ after)

-- a way that ends at a child field is no step, or goes through the entry of that field
pub way_listed : (d : Directory) (w : Way) (k : Field) (x : ℕ) → slot_field w k ≡ child_field
    → ((way_names d w ≡ []) × (slot_entry w x ≡ x) × (k ≡ child_field)) ⊎ (Listed (objects_before d w) (record { path = way_names d w; entry = slot_entry w x }))
unfolding objects_before way_names prefixed
way_listed d here k x h = inl (refl, refl, h)
way_listed d (into_left w e b r) k x h =
    elim (way_listed d w left_field e h) [
      | inl q ↦ absurd (left_child q.2)
      | inr q ↦ inr q
    ]
way_listed d (into_right l e b w) k x h =
    elim (way_listed d w right_field e h) [
      | inl q ↦ absurd (child_right (sym q.2))
      | inr q ↦
          let m = map (prefixed (name (d.entry e) ∷ [])) (objects d b) in
          inr (record {
            before = objects d l ++ (single d e ∷ (m ++ q.before));
            after = q.after;
            is = ap (λ (t : List Object). objects d l ++ (single d e ∷ (m ++ t))) q.is ∙ simp append_assoc;
          })
    ]
way_listed d (into_child l e w r) k x h =
    elim (way_listed d w child_field e h) [
      | inl q ↦
          inr (record {
            before = objects d l;
            after = map (prefixed (name (d.entry e) ∷ [])) (objects_before d w);
            is = rw (q.0, q.1);
          })
      | inr q ↦ inr (deeper q)
    ]
  where
    deeper : Listed (objects_before d w) (record { path = way_names d w; entry = slot_entry w e })
        → Listed (objects d l ++ (single d e ∷ map (prefixed (name (d.entry e) ∷ [])) (objects_before d w))) (record { path = name (d.entry e) ∷ way_names d w; entry = slot_entry w e })
    deeper q =
        let f = prefixed (name (d.entry e) ∷ []) in
        record {
          before = objects d l ++ (single d e ∷ map f q.before);
          after = map f q.after;
          is = ap (λ (t : List Object). objects d l ++ (single d e ∷ t)) (ap (map f) q.is ∙ map-append f q.before (record { path = way_names d w; entry = slot_entry w e } ∷ q.after)) ∙ simp append_assoc;
        }

-- ---- the spelling

module _ (d : Directory) (ns : List Name) where
  pub spelled_on : (os : List Object) (more : List (List Name)) → meant ns os ≡ [] → spelled (storages_from d [] os ++ more) ns ≡ spelled more ns
  unfolding spelled gathered
  spelled_on [] more h = refl
  spelled_on (o ∷ os) more h =
      elim (either (same_path ns o.path)) [
        | inl k ↦ let z : ◌≡◌ {A = ℕ} 0 1 = clashing (rw k at h) in absurd (omega arith)
        | inr k ↦
            let i = spelled_on os more (rw k at h) in
            elim (either (is_storage (d.entry o.entry))) [
              | inl s ↦ rw (storage_one d o s, k) i
              | inr s ↦ rw (storage_none d o s) i
            ]
      ]
    where
      clashing : (o.entry ∷ []) ++ meant ns os ≡ [] → ◌≡◌ {A = ℕ} 0 1
      clashing q = cc

  no_length : (xs : List ℕ) → length xs ≡ 0 → xs ≡ []
  no_length [] h = refl
  no_length (x ∷ xs) h = absurd (omega arith)

  pub spelled_listed : Searched d → (o : Object) → Listed (objects d (whole d)) o → same_path ns o.path ≡ true → is_storage (d.entry o.entry) ≡ true
      → spelled (storages_in d [] (whole d)) ns ≡ o.path
  unfolding gathered spelled
  spelled_listed s o q h st =
      let few = meant_few d s ns in
      let e = ap (meant ns) q.is ∙ gathered_append (own_meant ns) q.before (o ∷ q.after) in
      let z : meant ns q.before ≡ [] =
      no_length (meant ns q.before) (omega (arith, few, ap length e, length-append (meant ns q.before) (meant ns (o ∷ q.after)), own)) in
      ap (λ (t : List (List Name)). spelled t ns) (storages_objects d [] (whole d) ∙ ap (storages_from d []) q.is ∙ parts)
      ∙ spelled_on q.before (storages_from d [] (o ∷ q.after)) z
      ∙ rw (storage_one d o st, h)
    where
      own : 0 < length (meant ns (o ∷ q.after))
      own = rw h (omega arith)

      parts : storages_from d [] (q.before ++ (o ∷ q.after)) ≡ storages_from d [] q.before ++ storages_from d [] (o ∷ q.after)
      parts = gathered_append (storage_of d []) q.before (o ∷ q.after)
