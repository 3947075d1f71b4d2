-- The storages of demand 3 are gathered from the objects: with one object more there is one more of them, at its place, or none.
use Prim.Native.Nat.{ℕ, ◌<◌}
use mathlib.Core.Path.{◌≡◌, refl, sym, ap, ◌∙◌}
use mathlib.Core.Logic.{◌≢◌, inl, inr}
use mathlib.Core.Bool.{Bool, true, false}
use mathlib.Core.List.{List, [], ◌∷◌, ◌++◌, map, append_assoc}
use Rattle.format.specs.Basics.Lists.{any, count, without}
use Rattle.format.specs.Layout.Name.{Name}
use Rattle.format.specs.Layout.PathOrder.{insert, same_path}
use Rattle.format.specs.Layout.Entry.{name, is_storage}
use Rattle.format.specs.Layout.Directory.{Directory}
use Rattle.format.specs.Layout.Tree.{Forest, empty, broken, node, entries}
use Rattle.format.specs.History.Storages.{storages_in, has_storage}
use Rattle.format.specs.History.Step.{own_path}
use Rattle.format.specs.Claims.PathOrder.{rising}
use Rattle.theory.specs.TreeViews.{whole}
use Rattle.theory.specs.TreeOrder.{Rules}
use Rattle.theory.specs.TreeObjects.{Object, prefixed, single, objects, meant, OneMore, Searched, storage_of, storages_from, paths_where, some_storage, gathered}
use Rattle.theory.proofs.Trees.Insert.{either}
use Rattle.theory.proofs.Trees.Objects.{gathered_append}
use Rattle.theory.proofs.Trees.Rising.{objects_rising, rising_where}
use Rattle.theory.proofs.Trees.Gathered.{one_none, one_placed, one_dropped}

module _ (d : Directory) where
  storages_prefixed : (before p : List Name) (os : List Object) → storages_from d before (map (prefixed p) os) ≡ storages_from d (before ++ p) os
  unfolding gathered storage_of prefixed
  storages_prefixed before p [] = refl
  storages_prefixed before p (o ∷ os) = rw (storages_prefixed before p os, append_assoc before p o.path)

  pub storages_objects : (before : List Name) (t : Forest) → storages_in d before t ≡ storages_from d before (objects d t)
  unfolding storages_in objects gathered storage_of
  storages_objects before empty = refl
  storages_objects before broken = refl
  storages_objects before (node l e b r) =
      let m = name (d.entry e) in
      let k = map (prefixed (m ∷ [])) (objects d b) in
      rw (
        storages_objects before l,
        storages_objects (before ++ (m ∷ [])) b,
        storages_objects before r,
        gathered_append (storage_of d before) (objects d l) (single d e ∷ (k ++ objects d r)),
        gathered_append (storage_of d before) k (objects d r),
        storages_prefixed before (m ∷ []) (objects d b),
      )
      (simp append_assoc)

  pub storage_one : (o : Object) → is_storage (d.entry o.entry) ≡ true → storage_of d [] o ≡ o.path ∷ []
  unfolding storage_of
  storage_one o h = rw h

  pub storage_none : (o : Object) → is_storage (d.entry o.entry) ≡ false → storage_of d [] o ≡ []
  unfolding storage_of
  storage_none o h = rw h

  -- names mean a storage exactly if one of the entries that they mean is one
  pub storage_meant : (ns : List Name) (os : List Object) → has_storage (storages_from d [] os) ns ≡ some_storage d (meant ns os)
  unfolding has_storage any gathered some_storage
  storage_meant ns [] = refl
  storage_meant ns (o ∷ os) =
      let i = storage_meant ns os in
      elim (either (is_storage (d.entry o.entry))) [
        | inl s ↦ elim (either (same_path ns o.path)) [ inl q ↦ rw (storage_one o s, q, s) | inr q ↦ rw (storage_one o s, q, i) ]
        | inr s ↦ elim (either (same_path ns o.path)) [ inl q ↦ rw (storage_none o s, q, s, i) | inr q ↦ rw (storage_none o s, q, i) ]
      ]

  storage_object : Object → Bool
  storage_object o = is_storage (d.entry o.entry)

  storage_paths : (os : List Object) → storages_from d [] os ≡ paths_where storage_object os
  unfolding gathered storage_of storage_object
  storage_paths [] = refl
  storage_paths (o ∷ os) = rw (storage_paths os)

  storages_rising : Rules d → rising (storages_from d [] (objects d (whole d))) ≡ true
  storages_rising r =
      ap rising (storage_paths (objects d (whole d))) ∙ rising_where storage_object (objects d (whole d)) (objects_rising d (whole d) r.sorted)

  -- a path that names do not mean stays, one that they mean goes
  storage_kept : (ns : List Name) (o : Object) → same_path ns o.path ≡ false → without (same_path ns) (storage_of d [] o) ≡ storage_of d [] o
  unfolding without
  storage_kept ns o h = elim (either (is_storage (d.entry o.entry))) [ inl s ↦ rw (storage_one o s, h) | inr s ↦ rw (storage_none o s) ]

  storage_gone : (ns : List Name) (o : Object) → same_path ns o.path ≡ true → without (same_path ns) (storage_of d [] o) ≡ []
  unfolding without
  storage_gone ns o h = elim (either (is_storage (d.entry o.entry))) [ inl s ↦ rw (storage_one o s, h) | inr s ↦ rw (storage_none o s) ]

map_self : (ps : List (List Name)) → map own_path ps ≡ ps
map_self [] = refl
map_self (p ∷ ps) = ap (λ (k : List (List Name)). p ∷ k) (map_self ps)

-- ---- two directories

module _ (d d₂ : Directory) (new : Object) (m : OneMore d d₂ new) (r₂ : Rules d₂)
    (same : (y : ℕ) → y ≢ new.entry → is_storage (d₂.entry y) ≡ is_storage (d.entry y)) where
  storage_same : (o : Object) → o.entry ≢ new.entry → 0 < count o.entry (entries (whole d)) → storage_of d₂ [] o ≡ storage_of d [] o
  unfolding storage_of
  storage_same o q c = rw (same o.entry q)

  -- a stream is no storage
  pub stream_storages : is_storage (d₂.entry new.entry) ≡ false → storages_in d₂ [] (whole d₂) ≡ storages_in d [] (whole d)
  stream_storages h =
      storages_objects d₂ [] (whole d₂) ∙ one_none d d₂ (storage_of d []) (storage_of d₂ []) new m r₂ storage_same (storage_none d₂ new h) ∙ sym (storages_objects d [] (whole d))

  -- a storage's path stands at its place
  pub storage_storages : is_storage (d₂.entry new.entry) ≡ true → storages_in d₂ [] (whole d₂) ≡ insert own_path new.path (storages_in d [] (whole d))
  storage_storages h =
      storages_objects d₂ [] (whole d₂)
      ∙ one_placed d d₂ (storage_of d []) (storage_of d₂ []) new m r₂ storage_same own_path new.path (storage_one d₂ new h)
      (ap rising (map_self (storages_from d₂ [] (objects d₂ (whole d₂)))) ∙ storages_rising d₂ r₂)
      ∙ ap (insert own_path new.path) (sym (storages_objects d [] (whole d)))

  -- what a removal does to the storages
  pub storages_without : Searched d₂ → (ns : List Name) → same_path ns new.path ≡ true → storages_in d [] (whole d) ≡ without (same_path ns) (storages_in d₂ [] (whole d₂))
  storages_without s₂ ns h =
      storages_objects d [] (whole d)
      ∙ one_dropped d d₂ (storage_of d []) (storage_of d₂ []) new m r₂ storage_same s₂ (same_path ns) ns h (storage_kept d ns) (storage_gone d₂ ns new h)
      ∙ ap (without (same_path ns)) (sym (storages_objects d₂ [] (whole d₂)))
