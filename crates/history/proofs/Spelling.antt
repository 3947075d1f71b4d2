-- The storage that names lead to is spelled as the state has it.
use Prim.Native.Nat.{ℕ, ◌<◌}
use mathlib.Core.Path.{◌≡◌, refl, sym, ap, ◌∙◌, subst}
use mathlib.Core.Logic.{◌⊎◌, inl, inr}
use mathlib.Core.Bool.{true, false, not}
use mathlib.Core.List.{List, [], ◌∷◌, ◌++◌, map, map-append, append_assoc, append-nil}
use native.Mathlib.Omega.{arith}
use Rattle.format.specs.Basics.Lists.{count}
use Rattle.format.specs.Layout.Name.{Name}
use Rattle.format.specs.Layout.Entry.{child_field, is_storage, is_stream}
use Rattle.format.specs.Layout.Directory.{Directory}
use Rattle.format.specs.Layout.Tree.{Forest, entries}
use Rattle.format.specs.Layout.PathOrder.{same_path}
use Rattle.format.specs.Calls.Find.{descend, at as found_at}
use Rattle.format.specs.History.Storages.{storages_in, spelled}
use Rattle.theory.specs.TreeViews.{whole}
use Rattle.theory.specs.TreeFind.{reached}
use Rattle.theory.specs.TreeOrder.{Rules}
use Rattle.theory.specs.TreeWays.{slot_entry}
use Rattle.theory.specs.TreeObjects.{Object, entry_of, objects, objects_before, objects_after, prefixed, way_names, PathWay, Searched, storages_from}
use Rattle.theory.proofs.Counts.{bit_self, count_append}
use Rattle.theory.proofs.Tests.{clash}
use Rattle.theory.proofs.Trees.Objects.{objects_plug, objects_entries}
use Rattle.theory.proofs.Trees.Meant.{meant_root}
use Rattle.theory.proofs.Trees.PathWays.{root_way}
use Rattle.theory.proofs.Trees.Storages.{storages_objects}
use Rattle.theory.proofs.Trees.Spelled.{Listed, way_listed, spelled_on, spelled_listed}
use Rattle.theory.proofs.Trees.Nodes.{reached_object}
use Rattle.frame.proofs.EntryFacts.{object_kinds}

spelled_nothing : spelled [] [] ≡ []
unfolding spelled
spelled_nothing = refl

module _ (d : Directory) (s : Searched d) where
  pub spelled_way : (r : Rules d) (ns : List Name) (e : ℕ) (b : Forest) → (h : descend d (reached d 0) ns ≡ found_at e b) → is_stream (d.entry e) ≡ false
      → spelled (storages_in d [] (whole d)) ns ≡ way_names d (root_way d r ns e b h).way
  unfolding same_path
  spelled_way r ns e b h st = go (way_listed d w.way child_field 0 w.ends)
    where
      w : PathWay d 0 (whole d) ns e b
      w = root_way d r ns e b h

      no_names : (qs : List Name) → same_path qs [] ≡ true → qs ≡ []
      no_names [] k = refl
      no_names (q ∷ qs) k = absurd (clash k refl)

      none : ns ≡ [] → spelled (storages_in d [] (whole d)) ns ≡ []
      none q =
          ap (spelled (storages_in d [] (whole d))) q
          ∙ ap (λ (t : List (List Name)). spelled t []) (storages_objects d [] (whole d) ∙ sym (append-nil (storages_from d [] (objects d (whole d)))))
          ∙ spelled_on d [] (objects d (whole d)) [] (meant_root d (whole d))
          ∙ spelled_nothing

      listed : Listed (objects_before d w.way) (record { path = way_names d w.way; entry = slot_entry w.way 0 })
          → Listed (objects d (whole d)) (record { path = way_names d w.way; entry = slot_entry w.way 0 })
      listed q =
          record {
            before = q.before;
            after = q.after ++ (map (prefixed (way_names d w.way)) (objects d b) ++ objects_after d w.way);
            is = ap (objects d) w.tree ∙ objects_plug d w.way b
                ∙ ap (λ (t : List Object). t ++ (map (prefixed (way_names d w.way)) (objects d b) ++ objects_after d w.way)) q.is ∙ simp append_assoc;
          }

      storage_at : Listed (objects d (whole d)) (record { path = way_names d w.way; entry = slot_entry w.way 0 }) → is_storage (d.entry (slot_entry w.way 0)) ≡ true
      storage_at q =
          let x = slot_entry w.way 0 in
          let a = ap (count x) (sym (objects_entries d (whole d)) ∙ ap (map entry_of) q.is ∙ map-append entry_of q.before (record { path = way_names d w.way; entry = x } ∷ q.after)) in
          let c = count_append x (map entry_of q.before) (x ∷ map entry_of q.after) in
          let k : 0 < count x (entries (whole d)) = omega (arith, a, c, bit_self x) in
          object_kinds (d.entry x) (reached_object d s.rules.shape x k) ∙ ap not (ap (λ (i : ℕ). is_stream (d.entry i)) w.owner ∙ st)

      go : ((way_names d w.way ≡ []) × (slot_entry w.way 0 ≡ 0) × (child_field ≡ child_field)) ⊎ (Listed (objects_before d w.way) (record { path = way_names d w.way; entry = slot_entry w.way 0 }))
          → spelled (storages_in d [] (whole d)) ns ≡ way_names d w.way
      go (inl q) = none (no_names ns (subst (λ (t : List Name). same_path ns t ≡ true) q.0 w.spelled)) ∙ sym q.0
      go (inr q) = spelled_listed d ns s (record { path = way_names d w.way; entry = slot_entry w.way 0 }) (listed q) w.spelled (storage_at (listed q))
