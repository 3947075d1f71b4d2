-- A removal that answers 0: where the object stands, and the image.
use Prim.Native.Nat.{ℕ, ◌<◌}
use mathlib.Core.Path.{◌≡◌, refl, sym, ap, ap₂, ◌∙◌, subst}
use mathlib.Core.Logic.{◌≢◌, inl, inr}
use mathlib.Core.Bool.{Bool, true, false, not, cond, ◌&&◌}
use mathlib.Core.List.{List, [], ◌∷◌, ◌++◌}
use native.Mathlib.Omega.{arith}
use lib.Dec.{eqb}
use borrow.Author.Tests.{eq-eqb}
use Rattle.format.specs.Basics.Bytes.{Bytes}
use Rattle.format.specs.Layout.Geometry.{Geometry}
use Rattle.format.specs.Layout.Name.{Name}
use Rattle.format.specs.Layout.PathOrder.{same_path}
use Rattle.format.specs.Layout.Entry.{NOSTREAM, name, is_storage, is_stream}
use Rattle.format.specs.Layout.Directory.{Directory}
use Rattle.format.specs.Layout.Tree.{Forest, empty, broken, node, forest, is_empty}
use Rattle.format.specs.Layout.Siblings.{top}
use Rattle.format.specs.Layout.Volume.{Volume, volume}
use Rattle.format.specs.Layout.Stream.{stream_size}
use Rattle.format.specs.Rules.Trees.{is_object}
use Rattle.format.specs.Rules.Verdict.{Accepted}
use Rattle.format.specs.Calls.Paths.{Path, names, well_formed, names_before, last_name}
use Rattle.format.specs.Calls.Find.{Found, at as found_at, refused, descend, resolve, entry_of, need_parent, resolve_parent, below_of}
use Rattle.format.specs.Calls.Remove.{entry_removed_at, entry_removed}
use Rattle.format.specs.Calls.Answer.{remove_answer}
use Rattle.theory.specs.TreeViews.{child_of}
use Rattle.theory.specs.TreeFind.{reached}
use Rattle.theory.specs.TreeObjects.{way_names, Searched}
use Rattle.theory.proofs.Tests.{clash}
use Rattle.theory.proofs.Refusals.{RefusedLow, resolve_low, found_refused}
use Rattle.theory.proofs.LastNames.{names_last}
use Rattle.theory.proofs.Trees.Rules.{rules_apart}
use Rattle.theory.proofs.Trees.Paths.{resolve_formed, parent_formed}
use Rattle.theory.proofs.Trees.Insert.{either}
use Rattle.theory.proofs.Trees.Meant.{found_equal}
use Rattle.theory.proofs.Trees.Found.{found_object}
use Rattle.theory.proofs.Trees.PathWays.{found_slot}
use Rattle.theory.proofs.Trees.AtPath.{descend_last, enter_found, same_path_last}
use Rattle.frame.specs.Good.{Good}
use Rattle.frame.specs.Frame.{Frame}
use Rattle.frame.specs.Place.{MayRemove, Parent, Erasing}
use Rattle.frame.proofs.EntryFacts.{entry_fields_lem, stream_fields_of, stream_fields_say, object_kinds, good_searched}
use Rattle.frame.proofs.RemovedFacts.{way}

formed_of : (d : Directory) (p : Path) (x : ℕ) (b : Forest) → resolve d p ≡ found_at x b → well_formed p ≡ true
unfolding resolve
formed_of d p x b h = go (well_formed p) h
  where
    go : (t : Bool) → cond t (descend d (found_at 0 (forest d)) (names p)) (refused 20) ≡ found_at x b → t ≡ true
    go true h = refl
    go false h = absurd (found_refused x b 20 (sym h))

emptied_of : (k : Forest) → not (is_empty k) ≡ false → k ≡ empty
unfolding is_empty
emptied_of empty h = refl
emptied_of broken h = absurd (clash refl h)
emptied_of (node l e b r) h = absurd (clash refl h)

-- the image by that place
pub removed_image : (v : Volume) (img : Bytes) (p : Path) (s : ℕ) (t : Forest) (x : ℕ) (b : Forest) → resolve_parent v.directory p ≡ found_at s t → resolve v.directory p ≡ found_at x b
    → entry_removed_at v img s t x ≡ entry_removed v img p
unfolding entry_removed entry_of below_of
removed_image v img p s t x b h k = ap₂ (λ (f e : Found). entry_removed_at v img (entry_of f) (below_of f) (entry_of e)) (sym h) (sym k)

pub may_remove_lem : (d : Directory) (p : Path) → remove_answer d (resolve d p) ≡ 0 → MayRemove d p
unfolding remove_answer
may_remove_lem d p h = go (resolve d p) refl (resolve_low d p) h
  where
    test : (x : ℕ) (b : Forest) → resolve d p ≡ found_at x b → (t : Bool) → (is_storage (d.entry x) && not (is_empty b)) ≡ t → cond {A = ℕ} t 28 (cond (eqb x 0) 31 0) ≡ 0 → MayRemove d p
    test x b q true e h = absurd (omega arith)
    test x b q false e h =
        record {
          x = x;
          b = b;
          formed = formed_of d p x b q;
          found = q;
          below = λ st. bare b (rw st at e);
          real = λ z. omega (arith, rw (eq-eqb x 0 z) at h);
        }
      where
        bare : (k : Forest) → (true && not (is_empty k)) ≡ false → k ≡ empty
        bare k q = emptied_of k q

    go : (f : Found) → resolve d p ≡ f → RefusedLow f → remove_answer d f ≡ 0 → MayRemove d p
    go (refused a) q l h = absurd (omega (arith, l.0))
    go (found_at x b) q l h = test x b q (is_storage (d.entry x) && not (is_empty b)) refl h

names_some : (d : Directory) (p : Path) → MayRemove d p → names p ≢ []
unfolding descend
names_some d p q e =
    let h = sym (resolve_formed d p q.formed ∙ ap (descend d (reached d 0)) e) ∙ q.found in
    let z : 0 ≡ q.x = cc in
    q.real (sym z)

parent_is : (d : Directory) (p : Path) (s : ℕ) (t : Forest) → well_formed p ≡ true → descend d (reached d 0) (names_before p) ≡ found_at s t → is_stream (d.entry s) ≡ false
    → resolve_parent d p ≡ found_at s t
unfolding need_parent
parent_is d p s t w l st = parent_formed d p w ∙ ap (need_parent d) l ∙ rw st

object_at_lem : (d : Directory) → Searched d → (l : List Name) → l ≢ [] → (e : ℕ) (b : Forest) → descend d (reached d 0) l ≡ found_at e b → (is_object d e ≡ true) × (e < d.count)
object_at_lem d s [] h e b q = absurd (h refl)
object_at_lem d s (n ∷ ns) h e b q = found_object d s n ns e b q

-- the storage or the root that it stands in
pub parent_of : (d : Directory) (p : Path) (q : MayRemove d p) → Parent d p q.x q.b
parent_of d p q =
    let h = sym (resolve_formed d p q.formed ∙ ap (descend d (reached d 0)) (names_last p (names_some d p q)) ∙ descend_last d (reached d 0) (names_before p) (last_name p)) ∙ q.found in
    let e = enter_found d (descend d (reached d 0) (names_before p)) (last_name p) q.x q.b h in
    record { s = e.0; t = e.1; led = e.2; plain = e.3; own = e.4; parent = parent_is d p e.0 e.1 q.formed e.2 e.3 }

-- what the edit needs, where the object has no units
module _ (g : Geometry) (fr : Frame g) (img : Bytes) (acc : Accepted g img) (good : Good (volume g img)) (p : Path) (q : MayRemove (volume g img).directory p)
    (bare : is_stream ((volume g img).directory.entry q.x) ≡ true → stream_size (volume g img) q.x ≡ 0) where
  abbrev d : Directory
  d = (volume g img).directory

  abbrev k : Parent d p q.x q.b
  k = parent_of d p q

  path_found : descend d (reached d 0) (names p) ≡ found_at q.x q.b
  path_found = sym (resolve_formed d p q.formed) ∙ q.found

  object : (is_object d q.x ≡ true) × (q.x < d.count)
  object = object_at_lem d (good_searched g img good) (names p) (names_some d p q) q.x q.b path_found

  childless : child_of d q.x ≡ NOSTREAM
  childless =
      let a = d.entry q.x in
      elim (either (is_stream a)) [
        | inl st ↦ (stream_fields_say a (stream_fields_of a q.x (entry_fields_lem good q.x object.1) st)).1
        | inr st ↦
            found_slot d (rules_apart d good.trees) (names p) q.x q.b path_found
            ∙ ap top (q.below (object_kinds (d.entry q.x) object.0 ∙ ap not st))
      ]

  pub erasing : Erasing g img (last_name p) (names_before p) k.s k.t q.x q.b
  erasing =
      record {
        good = good;
        led = k.led;
        plain = k.plain;
        child = k.own;
        childless = childless;
        bare = bare;
        few = fr.entries_few img acc;
        long = fr.entry_long img acc;
      }

  -- its path is the call's
  pub own_path_lem : same_path (names p) (way_names d (way erasing).way ++ (name (d.entry q.x) ∷ [])) ≡ true
  own_path_lem =
      subst (λ (l : List Name). same_path l (way_names d (way erasing).way ++ (name (d.entry q.x) ∷ [])) ≡ true)
      (sym (names_last p (names_some d p q)))
      (same_path_last (names_before p) (way_names d (way erasing).way) (last_name p) (name (d.entry q.x))
      (way erasing).spelled (found_equal d (last_name p) k.t q.x q.b k.own).1)
