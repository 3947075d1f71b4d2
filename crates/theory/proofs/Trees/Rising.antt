-- The objects of a sorted forest rise by their paths, and some of them do; where something is inserted is then known from its path alone.
use mathlib.Core.Path.{◌≡◌, refl, sym, ap, ◌∙◌}
use mathlib.Core.Logic.{inl, inr}
use mathlib.Core.Bool.{Bool, true, ◌&&◌}
use mathlib.Core.List.{List, [], ◌∷◌, ◌++◌, map, map-append}
use Rattle.format.specs.Basics.Lists.{all}
use Rattle.format.specs.Layout.Name.{Name}
use Rattle.format.specs.Layout.Entry.{name}
use Rattle.format.specs.Layout.PathOrder.{path_less, insert}
use Rattle.format.specs.Layout.Directory.{Directory}
use Rattle.format.specs.Layout.Tree.{Forest, empty, broken, node}
use Rattle.format.specs.Claims.PathOrder.{rising}
use Rattle.theory.specs.TreePaths.{arranged, paths_in}
use Rattle.theory.specs.TreeObjects.{Object, object_path, prefixed, objects, paths_where, gathered}
use Rattle.theory.proofs.Tests.{both, all_append}
use Rattle.theory.proofs.Trees.Sides.{Sorted}
use Rattle.theory.proofs.Trees.PathOrder.{path_asym}
use Rattle.theory.proofs.Trees.PathsRise.{paths_rise}
use Rattle.theory.proofs.Trees.Insert.{either}
use Rattle.theory.proofs.Trees.Objects.{prefixed_none, prefixed_twice}

-- ---- the objects rise

object_paths_in : (d : Directory) (before : List Name) (t : Forest) → map object_path (map (prefixed before) (objects d t)) ≡ paths_in d before t
unfolding objects paths_in arranged prefixed
object_paths_in d before empty = refl
object_paths_in d before broken = refl
object_paths_in d before (node l e b r) =
    let m = name (d.entry e) ∷ [] in
    simp (
      map-append,
      prefixed_twice before m (objects d b),
      object_paths_in d before l,
      object_paths_in d (before ++ m) b,
      object_paths_in d before r,
    )

pub objects_rising : (d : Directory) (t : Forest) → Sorted d t → rising (map object_path (objects d t)) ≡ true
objects_rising d t s =
    ap (λ os. rising (map object_path os)) (sym (prefixed_none (objects d t)))
    ∙ ap rising (object_paths_in d [] t) ∙ paths_rise d [] t s

-- ---- those that pass a test

module _ (p : Object → Bool) where
  all_where : (q : List Name → Bool) (os : List Object) → all q (map object_path os) ≡ true → all q (paths_where p os) ≡ true
  unfolding all gathered
  all_where q [] h = refl
  all_where q (o ∷ os) h =
      let u = both (q o.path) (all q (map object_path os)) h in
      elim (either (p o)) [ inl s ↦ rw (s, u.0) (all_where q os u.1) | inr s ↦ rw s (all_where q os u.1) ]

  pub rising_where : (os : List Object) → rising (map object_path os) ≡ true → rising (paths_where p os) ≡ true
  unfolding rising gathered
  rising_where [] h = refl
  rising_where (o ∷ os) h =
      let u = both (all (path_less o.path) (map object_path os)) (rising (map object_path os)) h in
      elim (either (p o)) [
        | inl s ↦ rw (s, all_where (path_less o.path) os u.0) (rising_where os u.1)
        | inr s ↦ rw s (rising_where os u.1)
      ]

-- ---- insertion

-- a list that rises with x in it is made by inserting x
pub insert_place : {A : Type 0} (f : A → List Name) (x : A) (xs ys : List A) → rising (map f (xs ++ (x ∷ ys))) ≡ true → insert f x (xs ++ ys) ≡ xs ++ (x ∷ ys)
unfolding insert rising all
insert_place f x [] [] r = refl
insert_place f x [] (y ∷ ys) r =
    let u = both (all (path_less (f x)) (map f (y ∷ ys))) (rising (map f (y ∷ ys))) r in
    let v = both (path_less (f x) (f y)) (all (path_less (f x)) (map f ys)) u.0 in
    rw v.0
insert_place f x (z ∷ xs) ys r =
    let p = path_less (f z) in
    let u = both (all p (map f (xs ++ (x ∷ ys)))) (rising (map f (xs ++ (x ∷ ys)))) r in
    let v = both (all p (map f xs)) (p (f x) && all p (map f ys)) (sym (ap (all p) (map-append f xs (x ∷ ys)) ∙ all_append p (map f xs) (f x ∷ map f ys)) ∙ u.0) in
    rw (path_asym (f z) (f x) (both (p (f x)) (all p (map f ys)) v.1).0, insert_place f x xs ys u.1)
