-- What stands below the entry that a path finds is what is listed with a path that goes on from it.
use Prim.Native.Nat.{ℕ}
use mathlib.Core.Path.{◌≡◌, refl, sym, ap, ◌∙◌}
use mathlib.Core.Logic.{inl, inr}
use mathlib.Core.Bool.{Bool, true, false, cond, and-false}
use mathlib.Core.List.{List, [], ◌∷◌, ◌++◌, map, append-nil}
use Rattle.format.specs.Layout.Name.{Name, name_equal}
use Rattle.format.specs.Layout.Entry.{name, is_stream}
use Rattle.format.specs.Layout.Directory.{Directory}
use Rattle.format.specs.Layout.Tree.{Forest, empty, broken, node, entries}
use Rattle.format.specs.Layout.PathOrder.{is_below}
use Rattle.format.specs.Rules.Trees.{every_node, sides_ordered}
use Rattle.format.specs.Calls.Find.{Child, missing, present, or_else, child_named, at, refused, found_child, enter, descend}
use Rattle.theory.specs.TreeViews.{child_of, whole}
use Rattle.theory.specs.TreeFind.{reached}
use Rattle.theory.specs.TreeObjects.{Object, prefixed, single, objects, streams_bare, beneath, found_below, Searched, gathered}
use Rattle.theory.proofs.Tests.{clash}
use Rattle.theory.proofs.Trees.Nodes.{shape_sound}
use Rattle.theory.proofs.Trees.Sides.{Sorted, sorted_apart}
use Rattle.theory.proofs.Trees.Draw.{sound_draws}
use Rattle.theory.proofs.Trees.Paths.{descend_refused}
use Rattle.theory.proofs.Trees.Insert.{either}
use Rattle.theory.proofs.Trees.Objects.{objects_entries, gathered_append}
use Rattle.theory.proofs.Trees.Meant.{found_equal, not_named, left_apart, right_apart, across_apart, child_node, bare_empty}
use Rattle.theory.proofs.Trees.Found.{all_bare}

-- what an object adds
abbrev own_beneath : List Name → Object → List ℕ
own_beneath ns o = cond (is_below ns o.path) (o.entry ∷ []) []

beneath_below : (n m : Name) (ns : List Name) (os : List Object) → beneath (n ∷ ns) (map (prefixed (m ∷ [])) os) ≡ cond (name_equal n m) (beneath ns os) []
unfolding gathered prefixed is_below
beneath_below n m ns [] = elim (either (name_equal n m)) [ inl h ↦ rw h | inr h ↦ rw h ]
beneath_below n m ns (o ∷ os) =
    elim (either (name_equal n m)) [
      | inl h ↦ rw (beneath_below n m ns os, h)
      | inr h ↦ rw (beneath_below n m ns os, h)
    ]

beneath_all : (m : Name) (os : List Object) → beneath [] (map (prefixed (m ∷ [])) os) ≡ map (λ (o : Object). o.entry) os
unfolding gathered prefixed is_below
beneath_all m [] = refl
beneath_all m (o ∷ os) = ap (λ (k : List ℕ). o.entry ∷ k) (beneath_all m os)

beneath_node : (d : Directory) (ns : List Name) (l : Forest) (e : ℕ) (b r : Forest)
    → beneath ns (objects d (node l e b r))
    ≡ beneath ns (objects d l) ++ (cond (is_below ns (name (d.entry e) ∷ [])) (e ∷ []) []
    ++ (beneath ns (map (prefixed (name (d.entry e) ∷ [])) (objects d b)) ++ beneath ns (objects d r)))
unfolding objects gathered
beneath_node d ns l e b r =
    let k = map (prefixed (name (d.entry e) ∷ [])) (objects d b) in
    gathered_append (own_beneath ns) (objects d l) (single d e ∷ (k ++ objects d r)) ∙ rw (gathered_append (own_beneath ns) k (objects d r))

-- every path goes on from no names
beneath_root : (d : Directory) (t : Forest) → beneath [] (objects d t) ≡ entries t
unfolding objects gathered is_below entries
beneath_root d empty = refl
beneath_root d broken = refl
beneath_root d (node l e b r) =
    beneath_node d [] l e b r
    ∙ rw (beneath_root d l, beneath_all (name (d.entry e)) (objects d b) ∙ objects_entries d b, beneath_root d r)

child_beneath : Directory → List Name → Child → List ℕ
child_beneath d ns missing = []
child_beneath d ns (present e b) = beneath ns (objects d b)

not_on : (ns : List Name) → is_below ns [] ≡ false
unfolding is_below
not_on [] = refl
not_on (n ∷ ns) = refl

beneath_child : (d : Directory) (n : Name) (ns : List Name) (t : Forest) → Sorted d t → beneath (n ∷ ns) (objects d t) ≡ child_beneath d ns (child_named d n t)
unfolding child_beneath child_named or_else is_below objects gathered
beneath_child d n ns empty s = refl
beneath_child d n ns broken s = refl
beneath_child d n ns (node l e b r) s =
    let u = sorted_apart d l e b r s in
    let m = name (d.entry e) in
    beneath_node d (n ∷ ns) l e b r
    ∙ rw (beneath_child d n ns l u.left_sorted, beneath_child d n ns r u.right_sorted, beneath_below n m ns (objects d b), not_on ns, and-false (name_equal n m))
    (go (name_equal n m) refl (child_named d n l) refl)
  where
    go : (q : Bool) → name_equal n (name (d.entry e)) ≡ q → (k : Child) → child_named d n l ≡ k
        → child_beneath d ns k ++ (cond q (beneath ns (objects d b)) [] ++ child_beneath d ns (child_named d n r))
        ≡ child_beneath d ns (or_else k (or_else (cond q (present e b) missing) (child_named d n r)))
    go true v missing w = rw (not_named d n r (right_apart d n ns l e b r s v)) (append-nil (beneath ns (objects d b)))
    go true v (present z c) w = let k = found_equal d n l z c w in absurd (clash k.1 (left_apart d n ns l e b r s v z k.0))
    go false v missing w = refl
    go false v (present z c) w =
        let k = found_equal d n l z c w in
        rw (not_named d n r (across_apart d n ns l e b r s z k.0 k.1)) (append-nil (beneath ns (objects d c)))

found_beneath : (d : Directory) (ns : List Name) (e : ℕ) (t : Forest) → Sorted d t → every_node (streams_bare d) t ≡ true
    → (is_stream (d.entry e) ≡ true → t ≡ empty) → found_below (descend d (at e t) ns) ≡ beneath ns (objects d t)
unfolding descend enter found_child found_below child_beneath objects gathered
found_beneath d [] e t s f z = sym (beneath_root d t)
found_beneath d (n ∷ ns) e t s f z =
    go (is_stream (d.entry e)) (child_named d n t) z refl (beneath_child d n ns t s) (λ y b. found_beneath d ns y b)
  where
    go : (st : Bool) (k : Child) → (st ≡ true → t ≡ empty) → child_named d n t ≡ k → beneath (n ∷ ns) (objects d t) ≡ child_beneath d ns (child_named d n t)
        → ((y : ℕ) (b : Forest) → Sorted d b → every_node (streams_bare d) b ≡ true → (is_stream (d.entry y) ≡ true → b ≡ empty)
        → found_below (descend d (at y b) ns) ≡ beneath ns (objects d b))
        → found_below (descend d (cond st (refused 22) (found_child k)) ns) ≡ beneath (n ∷ ns) (objects d t)
    go true k z c h r = rw (descend_refused d 22 ns, z refl)
    go false missing z c h r = rw (descend_refused d 21 ns) (sym (h ∙ ap (child_beneath d ns) c))
    go false (present y b) z c h r =
        let u = child_node d n (sides_ordered d) t y b c s in
        let v = child_node d n (streams_bare d) t y b c f in
        r y b u.3 v.3 (bare_empty d v.0 y b v.1 v.2) ∙ sym (h ∙ ap (child_beneath d ns) c)

-- from the root
pub finds_below : (d : Directory) → Searched d → (ns : List Name) → found_below (descend d (reached d 0) ns) ≡ beneath ns (objects d (whole d))
finds_below d s ns =
    found_beneath d ns 0 (whole d) s.rules.sorted
    (all_bare d (whole d) (sound_draws d (child_of d 0) (shape_sound d s.rules.shape)).0 s.leaves)
    (λ st. absurd (clash st s.root_plain_lem))
