-- A path finds exactly the object that it means: in a sorted forest the descent by names and the listed paths agree.
use Prim.Native.Nat.{ℕ, ◌<◌}
use mathlib.Core.Path.{◌≡◌, refl, sym, ap, ◌∙◌, subst, subst₂}
use mathlib.Core.Logic.{inl, inr}
use mathlib.Core.Bool.{Bool, true, false, cond, ◌&&◌}
use mathlib.Core.List.{List, [], ◌∷◌, ◌++◌, map, append-nil}
use native.Mathlib.Omega.{arith}
use lib.Dec.{eqb}
use Rattle.format.specs.Basics.Lists.{bit, count}
use Rattle.format.specs.Layout.Name.{Name, name_equal}
use Rattle.format.specs.Layout.Entry.{name, is_stream}
use Rattle.format.specs.Layout.Directory.{Directory}
use Rattle.format.specs.Layout.Tree.{Forest, empty, broken, node, siblings, is_empty}
use Rattle.format.specs.Layout.PathOrder.{same_path}
use Rattle.format.specs.Rules.Trees.{less, greater, sides_ordered, every_node}
use Rattle.format.specs.Calls.Find.{Child, missing, present, or_else, child_named, at, refused, found_child, enter, descend}
use Rattle.theory.specs.TreeViews.{NodeTest}
use Rattle.theory.specs.TreeObjects.{Object, prefixed, single, objects, meant, found_entries, streams_bare, gathered}
use Rattle.theory.proofs.Counts.{bit_self}
use Rattle.theory.proofs.Tests.{clash, all_at}
use Rattle.theory.proofs.Trees.Nodes.{every_node_apart}
use Rattle.theory.proofs.Trees.Sides.{Sorted, sorted_apart}
use Rattle.theory.proofs.Trees.Names.{names_ordered}
use Rattle.theory.proofs.Trees.Find.{less_differs, more_differs}
use Rattle.theory.proofs.Trees.Paths.{descend_refused}
use Rattle.theory.proofs.Trees.Faces.{count_siblings_node}
use Rattle.theory.proofs.Trees.Insert.{either}
use Rattle.theory.proofs.Trees.Objects.{gathered_append}

-- ---- what names mean among objects

-- what an object adds
abbrev pub own_meant : List Name → Object → List ℕ
own_meant ns o = cond (same_path ns o.path) (o.entry ∷ []) []

meant_below : (n m : Name) (ns : List Name) (os : List Object) → meant (n ∷ ns) (map (prefixed (m ∷ [])) os) ≡ cond (name_equal n m) (meant ns os) []
unfolding gathered prefixed same_path
meant_below n m ns [] = elim (either (name_equal n m)) [ inl h ↦ rw h | inr h ↦ rw h ]
meant_below n m ns (o ∷ os) =
    elim (either (name_equal n m)) [
      | inl h ↦ rw (meant_below n m ns os, h)
      | inr h ↦ rw (meant_below n m ns os, h)
    ]

meant_none : (m : Name) (os : List Object) → meant [] (map (prefixed (m ∷ [])) os) ≡ []
unfolding gathered prefixed same_path
meant_none m [] = refl
meant_none m (o ∷ os) = meant_none m os

meant_node : (d : Directory) (ns : List Name) (l : Forest) (e : ℕ) (b r : Forest)
    → meant ns (objects d (node l e b r))
    ≡ meant ns (objects d l) ++ (cond (same_path ns (name (d.entry e) ∷ [])) (e ∷ []) []
    ++ (meant ns (map (prefixed (name (d.entry e) ∷ [])) (objects d b)) ++ meant ns (objects d r)))
unfolding objects gathered
meant_node d ns l e b r =
    let k = map (prefixed (name (d.entry e) ∷ [])) (objects d b) in
    gathered_append (own_meant ns) (objects d l) (single d e ∷ (k ++ objects d r)) ∙ rw (gathered_append (own_meant ns) k (objects d r))

-- no names mean no object
pub meant_root : (d : Directory) (t : Forest) → meant [] (objects d t) ≡ []
unfolding objects gathered same_path
meant_root d empty = refl
meant_root d broken = refl
meant_root d (node l e b r) = meant_node d [] l e b r ∙ rw (meant_root d l, meant_none (name (d.entry e)) (objects d b), meant_root d r)

-- ---- the child of a name

-- what every node passes, that child passes, and every node below it
pub child_node : (d : Directory) (n : Name) (q : NodeTest) (t : Forest) (z : ℕ) (c : Forest) → child_named d n t ≡ present z c → every_node q t ≡ true
    → (l : Forest) × (r : Forest) × (q l z c r ≡ true) × (every_node q c ≡ true)
unfolding child_named or_else
child_node d n q empty z c h s = let k : ◌≡◌ {A = ℕ} 0 1 = cc in absurd (omega arith)
child_node d n q broken z c h s = let k : ◌≡◌ {A = ℕ} 0 1 = cc in absurd (omega arith)
child_node d n q (node l e b r) z c h s =
    let u = every_node_apart q l e b r s in
    go (child_named d n l) refl (name_equal n (name (d.entry e))) h (λ k. child_node d n q l z c k u.1) (λ k. child_node d n q r z c k u.3) u.0 u.2
  where
    go : (k : Child) → child_named d n l ≡ k → (a : Bool)
        → or_else k (or_else (cond a (present e b) missing) (child_named d n r)) ≡ present z c
        → (child_named d n l ≡ present z c → (l : Forest) × (r : Forest) × (q l z c r ≡ true) × (every_node q c ≡ true))
        → (child_named d n r ≡ present z c → (l : Forest) × (r : Forest) × (q l z c r ≡ true) × (every_node q c ≡ true))
        → q l e b r ≡ true → every_node q b ≡ true
        → (l : Forest) × (r : Forest) × (q l z c r ≡ true) × (every_node q c ≡ true)
    go (present y a) u x h hl hr here below = hl (u ∙ h)
    go missing u true h hl hr here below =
        let i : e ≡ z = cc in
        let j : b ≡ c = cc in
        (l, r, subst₂ (λ (y : ℕ) (a : Forest). q l y a r ≡ true) i j here, subst (λ (a : Forest). every_node q a ≡ true) j below)
    go missing u false h hl hr here below = hr h

pub found_equal : (d : Directory) (n : Name) (t : Forest) (z : ℕ) (c : Forest) → child_named d n t ≡ present z c
    → (0 < count z (siblings t)) × (name_equal n (name (d.entry z)) ≡ true)
unfolding child_named or_else
found_equal d n empty z c h = let q : ◌≡◌ {A = ℕ} 0 1 = cc in absurd (omega arith)
found_equal d n broken z c h = let q : ◌≡◌ {A = ℕ} 0 1 = cc in absurd (omega arith)
found_equal d n (node l e b r) z c h = go (child_named d n l) refl (name_equal n (name (d.entry e))) refl h (found_equal d n l z c) (found_equal d n r z c)
  where
    go : (k : Child) → child_named d n l ≡ k → (q : Bool) → name_equal n (name (d.entry e)) ≡ q
        → or_else k (or_else (cond q (present e b) missing) (child_named d n r)) ≡ present z c
        → (child_named d n l ≡ present z c → (0 < count z (siblings l)) × (name_equal n (name (d.entry z)) ≡ true))
        → (child_named d n r ≡ present z c → (0 < count z (siblings r)) × (name_equal n (name (d.entry z)) ≡ true))
        → (0 < count z (siblings (node l e b r))) × (name_equal n (name (d.entry z)) ≡ true)
    go (present y a) u q v h hl hr = let k = hl (u ∙ h) in (omega (arith, count_siblings_node z l e b r, k.0), k.1)
    go missing u true v h hl hr =
        let q : e ≡ z = cc in
        (omega (arith, count_siblings_node z l e b r, bit_self z, ap (λ (i : ℕ). bit (eqb z i)) q), ap (λ (i : ℕ). name_equal n (name (d.entry i))) (sym q) ∙ v)
    go missing u false v h hl hr = let k = hr h in (omega (arith, count_siblings_node z l e b r, k.0), k.1)

pub not_named : (d : Directory) (n : Name) (t : Forest) → ((y : ℕ) → 0 < count y (siblings t) → name_equal n (name (d.entry y)) ≡ false) → child_named d n t ≡ missing
not_named d n t h = go (child_named d n t) refl
  where
    go : (k : Child) → child_named d n t ≡ k → child_named d n t ≡ missing
    go missing e = e
    go (present z c) e = let k = found_equal d n t z c e in absurd (clash k.1 (h z k.0))

-- what the names after the first mean at that child
unfoldable child_meant : Directory → List Name → Child → List ℕ
child_meant d ns missing = []
child_meant d ns (present e b) = cond (same_path ns []) (e ∷ []) [] ++ meant ns (objects d b)

module _ (d : Directory) (n : Name) (ns : List Name) where
  -- an equal name on the node, or on its left side, is the only one
  pub left_apart : (l : Forest) (e : ℕ) (b r : Forest) → Sorted d (node l e b r) → name_equal n (name (d.entry e)) ≡ true
      → (y : ℕ) → 0 < count y (siblings l) → name_equal n (name (d.entry y)) ≡ false
  unfolding greater less
  left_apart l e b r s q y h =
      let k = all_at (greater d e) (siblings l) (sorted_apart d l e b r s).lefts y h in
      more_differs names_ordered n (name (d.entry y)) (names_ordered.equal_right n (name (d.entry e)) (name (d.entry y)) q ∙ k)

  pub right_apart : (l : Forest) (e : ℕ) (b r : Forest) → Sorted d (node l e b r) → name_equal n (name (d.entry e)) ≡ true
      → (y : ℕ) → 0 < count y (siblings r) → name_equal n (name (d.entry y)) ≡ false
  unfolding less
  right_apart l e b r s q y h =
      let k = all_at (less d e) (siblings r) (sorted_apart d l e b r s).rights y h in
      less_differs names_ordered n (name (d.entry y)) (names_ordered.equal_left n (name (d.entry e)) (name (d.entry y)) q ∙ k)

  pub across_apart : (l : Forest) (e : ℕ) (b r : Forest) → Sorted d (node l e b r) → (z : ℕ) → 0 < count z (siblings l) → name_equal n (name (d.entry z)) ≡ true
      → (y : ℕ) → 0 < count y (siblings r) → name_equal n (name (d.entry y)) ≡ false
  unfolding greater less
  across_apart l e b r s z i q y h =
      let u = sorted_apart d l e b r s in
      let k = all_at (greater d e) (siblings l) u.lefts z i in
      let m = all_at (less d e) (siblings r) u.rights y h in
      let zn = name (d.entry z) in
      let yn = name (d.entry y) in
      less_differs names_ordered n yn (names_ordered.equal_left n zn yn q ∙ names_ordered.trans zn (name (d.entry e)) yn k m)

  meant_child : (t : Forest) → Sorted d t → meant (n ∷ ns) (objects d t) ≡ child_meant d ns (child_named d n t)
  unfolding child_meant child_named or_else same_path objects gathered
  meant_child empty s = refl
  meant_child broken s = refl
  meant_child (node l e b r) s =
      let u = sorted_apart d l e b r s in
      let m = name (d.entry e) in
      meant_node d (n ∷ ns) l e b r
      ∙ rw (meant_child l u.left_sorted, meant_child r u.right_sorted, meant_below n m ns (objects d b))
      (go (name_equal n m) refl (child_named d n l) refl)
    where
      go : (q : Bool) → name_equal n (name (d.entry e)) ≡ q → (k : Child) → child_named d n l ≡ k
          → child_meant d ns k ++ (cond (q && same_path ns []) (e ∷ []) [] ++ (cond q (meant ns (objects d b)) [] ++ child_meant d ns (child_named d n r)))
          ≡ child_meant d ns (or_else k (or_else (cond q (present e b) missing) (child_named d n r)))
      go true v missing w = rw (not_named d n r (right_apart l e b r s v), append-nil (meant ns (objects d b)))
      go true v (present z c) w = let k = found_equal d n l z c w in absurd (clash k.1 (left_apart l e b r s v z k.0))
      go false v missing w = refl
      go false v (present z c) w =
          let k = found_equal d n l z c w in
          rw (not_named d n r (across_apart l e b r s z k.0 k.1)) (append-nil (child_meant d ns (present z c)))

-- ---- the whole descent

none_empty : (t : Forest) → is_empty t ≡ true → t ≡ empty
unfolding is_empty
none_empty empty h = refl
none_empty broken h = absurd (clash h refl)
none_empty (node l e b r) h = absurd (clash h refl)

pub bare_empty : (d : Directory) (l : Forest) (e : ℕ) (b r : Forest) → streams_bare d l e b r ≡ true → is_stream (d.entry e) ≡ true → b ≡ empty
unfolding streams_bare
bare_empty d l e b r h st = none_empty b (rw st at h)

pub found_meant : (d : Directory) (ns : List Name) (e : ℕ) (t : Forest) → Sorted d t → every_node (streams_bare d) t ≡ true
    → (is_stream (d.entry e) ≡ true → t ≡ empty)
    → found_entries (descend d (at e t) ns) ≡ cond (same_path ns []) (e ∷ []) [] ++ meant ns (objects d t)
unfolding descend enter found_child found_entries same_path child_meant objects gathered
found_meant d [] e t s f z = rw (meant_root d t)
found_meant d (n ∷ ns) e t s f z =
    go (is_stream (d.entry e)) (child_named d n t) z refl (meant_child d n ns t s) (λ y b. found_meant d ns y b)
  where
    go : (st : Bool) (k : Child) → (st ≡ true → t ≡ empty) → child_named d n t ≡ k → meant (n ∷ ns) (objects d t) ≡ child_meant d ns (child_named d n t)
        → ((y : ℕ) (b : Forest) → Sorted d b → every_node (streams_bare d) b ≡ true → (is_stream (d.entry y) ≡ true → b ≡ empty)
        → found_entries (descend d (at y b) ns) ≡ cond (same_path ns []) (y ∷ []) [] ++ meant ns (objects d b))
        → found_entries (descend d (cond st (refused 22) (found_child k)) ns) ≡ meant (n ∷ ns) (objects d t)
    go true k z c h r = rw (descend_refused d 22 ns, z refl)
    go false missing z c h r = rw (descend_refused d 21 ns) (sym (h ∙ ap (child_meant d ns) c))
    go false (present y b) z c h r =
        let u = child_node d n (sides_ordered d) t y b c s in
        let v = child_node d n (streams_bare d) t y b c f in
        r y b u.3 v.3 (bare_empty d v.0 y b v.1 v.2) ∙ sym (h ∙ ap (child_meant d ns) c)
