-- Equal names lead to the same entry; and what names lead to is listed under them.
use Prim.Native.Nat.{ℕ}
use mathlib.Core.Path.{◌≡◌, refl, sym, ap, ◌∙◌}
use mathlib.Core.Bool.{Bool, true, false, cond, ◌||◌, or-true, or_assoc}
use mathlib.Core.List.{List, [], ◌∷◌, ◌++◌, append_assoc}
use native.Mathlib.Omega.{arith}
use Rattle.format.specs.Basics.Lists.{all, any}
use Rattle.format.specs.Layout.Name.{Name, legal_name, name_equal}
use Rattle.format.specs.Layout.PathOrder.{same_path}
use Rattle.format.specs.Layout.Entry.{name, is_stream}
use Rattle.format.specs.Layout.Directory.{Directory}
use Rattle.format.specs.Layout.Tree.{Forest, empty, broken, node}
use Rattle.format.specs.Layout.Objects.{object_at, objects_in}
use Rattle.format.specs.Calls.Find.{Child, missing, present, or_else, child_named, Found, at, refused, enter, found_child, descend}
use Rattle.format.specs.Claims.Listing.{is_named}
use Rattle.theory.specs.TreePaths.{path_below}
use Rattle.theory.proofs.Tests.{clash, both, and_true_of, any_append}
use Rattle.theory.proofs.Trees.PathOrder.{name_alike}
use Rattle.theory.proofs.Trees.Paths.{descend_refused}
use Rattle.history.proofs.Names.{legal_name_lem}
use Rattle.history.proofs.Siblings.{child_found}

-- ---- equal names

child_alike : (d : Directory) (n m : Name) (t : Forest) → name_equal n m ≡ true → child_named d n t ≡ child_named d m t
unfolding child_named
child_alike d n m empty h = refl
child_alike d n m broken h = refl
child_alike d n m (node l e b r) h = rw (child_alike d n m l h, name_alike n m (name (d.entry e)) h, child_alike d n m r h)

enter_alike : (d : Directory) (f : Found) (n m : Name) → name_equal n m ≡ true → enter d f n ≡ enter d f m
unfolding enter
enter_alike d (at e b) n m h = rw (child_alike d n m b h)
enter_alike d (refused a) n m h = refl

pub descend_alike : (d : Directory) (f : Found) (ns ms : List Name) → same_path ns ms ≡ true → descend d f ns ≡ descend d f ms
unfolding descend same_path
descend_alike d f [] [] h = refl
descend_alike d f [] (m ∷ ms) h = absurd (clash h refl)
descend_alike d f (n ∷ ns) [] h = absurd (clash h refl)
descend_alike d f (n ∷ ns) (m ∷ ms) h =
    let p = both (name_equal n m) (same_path ns ms) h in
    ap (λ g. descend d g ns) (enter_alike d f n m p.0) ∙ descend_alike d (enter d f m) ns ms p.1

pub legal_alike : (ns ms : List Name) → same_path ns ms ≡ true → all legal_name ms ≡ true → all legal_name ns ≡ true
unfolding same_path all
legal_alike [] ms h k = refl
legal_alike (n ∷ ns) [] h k = absurd (clash h refl)
legal_alike (n ∷ ns) (m ∷ ms) h k =
    let p = both (name_equal n m) (same_path ns ms) h in
    let q = both (legal_name m) (all legal_name ms) k in
    and_true_of (legal_name n) (all legal_name ns) (legal_name_lem n m p.0 q.0) (legal_alike ns ms p.1 q.1)

same_snoc : (ns ms : List Name) (n m : Name) → same_path ns ms ≡ true → name_equal n m ≡ true → same_path (ns ++ (n ∷ [])) (ms ++ (m ∷ [])) ≡ true
unfolding same_path
same_snoc [] [] n m h k = and_true_of (name_equal n m) true k refl
same_snoc [] (b ∷ ms) n m h k = absurd (clash h refl)
same_snoc (a ∷ ns) [] n m h k = absurd (clash h refl)
same_snoc (a ∷ ns) (b ∷ ms) n m h k =
    let p = both (name_equal a b) (same_path ns ms) h in
    and_true_of (name_equal a b) (same_path (ns ++ (n ∷ [])) (ms ++ (m ∷ []))) p.0 (same_snoc ns ms n m p.1 k)

-- ---- what is found is listed

-- the names are those of the entry y below `before`, or of what is below y
unfoldable pub own_listed : Directory → (q before : List Name) → ℕ → Forest → Bool
own_listed d q before y b = is_named q (object_at d y (path_below d before y)) || any (is_named q) (objects_in d (path_below d before y) b)

listed_node : (d : Directory) (q before : List Name) (l : Forest) (y : ℕ) (b r : Forest) → any (is_named q) (objects_in d before (node l y b r))
    ≡ (any (is_named q) (objects_in d before l) || (own_listed d q before y b || any (is_named q) (objects_in d before r)))
unfolding objects_in any own_listed
listed_node d q before l y b r =
    let p = path_below d before y in
    any_append (is_named q) (objects_in d before l) (object_at d y p ∷ (objects_in d p b ++ objects_in d before r))
    ∙ rw (any_append (is_named q) (objects_in d p b) (objects_in d before r))
    (ap (λ t. any (is_named q) (objects_in d before l) || t)
    (sym (or_assoc (is_named q (object_at d y p)) (any (is_named q) (objects_in d p b)) (any (is_named q) (objects_in d before r)))))

missing_not_present : (z : ℕ) (c : Forest) → missing ≡ present z c → ⊥
missing_not_present z c h = let k : ◌≡◌ {A = ℕ} 0 1 = cc in omega arith

listed_child : (d : Directory) (n : Name) (q before : List Name) (t : Forest) (z : ℕ) (c : Forest) → child_named d n t ≡ present z c →
    own_listed d q before z c ≡ true → any (is_named q) (objects_in d before t) ≡ true
unfolding child_named or_else
listed_child d n q before empty z c h o = absurd (missing_not_present z c h)
listed_child d n q before broken z c h o = absurd (missing_not_present z c h)
listed_child d n q before (node l y b r) z c h o =
    listed_node d q before l y b r
    ∙ go (child_named d n l) (name_equal n (name (d.entry y))) refl h (λ k. listed_child d n q before l z c k o) (λ k. listed_child d n q before r z c k o)
  where
    go : (k : Child) (t : Bool) → child_named d n l ≡ k → or_else k (or_else (cond t (present y b) missing) (child_named d n r)) ≡ present z c →
        (child_named d n l ≡ present z c → any (is_named q) (objects_in d before l) ≡ true) → (child_named d n r ≡ present z c → any (is_named q) (objects_in d before r) ≡ true) →
        (any (is_named q) (objects_in d before l) || (own_listed d q before y b || any (is_named q) (objects_in d before r))) ≡ true
    go (present a f) t e h hl hr = rw (hl (e ∙ h))
    go missing true e h hl hr =
        let ye : y ≡ z = cc in
        let bc : b ≡ c = cc in
        rw (ye, bc, o) (or-true (any (is_named q) (objects_in d before l)))
    go missing false e h hl hr =
        rw (hr h, or-true (own_listed d q before y b)) (or-true (any (is_named q) (objects_in d before l)))

pub refused_not_at : (a x : ℕ) (c : Forest) → refused a ≡ at x c → ⊥
refused_not_at a x c h = let k : ◌≡◌ {A = ℕ} 0 1 = cc in omega arith

own_listed_lem : (d : Directory) (q before : List Name) (y : ℕ) (b : Forest) → same_path q (path_below d before y) ≡ true → own_listed d q before y b ≡ true
unfolding own_listed is_named object_at
own_listed_lem d q before y b h = rw h

below_listed : (d : Directory) (q before : List Name) (y : ℕ) (b : Forest) → any (is_named q) (objects_in d (path_below d before y) b) ≡ true → own_listed d q before y b ≡ true
unfolding own_listed
below_listed d q before y b h = rw h (or-true (is_named q (object_at d y (path_below d before y))))

-- of one name more: where it leads to, and where the names after it lead
module _ (d : Directory) (n : Name) (ns : List Name) (e : ℕ) (t : Forest) (x : ℕ) (c : Forest) where
  one_further : descend d (at e t) (n ∷ ns) ≡ at x c → (y : ℕ) × (b : Forest) × (child_named d n t ≡ present y b) × (descend d (at y b) ns ≡ at x c)
  unfolding descend enter found_child
  one_further h = go (is_stream (d.entry e)) (child_named d n t) refl h
    where
      go : (st : Bool) (k : Child) → child_named d n t ≡ k → descend d (cond st (refused 22) (found_child k)) ns ≡ at x c →
          (y : ℕ) × (b : Forest) × (child_named d n t ≡ present y b) × (descend d (at y b) ns ≡ at x c)
      go true k f h = absurd (refused_not_at 22 x c (sym (descend_refused d 22 ns) ∙ h))
      go false missing f h = absurd (refused_not_at 21 x c (sym (descend_refused d 21 ns) ∙ h))
      go false (present y b) f h = (y, b, f, h)

pub descend_listed : (d : Directory) (ns : List Name) (n : Name) (e : ℕ) (t : Forest) (given before : List Name) (x : ℕ) (c : Forest) → same_path given before ≡ true →
    descend d (at e t) (n ∷ ns) ≡ at x c → any (is_named (given ++ (n ∷ ns))) (objects_in d before t) ≡ true
descend_listed d [] n e t given before x c s h =
    let w = one_further d n [] e t x c h in
    let q = given ++ (n ∷ []) in
    listed_child d n q before t w.0 w.1 w.2
    (own_listed_lem d q before w.0 w.1 (same_snoc given before n (name (d.entry w.0)) s (child_found d n t w.0 w.1 w.2).fits))
descend_listed d (m ∷ ms) n e t given before x c s h =
    let w = one_further d n (m ∷ ms) e t x c h in
    let p = path_below d before w.0 in
    let next = same_snoc given before n (name (d.entry w.0)) s (child_found d n t w.0 w.1 w.2).fits in
    listed_child d n (given ++ (n ∷ m ∷ ms)) before t w.0 w.1 w.2
    (below_listed d (given ++ (n ∷ m ∷ ms)) before w.0 w.1
    (rw (append_assoc given (n ∷ []) (m ∷ ms)) at (descend_listed d ms m w.0 w.1 (given ++ (n ∷ [])) p x c next w.3)))
