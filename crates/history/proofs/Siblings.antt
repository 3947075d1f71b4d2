-- Among ordered siblings at most one has a wanted name, and the streams that are meant are those that this one leads to.
use Prim.Native.Nat.{ℕ, ◌+◌, ◌<◌}
use mathlib.Core.Path.{◌≡◌, refl, sym, ap, ◌∙◌, subst}
use mathlib.Core.Bool.{Bool, true, false, cond, ◌&&◌}
use mathlib.Core.List.{List, [], ◌∷◌, ◌++◌, append-nil}
use native.Mathlib.Omega.{arith}
use lib.Dec.{eqb}
use Rattle.format.specs.Basics.Lists.{all, bit, count}
use Rattle.format.specs.Layout.Name.{Name, name_less, name_equal}
use Rattle.format.specs.Layout.Entry.{name, is_stream}
use Rattle.format.specs.Layout.Directory.{Directory}
use Rattle.format.specs.Layout.Tree.{Forest, empty, broken, node, siblings}
use Rattle.format.specs.Rules.Trees.{every_node, less, sides_ordered, greater}
use Rattle.format.specs.Calls.Find.{Child, missing, present, or_else, child_named, at}
use Rattle.theory.proofs.Counts.{count_append, bit_self}
use Rattle.theory.proofs.Tests.{both, all_at}
use Rattle.theory.proofs.Trees.Nodes.{every_node_apart}
use Rattle.history.proofs.Names.{equal_lower_not_upper, equal_upper_not_lower, equal_not_two_above}
use Rattle.history.proofs.Hits.{advance, hits, hits_off, is_done, is_none, off, own_hit_off, own_hit, rest}

-- ---- among siblings

pub advance_fits : (n m : Name) (ns : List Name) → name_equal n m ≡ true → advance (rest (n ∷ ns)) m ≡ rest ns
unfolding advance
advance_fits n m ns h = rw h

pub advance_fails : (n m : Name) (ns : List Name) → name_equal n m ≡ false → advance (rest (n ∷ ns)) m ≡ off
unfolding advance
advance_fails n m ns h = rw h

-- no sibling has the name
no_sibling_hits : (d : Directory) (n : Name) (ns : List Name) (t : Forest) → ((x : ℕ) → 0 < count x (siblings t) → name_equal n (name (d.entry x)) ≡ false) →
    hits d (rest (n ∷ ns)) t ≡ []
unfolding hits siblings
no_sibling_hits d n ns empty h = refl
no_sibling_hits d n ns broken h = refl
no_sibling_hits d n ns (node l y b r) h =
    let e = advance_fails n (name (d.entry y)) ns (h y (omega (arith, count_append y (siblings l) (y ∷ siblings r), bit_self y))) in
    rw (
      no_sibling_hits d n ns l (λ x q. h x (omega (arith, count_append x (siblings l) (y ∷ siblings r)))),
      own_hit_off d (rest (n ∷ ns)) y e,
      e,
      hits_off d b,
      no_sibling_hits d n ns r (λ x q. h x (omega (arith, count_append x (siblings l) (y ∷ siblings r)))),
    )

pub no_sibling_child : (d : Directory) (n : Name) (t : Forest) → ((x : ℕ) → 0 < count x (siblings t) → name_equal n (name (d.entry x)) ≡ false) → child_named d n t ≡ missing
unfolding child_named siblings or_else
no_sibling_child d n empty h = refl
no_sibling_child d n broken h = refl
no_sibling_child d n (node l y b r) h =
    rw (
      no_sibling_child d n l (λ x q. h x (omega (arith, count_append x (siblings l) (y ∷ siblings r)))),
      h y (omega (arith, count_append y (siblings l) (y ∷ siblings r), bit_self y)),
    )
    (no_sibling_child d n r (λ x q. h x (omega (arith, count_append x (siblings l) (y ∷ siblings r)))))

-- the sibling that is found: it is one, it has the name, and what every node passes it passes
pub record Sibling (d : Directory) (n : Name) (t : Forest) (y : ℕ) (b : Forest) : Type 1 where
  pub here : 0 < count y (siblings t)
  pub fits : name_equal n (name (d.entry y)) ≡ true
  pub node : (q : Forest → ℕ → Forest → Forest → Bool) → every_node q t ≡ true → (l : Forest) × (r : Forest) × (q l y b r ≡ true) × (every_node q b ≡ true)

missing_not_present : (z : ℕ) (c : Forest) → missing ≡ present z c → ⊥
missing_not_present z c h = let k : ◌≡◌ {A = ℕ} 0 1 = cc in omega arith

pub child_found : (d : Directory) (n : Name) (t : Forest) (z : ℕ) (c : Forest) → child_named d n t ≡ present z c → Sibling d n t z c
unfolding child_named siblings or_else
child_found d n empty z c h = absurd (missing_not_present z c h)
child_found d n broken z c h = absurd (missing_not_present z c h)
child_found d n (node l y b r) z c h =
    go (child_named d n l) (name_equal n (name (d.entry y))) refl refl h (child_found d n l z c) (child_found d n r z c)
  where
    count_siblings : (s : ℕ) → count s (siblings l ++ (y ∷ siblings r)) ≡ count s (siblings l) + (bit (eqb s y) + count s (siblings r))
    count_siblings s = count_append s (siblings l) (y ∷ siblings r)

    go : (k : Child) (t : Bool) → child_named d n l ≡ k → name_equal n (name (d.entry y)) ≡ t →
        or_else k (or_else (cond t (present y b) missing) (child_named d n r)) ≡ present z c →
        (child_named d n l ≡ present z c → Sibling d n l z c) → (child_named d n r ≡ present z c → Sibling d n r z c) → Sibling d n (node l y b r) z c
    go (present a f) t e u h p q =
        let s = p (e ∙ h) in
        record { here = omega (arith, count_siblings z, s.here); fits = s.fits; node = λ Q w. s.node Q (every_node_apart Q l y b r w).1 }
    go missing true e u h p q =
        let ye : y ≡ z = cc in
        let bc : b ≡ c = cc in
        record {
          here = omega (arith, count_siblings z, bit_self z, ap (λ k. bit (eqb z k)) ye);
          fits = rw ye at u;
          node = λ Q w. subst (λ k. (l : Forest) × (r : Forest) × (Q l k c r ≡ true) × (every_node Q c ≡ true)) ye
              (subst (λ k. (l : Forest) × (r : Forest) × (Q l y k r ≡ true) × (every_node Q k ≡ true)) bc (l, r, (every_node_apart Q l y b r w).0, (every_node_apart Q l y b r w).2));
        }
    go missing false e u h p q =
        let s = q h in
        record { here = omega (arith, count_siblings z, s.here); fits = s.fits; node = λ Q w. s.node Q (every_node_apart Q l y b r w).3 }

-- ---- the streams that a child leads to

unfoldable pub child_hits : Directory → List Name → Child → List ℕ
child_hits d ns missing = []
child_hits d ns (present y b) = cond (is_stream (d.entry y) && is_none ns) (y ∷ []) [] ++ hits d (rest ns) b

pub ordered_left : (d : Directory) (l : Forest) (y : ℕ) (b r : Forest) → sides_ordered d l y b r ≡ true → (x : ℕ) → 0 < count x (siblings l) →
    name_less (name (d.entry x)) (name (d.entry y)) ≡ true
unfolding sides_ordered greater less
ordered_left d l y b r h x q =
    all_at (greater d y) (siblings l)
    (both (all (greater d y) (siblings l)) (all (less d y) (siblings r)) h).0 x q

pub ordered_right : (d : Directory) (l : Forest) (y : ℕ) (b r : Forest) → sides_ordered d l y b r ≡ true → (x : ℕ) → 0 < count x (siblings r) →
    name_less (name (d.entry y)) (name (d.entry x)) ≡ true
unfolding sides_ordered greater less
ordered_right d l y b r h x q =
    all_at (less d y) (siblings r)
    (both (all (greater d y) (siblings l)) (all (less d y) (siblings r)) h).1 x q

pub own_hit_fits : (d : Directory) (n : Name) (ns : List Name) (y : ℕ) → name_equal n (name (d.entry y)) ≡ true →
    own_hit d (rest (n ∷ ns)) y ≡ cond (is_stream (d.entry y) && is_none ns) (y ∷ []) []
unfolding own_hit is_done
own_hit_fits d n ns y e = rw (advance_fits n (name (d.entry y)) ns e)

pub hits_child : (d : Directory) (n : Name) (ns : List Name) (t : Forest) → every_node (sides_ordered d) t ≡ true →
    hits d (rest (n ∷ ns)) t ≡ child_hits d ns (child_named d n t)
unfolding hits child_named child_hits or_else
hits_child d n ns empty h = refl
hits_child d n ns broken h = refl
hits_child d n ns (node l y b r) h =
    let p = every_node_apart (sides_ordered d) l y b r h in
    go (name_equal n (name (d.entry y))) refl (child_named d n l) refl p.0 (hits_child d n ns l p.1) (hits_child d n ns r p.3)
  where
    go : (t : Bool) → name_equal n (name (d.entry y)) ≡ t → (k : Child) → child_named d n l ≡ k → sides_ordered d l y b r ≡ true →
        hits d (rest (n ∷ ns)) l ≡ child_hits d ns (child_named d n l) → hits d (rest (n ∷ ns)) r ≡ child_hits d ns (child_named d n r) →
        hits d (rest (n ∷ ns)) l ++ (own_hit d (rest (n ∷ ns)) y ++ (hits d (advance (rest (n ∷ ns)) (name (d.entry y))) b ++ hits d (rest (n ∷ ns)) r))
        ≡ child_hits d ns (or_else k (or_else (cond t (present y b) missing) (child_named d n r)))
    go true e k f s hl hr =
        let c = sym f ∙ no_sibling_child d n l (λ x q. equal_upper_not_lower n (name (d.entry x)) (name (d.entry y)) e (ordered_left d l y b r s x q)) in
        rw (
          c,
          no_sibling_hits d n ns l (λ x q. equal_upper_not_lower n (name (d.entry x)) (name (d.entry y)) e (ordered_left d l y b r s x q)),
          no_sibling_hits d n ns r (λ x q. equal_lower_not_upper n (name (d.entry y)) (name (d.entry x)) e (ordered_right d l y b r s x q)),
          own_hit_fits d n ns y e,
          advance_fits n (name (d.entry y)) ns e,
          append-nil (hits d (rest ns) b),
        )
    go false e missing f s hl hr =
        let u = advance_fails n (name (d.entry y)) ns e in
        rw (hl, f, own_hit_off d (rest (n ∷ ns)) y u, u, hits_off d b) hr
    go false e (present z c) f s hl hr =
        let u = advance_fails n (name (d.entry y)) ns e in
        let a = child_found d n l z c f in
        rw (
          hl,
          f,
          own_hit_off d (rest (n ∷ ns)) y u,
          u,
          hits_off d b,
          no_sibling_hits d n ns r (λ x q. equal_not_two_above n (name (d.entry z)) (name (d.entry y)) (name (d.entry x)) a.fits
              (ordered_left d l y b r s z a.here) (ordered_right d l y b r s x q)),
        )
        (append-nil (cond (is_stream (d.entry z) && is_none ns) (z ∷ []) [] ++ hits d (rest ns) c))
