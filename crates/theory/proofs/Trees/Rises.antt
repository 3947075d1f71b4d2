-- Whole sides are in order exactly if the siblings of each tree rise.
use mathlib.Core.Path.{◌≡◌, refl}
use mathlib.Core.Bool.{Bool, true, ◌&&◌}
use mathlib.Core.List.{List, [], ◌∷◌, ◌++◌}
use Prim.Native.Nat.{ℕ}
use Rattle.format.specs.Basics.Lists.{all}
use Rattle.format.specs.Layout.Directory.{Directory}
use Rattle.format.specs.Layout.Tree.{Forest, empty, broken, node, siblings}
use Rattle.format.specs.Rules.Trees.{less, greater, sides_ordered, every_node}
use Rattle.theory.specs.TreeOrder.{Ordered}
use Rattle.theory.proofs.Tests.{both, and_true_of, all_weaker}
use Rattle.theory.proofs.Trees.Lists.{same_test}
use Rattle.theory.proofs.Trees.Nodes.{every_node_join}
use Rattle.theory.proofs.Trees.Sides.{Sorted, sorted_apart}
use Rattle.theory.specs.TreeInorder.{after, rising, below_rise, tree_rises}

module _ (lt : ℕ → ℕ → Bool) where
  abbrev under : ℕ → ℕ → Bool
  under e x = lt x e

  -- ---- put together

  after_of : (e : ℕ) (ys : List ℕ) → all (lt e) ys ≡ true → rising lt ys ≡ true → after lt e ys ≡ true
  unfolding after rising all
  after_of e [] a h = refl
  after_of e (y ∷ ys) a h = and_true_of (lt e y) (after lt y ys) (both (lt e y) (all (lt e) ys) a).0 h

  after_join : (x : ℕ) (xs : List ℕ) (e : ℕ) (ys : List ℕ) → after lt x xs ≡ true → lt x e ≡ true → all (under e) xs ≡ true → after lt e ys ≡ true
      → after lt x (xs ++ (e ∷ ys)) ≡ true
  unfolding after all
  after_join x [] e ys h l a t = and_true_of (lt x e) (after lt e ys) l t
  after_join x (y ∷ xs) e ys h l a t =
      let u = both (lt x y) (after lt y xs) h in
      let v = both (lt y e) (all (under e) xs) a in
      and_true_of (lt x y) (after lt y (xs ++ (e ∷ ys))) u.0 (after_join y xs e ys u.1 v.0 v.1 t)

  rising_join : (xs : List ℕ) (e : ℕ) (ys : List ℕ) → rising lt xs ≡ true → all (under e) xs ≡ true → after lt e ys ≡ true → rising lt (xs ++ (e ∷ ys)) ≡ true
  unfolding rising all
  rising_join [] e ys h a t = t
  rising_join (x ∷ xs) e ys h a t = let v = both (lt x e) (all (under e) xs) a in after_join x xs e ys h v.0 v.1 t

  -- ---- taken apart

  module _ (o : Ordered lt) where
    after_all : (e : ℕ) (ys : List ℕ) → after lt e ys ≡ true → (all (lt e) ys ≡ true) × (rising lt ys ≡ true)
    unfolding after rising all
    after_all e [] h = (refl, refl)
    after_all e (y ∷ ys) h =
        let u = both (lt e y) (after lt y ys) h in
        let k = after_all y ys u.1 in
        (and_true_of (lt e y) (all (lt e) ys) u.0 (all_weaker (lt y) (lt e) (λ z q. o.trans e y z u.0 q) ys k.0), u.1)

    after_apart : (x : ℕ) (xs : List ℕ) (e : ℕ) (ys : List ℕ) → after lt x (xs ++ (e ∷ ys)) ≡ true
        → (after lt x xs ≡ true) × (lt x e ≡ true) × (all (under e) xs ≡ true) × (after lt e ys ≡ true)
    unfolding after all
    after_apart x [] e ys h = let u = both (lt x e) (after lt e ys) h in (refl, u.0, refl, u.1)
    after_apart x (y ∷ xs) e ys h =
        let u = both (lt x y) (after lt y (xs ++ (e ∷ ys))) h in
        let k = after_apart y xs e ys u.1 in (
          and_true_of (lt x y) (after lt y xs) u.0 k.0,
          o.trans x y e u.0 k.1,
          and_true_of (lt y e) (all (under e) xs) k.1 k.2,
          k.3,
        )

    rising_apart : (xs : List ℕ) (e : ℕ) (ys : List ℕ) → rising lt (xs ++ (e ∷ ys)) ≡ true → (rising lt xs ≡ true) × (all (under e) xs ≡ true) × (after lt e ys ≡ true)
    unfolding rising all
    rising_apart [] e ys h = (refl, refl, h)
    rising_apart (x ∷ xs) e ys h = let k = after_apart x xs e ys h in (k.0, and_true_of (lt x e) (all (under e) xs) k.1 k.2, k.3)

module _ (d : Directory) where
  -- whole sides in order: the siblings rise
  sorted_rises : (t : Forest) → Sorted d t → (rising (less d) (siblings t) ≡ true) × (below_rise d t ≡ true)
  unfolding siblings below_rise greater rising
  sorted_rises empty s = (refl, refl)
  sorted_rises broken s = (refl, refl)
  sorted_rises (node l e b r) s =
      let p = sorted_apart d l e b r s in
      let kl = sorted_rises l p.left_sorted in
      let kb = sorted_rises b p.below_sorted in
      let kr = sorted_rises r p.right_sorted in (
        rising_join (less d) (siblings l) e (siblings r) kl.0 p.lefts (after_of (less d) e (siblings r) p.rights kr.0),
        and_true_of (below_rise d l) _ kl.1 (and_true_of (rising (less d) (siblings b) && below_rise d b) (below_rise d r) (and_true_of (rising (less d) (siblings b)) (below_rise d b) kb.0 kb.1) kr.1),
      )

  -- and the other way
  rises_sorted : Ordered (less d) → (t : Forest) → rising (less d) (siblings t) ≡ true → below_rise d t ≡ true → Sorted d t
  unfolding siblings below_rise greater every_node sides_ordered
  rises_sorted o empty h g = refl
  rises_sorted o broken h g = refl
  rises_sorted o (node l e b r) h g =
      let k = rising_apart (less d) o (siblings l) e (siblings r) h in
      let m = after_all (less d) o e (siblings r) k.2 in
      let u = both (below_rise d l) ((rising (less d) (siblings b) && below_rise d b) && below_rise d r) g in
      let v = both (rising (less d) (siblings b) && below_rise d b) (below_rise d r) u.1 in
      let w = both (rising (less d) (siblings b)) (below_rise d b) v.0 in
      every_node_join (sides_ordered d) l e b r
      (and_true_of (all (greater d e) (siblings l)) (all (less d e) (siblings r)) k.1 m.0)
      (rises_sorted o l k.0 u.0)
      (rises_sorted o b w.0 w.1)
      (rises_sorted o r m.1 v.1)

  pub order_rises : Ordered (less d) → (t : Forest) → every_node (sides_ordered d) t ≡ tree_rises d t
  unfolding tree_rises
  order_rises o t =
      same_test (every_node (sides_ordered d) t) (rising (less d) (siblings t) && below_rise d t)
      (λ s. let k = sorted_rises t s in and_true_of (rising (less d) (siblings t)) (below_rise d t) k.0 k.1)
      (λ h. let k = both (rising (less d) (siblings t)) (below_rise d t) h in rises_sorted o t k.0 k.1)
