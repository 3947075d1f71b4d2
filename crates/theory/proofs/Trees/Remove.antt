-- A node taken out of a tree of siblings: the entries that are left, and their order.
use Prim.Native.Nat.{ℕ, ◌≤◌, ◌<◌}
use mathlib.Core.Path.{◌≡◌, refl, sym, ap, ap₂, ◌∙◌, subst}
use mathlib.Core.Logic.{◌≢◌, inl, inr}
use mathlib.Core.Bool.{Bool, true}
use mathlib.Core.List.{List, [], ◌∷◌, ◌++◌, append_assoc, append-nil}
use native.Mathlib.Omega.{arith}
use native.Mathlib.Decide.{dec_lt}
use lib.Dec.{eqb}
use borrow.Author.Tests.{eq-eqb, ne_eqb}
use Rattle.format.specs.Basics.Lists.{bit, count, all}
use Rattle.format.specs.Layout.Directory.{Directory}
use Rattle.format.specs.Layout.Tree.{Forest, empty, broken, node, entries, siblings}
use Rattle.format.specs.Layout.Siblings.{greatest, without_greatest, below_greatest, sides_joined, without_node}
use Rattle.format.specs.Rules.Trees.{less, greater, sides_ordered}
use Rattle.theory.specs.TreeOrder.{Ordered}
use Rattle.theory.specs.TreeWays.{Way, here, into_left, into_right, plug, Level}
use Rattle.theory.proofs.Counts.{eqb_cases, bit_self, bit_other}
use Rattle.theory.proofs.Tests.{both, and_true_of, all_append, all_weaker}
use Rattle.theory.proofs.Trees.Nodes.{every_node_join}
use Rattle.theory.proofs.Trees.Sides.{siblings_apart, siblings_join, last_passes, Sorted, sorted_apart}
use Rattle.theory.proofs.Trees.Faces.{count_siblings_node}

-- ---- entries and siblings

-- a tree is what is left without its greatest, and then that
last_entries : (l : Forest) (e : ℕ) (b r : Forest) → entries (node l e b r) ≡ entries (without_greatest l e b r) ++ (greatest e r ∷ entries (below_greatest b r))
unfolding entries without_greatest below_greatest greatest
last_entries l e b empty = simp append-nil
last_entries l e b broken = simp append-nil
last_entries l e b (node l₂ e₂ b₂ r₂) = let h = last_entries l₂ e₂ b₂ r₂ in rw h (simp append_assoc)

last_siblings : (l : Forest) (e : ℕ) (b r : Forest) → siblings (node l e b r) ≡ siblings (without_greatest l e b r) ++ (greatest e r ∷ [])
unfolding siblings without_greatest below_greatest greatest
last_siblings l e b empty = refl
last_siblings l e b broken = refl
last_siblings l e b (node l₂ e₂ b₂ r₂) = let h = last_siblings l₂ e₂ b₂ r₂ in rw h (simp append_assoc)

pub joined_entries : (l r : Forest) → entries (sides_joined l r) ≡ entries l ++ entries r
unfolding entries sides_joined
joined_entries empty r = refl
joined_entries broken r = refl
joined_entries (node l e b m) empty = simp append-nil
joined_entries (node l e b m) broken = simp append-nil
joined_entries (node l e b m) (node l₂ e₂ b₂ r₂) = let h = last_entries l e b m in rw h (simp append_assoc)

pub joined_siblings : (l r : Forest) → siblings (sides_joined l r) ≡ siblings l ++ siblings r
unfolding siblings sides_joined
joined_siblings empty r = refl
joined_siblings broken r = refl
joined_siblings (node l e b m) empty = simp append-nil
joined_siblings (node l e b m) broken = simp append-nil
joined_siblings (node l e b m) (node l₂ e₂ b₂ r₂) = let h = last_siblings l e b m in rw h (simp append_assoc)

module _ (x : ℕ) where
  module _ (l : Forest) (e : ℕ) (b r : Forest) where
    pub removed_here : e ≡ x → without_node x (node l e b r) ≡ sides_joined l r
    unfolding without_node
    removed_here h = rw (eq-eqb e x h)

    pub removed_past : e ≢ x → without_node x (node l e b r) ≡ node (without_node x l) e b (without_node x r)
    unfolding without_node
    removed_past h = rw (ne_eqb e x h)

  pub removed_none : (t : Forest) → count x (siblings t) ≡ 0 → without_node x t ≡ t
  unfolding without_node
  removed_none empty h = refl
  removed_none broken h = refl
  removed_none (node l e b r) h =
      let c = count_siblings_node x l e b r in
      elim (eqb_cases e x) [
        | inl q ↦ absurd (omega (arith, bit_self x, ap (λ (i : ℕ). bit (eqb x i)) q.0))
        | inr q ↦ rw (q.1, removed_none l (omega arith), removed_none r (omega arith))
      ]

  -- where the node stands, and what takes its place
  pub record Spot (t : Forest) : Type 0 where
    pub way : Way
    pub lefts : Forest
    pub below : Forest
    pub rights : Forest
    pub before : t ≡ plug way (node lefts x below rights)
    pub after : without_node x t ≡ plug way (sides_joined lefts rights)
    pub level : Level way

  module _ (l : Forest) (e : ℕ) (b r : Forest) (h : e ≢ x) where
    spot_left : count x (siblings r) ≡ 0 → Spot l → Spot (node l e b r)
    spot_left c s = record {
      way = into_left s.way e b r;
      lefts = s.lefts;
      below = s.below;
      rights = s.rights;
      before = ap (λ (u : Forest). node u e b r) s.before;
      after = removed_past l e b r h ∙ ap₂ (λ (u v : Forest). node u e b v) s.after (removed_none r c);
      level = s.level;
    }

    spot_right : count x (siblings l) ≡ 0 → Spot r → Spot (node l e b r)
    spot_right c s = record {
      way = into_right l e b s.way;
      lefts = s.lefts;
      below = s.below;
      rights = s.rights;
      before = ap (λ (u : Forest). node l e b u) s.before;
      after = removed_past l e b r h ∙ ap₂ (λ (u v : Forest). node u e b v) (removed_none l c) s.after;
      level = s.level;
    }

  pub spot : (t : Forest) → 0 < count x (siblings t) → count x (siblings t) ≤ 1 → Spot t
  unfolding siblings
  spot empty h o = absurd (omega arith)
  spot broken h o = absurd (omega arith)
  spot (node l e b r) h o =
      let c = count_siblings_node x l e b r in
      elim (eqb_cases e x) [
        | inl q ↦ record { way = here; lefts = l; below = b; rights = r; before = rw q.0; after = removed_here l e b r q.0; level = tt }
        | inr q ↦
            elim (dec_lt 0 (count x (siblings l))) [
              | yes k ↦ spot_left l e b r q.0 (omega arith) (spot l k (omega arith))
              | no k ↦ spot_right l e b r q.0 (omega arith) (spot r (omega (arith, bit_other x e (λ z. q.0 (sym z)))) (omega arith))
            ]
      ]

  -- what all siblings pass, those that are left pass
  all_removed : (q : ℕ → Bool) (t : Forest) → all q (siblings t) ≡ true → all q (siblings (without_node x t)) ≡ true
  unfolding without_node
  all_removed q empty a = a
  all_removed q broken a = a
  all_removed q (node l e b r) a =
      let u = siblings_apart q l e b r a in
      elim (eqb_cases e x) [
        | inl h ↦ rw (h.1, joined_siblings l r, all_append q (siblings l) (siblings r), u.0, u.2)
        | inr h ↦ rw h.1 (siblings_join q (without_node x l) e b (without_node x r) (all_removed q l u.0) u.1 (all_removed q r u.2))
      ]

-- ---- order

module _ (d : Directory) (o : Ordered (less d)) where
  record Cut (l : Forest) (e : ℕ) (b r : Forest) : Type 0 where
    sorted : Sorted d (without_greatest l e b r)
    under : all (greater d (greatest e r)) (siblings (without_greatest l e b r)) ≡ true
    below_sorted : Sorted d (below_greatest b r)

  cut : (l : Forest) (e : ℕ) (b r : Forest) → Sorted d (node l e b r) → Cut l e b r
  unfolding without_greatest greatest below_greatest greater sides_ordered less all
  cut l e b empty s = let u = sorted_apart d l e b empty s in record { sorted = u.left_sorted; under = u.lefts; below_sorted = u.below_sorted }
  cut l e b broken s = let u = sorted_apart d l e b broken s in record { sorted = u.left_sorted; under = u.lefts; below_sorted = u.below_sorted }
  cut l e b (node l₂ e₂ b₂ r₂) s =
      let u = sorted_apart d l e b (node l₂ e₂ b₂ r₂) s in
      let k = cut l₂ e₂ b₂ r₂ u.right_sorted in
      let m = greatest e₂ r₂ in
      let a = subst (λ (xs : List ℕ). all (less d e) xs ≡ true) (last_siblings l₂ e₂ b₂ r₂) u.rights in
      let v = both (all (less d e) (siblings (without_greatest l₂ e₂ b₂ r₂))) (all (less d e) (m ∷ [])) (rw all_append at a) in
      let w : less d e m ≡ true = (both (less d e m) true v.1).0 in
      record {
        sorted =
            every_node_join (sides_ordered d) l e b (without_greatest l₂ e₂ b₂ r₂)
            (and_true_of (all (greater d e) (siblings l)) (all (less d e) (siblings (without_greatest l₂ e₂ b₂ r₂))) u.lefts v.0)
            u.left_sorted u.below_sorted k.sorted;
        under =
            siblings_join (greater d m) l e b (without_greatest l₂ e₂ b₂ r₂)
            (all_weaker (greater d e) (greater d m) (λ z q. o.trans z e m q w) (siblings l) u.lefts) w k.under;
        below_sorted = k.below_sorted;
      }

  sides_join : (e : ℕ) (l b r : Forest) → all (greater d e) (siblings l) ≡ true → all (less d e) (siblings r) ≡ true → sides_ordered d l e b r ≡ true
  unfolding sides_ordered
  sides_join e l b r p q = and_true_of (all (greater d e) (siblings l)) (all (less d e) (siblings r)) p q

  last_less : (x : ℕ) (l : Forest) (e : ℕ) (b m : Forest) → all (greater d x) (siblings (node l e b m)) ≡ true → less d (greatest e m) x ≡ true
  unfolding greater
  last_less x l e b m a = let u = siblings_apart (greater d x) l e b m a in last_passes (greater d x) e m u.1 u.2

  -- two sorted sides of x, without x
  joined_sorted : (x : ℕ) (l r : Forest) → Sorted d l → Sorted d r → all (greater d x) (siblings l) ≡ true → all (less d x) (siblings r) ≡ true → Sorted d (sides_joined l r)
  unfolding sides_joined
  joined_sorted x empty r sl sr al ar = sr
  joined_sorted x broken r sl sr al ar = sr
  joined_sorted x (node l e b m) empty sl sr al ar = sl
  joined_sorted x (node l e b m) broken sl sr al ar = sl
  joined_sorted x (node l e b m) (node l₂ e₂ b₂ r₂) sl sr al ar =
      let k = cut l e b m sl in
      every_node_join (sides_ordered d) (without_greatest l e b m) (greatest e m) (below_greatest b m) (node l₂ e₂ b₂ r₂)
      (sides_join (greatest e m) (without_greatest l e b m) (below_greatest b m) (node l₂ e₂ b₂ r₂) k.under
      (all_weaker (less d x) (less d (greatest e m)) (λ z q. o.trans (greatest e m) x z (last_less x l e b m al) q) (siblings (node l₂ e₂ b₂ r₂)) ar))
      k.sorted k.below_sorted sr

  pub removed_sorted : (x : ℕ) (t : Forest) → Sorted d t → Sorted d (without_node x t)
  unfolding without_node sides_ordered
  removed_sorted x empty s = s
  removed_sorted x broken s = s
  removed_sorted x (node l e b r) s =
      let u = sorted_apart d l e b r s in
      elim (eqb_cases e x) [
        | inl h ↦ rw h.1 (joined_sorted e l r u.left_sorted u.right_sorted u.lefts u.rights)
        | inr h ↦
            rw h.1 (every_node_join (sides_ordered d) (without_node x l) e b (without_node x r)
            (and_true_of (all (greater d e) (siblings (without_node x l))) (all (less d e) (siblings (without_node x r)))
            (all_removed x (greater d e) l u.lefts) (all_removed x (less d e) r u.rights))
            (removed_sorted x l u.left_sorted) u.below_sorted (removed_sorted x r u.right_sorted))
      ]
