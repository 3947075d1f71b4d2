-- A test of every node of a tree is a test of every entry of it, and in a directory of the right shape a test of every object.
use mathlib.Core.Path.{◌≡◌, refl, sym, ap, ◌∙◌}
use mathlib.Core.Logic.{inl, inr, ⊎_elim}
use mathlib.Core.Bool.{Bool, true, false, ◌&&◌}
use mathlib.Core.List.{◌∷◌, ◌++◌}
use Prim.Native.Nat.{ℕ, ◌≤◌, ◌<◌}
use native.Mathlib.Omega.{arith}
use native.Mathlib.Decide.{dec_lt}
use borrow.Author.Tests.{eqb-true}
use lib.ListN.{length}
use Rattle.format.specs.Basics.Lists.{bit, count, all}
use Rattle.format.specs.Layout.Directory.{Directory}
use Rattle.format.specs.Layout.Tree.{Forest, node, forest, entries}
use Rattle.format.specs.Rules.Trees.{sound, is_object, reached_right, reached_once, every_node}
use Rattle.theory.specs.TreeViews.{rows, left_of, right_of, child_of, at, whole, shape_ok, Standing, NodeTest, test_at}
use Rattle.theory.proofs.Counts.{eqb_cases, bit_true, pigeonhole}
use Rattle.theory.proofs.Tests.{both, below_at, all_at, all_append}
use Rattle.theory.proofs.Trees.Lists.{all_of, one_of_three}
use Rattle.theory.proofs.Trees.Grow.{count_node}
use Rattle.theory.proofs.Trees.Stand.{standing, tree_ind, entry_stands}

pub every_node_apart : (q : NodeTest) (l : Forest) (e : ℕ) (b r : Forest) → every_node q (node l e b r) ≡ true
    → (q l e b r ≡ true) × (every_node q l ≡ true) × (every_node q b ≡ true) × (every_node q r ≡ true)
unfolding every_node
every_node_apart q l e b r t =
    let u = both (q l e b r) (every_node q l && (every_node q b && every_node q r)) t in
    let v = both (every_node q l) (every_node q b && every_node q r) u.1 in
    let w = both (every_node q b) (every_node q r) v.1 in
    (u.0, v.0, w.0, w.1)

pub every_node_join : (q : NodeTest) (l : Forest) (e : ℕ) (b r : Forest)
    → q l e b r ≡ true → every_node q l ≡ true → every_node q b ≡ true → every_node q r ≡ true → every_node q (node l e b r) ≡ true
unfolding every_node
every_node_join q l e b r h s t u = rw (h, s, t, u)

module _ (d : Directory) where
  -- a test of every node is a test of every entry
  pub every_node_all : (q : NodeTest) (x : ℕ) → sound (at d x) ≡ true → every_node q (at d x) ≡ all (test_at d q) (entries (at d x))
  unfolding every_node entries all
  every_node_all q =
      tree_ind d (λ x t. every_node q t ≡ all (test_at d q) (entries t)) (λ x e. refl)
      (λ x s hl hb hr.
      let l = entries (at d (left_of d x)) in
      let b = entries (at d (child_of d x)) in
      let r = entries (at d (right_of d x)) in
      let p = test_at d q in
      rw (hl, hb, hr)
      (swap (p x) (all p l) (all p b) (all p r)
      ∙ sym (all_append p l (x ∷ (b ++ r)) ∙ ap (λ (c : Bool). all p l && (p x && c)) (all_append p b r))))
    where
      swap : (a l b r : Bool) → (a && (l && (b && r))) ≡ (l && (a && (b && r)))
      swap true l b r = refl
      swap false true b r = refl
      swap false false b r = refl

  -- what every node of a tree passes, every node of the tree at each of its entries passes
  pub every_node_inside : (q : NodeTest) (y : ℕ) → sound (at d y) ≡ true → every_node q (at d y) ≡ true
      → (x : ℕ) → 0 < count x (entries (at d y)) → every_node q (at d x) ≡ true
  unfolding entries
  every_node_inside q =
      tree_ind d (λ y t. every_node q t ≡ true → (x : ℕ) → 0 < count x (entries t) → every_node q (at d x) ≡ true) (λ y e t x h. absurd (omega arith))
      (λ y s hl hb hr t x h.
      let c = count_node x (at d (left_of d y)) y (at d (child_of d y)) (at d (right_of d y)) in
      let u = every_node_apart q (at d (left_of d y)) y (at d (child_of d y)) (at d (right_of d y)) t in
      elim (eqb_cases x y) [
        | inl e ↦ rw (e.0, (standing d y s).tree) t
        | inr e ↦
            let z = ap bit e.1 in
            let l = count x (entries (at d (left_of d y))) in
            let b = count x (entries (at d (child_of d y))) in
            let r = count x (entries (at d (right_of d y))) in
            ⊎_elim (λ p. hl u.1 x p) (λ p. ⊎_elim (λ k. hb u.2 x k) (λ k. hr u.3 x k) p) (one_of_three l b r (omega arith))
      ])

  module _ (ok : shape_ok d ≡ true) where
    pub shape_sound : sound (whole d) ≡ true
    unfolding shape_ok
    shape_sound = (both (sound (whole d)) (reached_once d) ok).0

    pub shape_count : (x : ℕ) → x < rows d → count x (entries (whole d)) ≡ bit (is_object d x)
    unfolding shape_ok reached_once reached_right forest
    shape_count x l = eqb-true _ _ (below_at (rows d) (reached_right d) (both (sound (whole d)) (reached_once d) ok).1 x l)

    -- an entry that is in the trees is one of the directory, and an object
    pub reached_inside : (x : ℕ) → 0 < count x (entries (whole d)) → x < rows d
    reached_inside x c = (entry_stands d (child_of d 0) shape_sound x c).inside

    pub reached_object : (x : ℕ) → 0 < count x (entries (whole d)) → is_object d x ≡ true
    reached_object x c = bit_true (is_object d x) (omega (arith, shape_count x (reached_inside x c)))

    pub object_counts : (x : ℕ) → x < rows d → is_object d x ≡ true → 0 < count x (entries (whole d))
    object_counts x l o = omega (arith, shape_count x l, ap bit o)

    pub object_stands : (x : ℕ) → x < rows d → is_object d x ≡ true → Standing d x
    object_stands x l o = entry_stands d (child_of d 0) shape_sound x (object_counts x l o)

    -- each entry of the whole is an object
    pub entry_object : (x : ℕ) → 0 < count x (entries (whole d)) → is_object d x ≡ true
    entry_object x c = go (is_object d x) (shape_count x (entry_stands d (child_of d 0) shape_sound x c).inside)
      where
        go : (b : Bool) → count x (entries (whole d)) ≡ bit b → b ≡ true
        go true e = refl
        go false e = absurd (omega arith)

    -- no entry stands in the whole twice, so there are no more than the directory has
    pub entries_once : (x : ℕ) → count x (entries (whole d)) ≤ 1
    entries_once x =
        elim (dec_lt 0 (count x (entries (whole d)))) [
          | yes c ↦ omega (arith, shape_count x (entry_stands d (child_of d 0) shape_sound x c).inside, ap bit (entry_object x c))
          | no c ↦ omega arith
        ]

    pub entries_few_lem : length (entries (whole d)) ≤ rows d
    entries_few_lem = pigeonhole (entries (whole d)) (rows d) (λ x c. (entry_stands d (child_of d 0) shape_sound x c).inside) entries_once

    module _ (q : NodeTest) where
      pub objects_nodes : ((x : ℕ) → x < rows d → is_object d x ≡ true → test_at d q x ≡ true) → every_node q (whole d) ≡ true
      objects_nodes h =
          every_node_all q (child_of d 0) shape_sound
          ∙ all_of (test_at d q) (entries (whole d)) (λ x c. h x (entry_stands d (child_of d 0) shape_sound x c).inside (entry_object x c))
