-- The depth is no part of the meaning: a tree that is sound at some depth is drawn by the number of entries, and by every greater depth.
use mathlib.Core.Path.{◌≡◌, sym, ap, subst}
use mathlib.Core.Logic.{◌≢◌, inl, inr}
use mathlib.Core.Bool.{true, ◌&&◌}
use mathlib.Core.List.{List, [], ◌∷◌, ◌++◌}
use Prim.Native.Nat.{ℕ, zero, suc, ◌+◌, ◌-◌, ◌≤◌, ◌<◌}
use native.Mathlib.Omega.{arith}
use native.Mathlib.Decide.{dec_le, dec_lt}
use borrow.Author.Tests.{ltb-true}
use lib.Dec.{ltb}
use lib.ListN.{length, length-append}
use Rattle.format.specs.Basics.Lists.{bit, count}
use Rattle.format.specs.Layout.Entry.{NOSTREAM}
use Rattle.format.specs.Layout.Directory.{Directory}
use Rattle.format.specs.Layout.Tree.{Forest, node, grow, forest, entries, named}
use Rattle.format.specs.Rules.Trees.{sound}
use Rattle.theory.specs.TreeViews.{rows, left_of, right_of, child_of, at, sound_at}
use Rattle.theory.proofs.Counts.{eqb_cases, pigeonhole}
use Rattle.theory.proofs.Tests.{both}
use Rattle.theory.proofs.Trees.Lists.{same_test}
use Rattle.theory.proofs.Trees.Grow.{grow_none, grow_le, sound_le, sound_zero, down, unroll, roll}

pub length_node : (l : Forest) (e : ℕ) (b r : Forest)
    → length (entries (node l e b r)) ≡ suc (length (entries l) + (length (entries b) + length (entries r)))
unfolding entries
length_node l e b r = omega (arith, length-append (entries l) (e ∷ (entries b ++ entries r)), length-append (entries b) (entries r))

pub named_above : (d : Directory) (x : ℕ) → named d x ≡ true → 0 < x
named_above d x n = ltb-true 0 x (both (ltb 0 x) (ltb x (rows d)) n).0

pub named_inside : (d : Directory) (x : ℕ) → named d x ≡ true → x < rows d
named_inside d x n = ltb-true x (rows d) (both (ltb 0 x) (ltb x (rows d)) n).1

module _ (d : Directory) (deep : ℕ) where
  -- how many entries the tree of x has, drawn to the depth `deep`
  abbrev size : ℕ → ℕ
  size x = length (entries (grow d deep x))

  -- the way to x: different entries, the tree of each larger than the tree of x
  record Way (x : ℕ) (way : List ℕ) : Type 0 where
    below : (s : ℕ) → 0 < count s way → s < rows d
    once : (s : ℕ) → count s way ≤ 1
    larger : (s : ℕ) → 0 < count s way → size x < size s

  way_on : (x y : ℕ) (way : List ℕ) → x < rows d → size y < size x → Way x way → Way y (x ∷ way)
  way_on x y way h l w = record {
    below = λ s q.
        elim (eqb_cases s x) [
          | inl e ↦ omega arith
          | inr e ↦ w.below s (omega (arith, ap bit e.1))
        ];
    once = λ s.
        elim (eqb_cases s x) [
          | inl e ↦
              elim (dec_lt 0 (count s way)) [
                | yes p ↦ absurd (omega (arith, w.larger s p, ap size e.0))
                | no p ↦ omega (arith, ap bit e.1)
              ]
          | inr e ↦ omega (arith, w.once s, ap bit e.1)
        ];
    larger = λ s q.
        elim (eqb_cases s x) [
          | inl e ↦ omega (arith, ap size e.0)
          | inr e ↦ omega (arith, w.larger s (omega (arith, ap bit e.1)))
        ];
  }

  -- what is left of the number of entries is depth enough for what is left of the way
  way_enough : (f x k : ℕ) (way : List ℕ) → f ≤ deep → sound (grow d f x) ≡ true → Way x way → k + length way ≡ rows d → sound (grow d k x) ≡ true
  unfolding sound
  way_enough zero x k way h s w q = rw (grow_none d k x (sound_zero d x s))
  way_enough (suc f) x k way h s w q =
      elim (eqb_cases x NOSTREAM) [
        | inl e ↦ rw (grow_none d k x e.0)
        | inr e ↦
            let u = down d f x e.0 s in
            let i = named_inside d x u.name in
            let t = ap (λ (t : Forest). length (entries t)) (unroll d deep x (sound_le d (suc f) deep x h s) e.0).tree in
            let n = length_node (grow d deep (left_of d x)) x (grow d deep (child_of d x)) (grow d deep (right_of d x)) in
            let wl = way_on x (left_of d x) way i (omega arith) w in
            let wb = way_on x (child_of d x) way i (omega arith) w in
            let wr = way_on x (right_of d x) way i (omega arith) w in
            let p = pigeonhole (x ∷ way) (rows d) wl.below wl.once in
            let z : suc (k - 1) ≡ k = omega arith in
            subst (λ (m : ℕ). sound (grow d m x) ≡ true) z
            (roll d (k - 1) x e.0 u.name
            (way_enough f (left_of d x) (k - 1) (x ∷ way) (omega arith) u.left_sound wl (omega arith))
            (way_enough f (child_of d x) (k - 1) (x ∷ way) (omega arith) u.below_sound wb (omega arith))
            (way_enough f (right_of d x) (k - 1) (x ∷ way) (omega arith) u.right_sound wr (omega arith)))
      ]

module _ (d : Directory) where
  -- the number of entries is depth enough
  pub depth_enough : (f x : ℕ) → sound (grow d f x) ≡ true → sound (at d x) ≡ true
  depth_enough f x s =
      way_enough d f f x (rows d) [] (omega arith) s
      (record { below = λ s q. absurd (omega arith); once = λ s. omega arith; larger = λ s q. absurd (omega arith) }) (omega arith)

  -- whatever depth draws a sound tree draws this one
  pub depth_same : (f x : ℕ) → sound (grow d f x) ≡ true → grow d f x ≡ at d x
  depth_same f x s =
      elim (dec_le f (rows d)) [
        | yes h ↦ sym (grow_le d f (rows d) x h s)
        | no h ↦ grow_le d (rows d) f x (omega arith) (depth_enough f x s)
      ]

  -- from the number of entries on, no depth makes a tree sound that is not
  pub depth_sound : (f x : ℕ) → rows d ≤ f → sound (grow d f x) ≡ sound (at d x)
  depth_sound f x h = same_test (sound (grow d f x)) (sound (at d x)) (depth_enough f x) (sound_le d (rows d) f x h)

  pub forest_depth : (f : ℕ) → sound (grow d f (child_of d 0)) ≡ true → forest d ≡ grow d f (child_of d 0)
  unfolding forest
  forest_depth f s = sym (depth_same f (child_of d 0) s)

  -- a tree is sound exactly if its three parts are, all to the same depth
  pub sound_node : (x : ℕ) → x ≢ NOSTREAM → named d x ≡ true → sound_at d x ≡ (sound_at d (left_of d x) && (sound_at d (child_of d x) && sound_at d (right_of d x)))
  sound_node x h n =
      same_test (sound_at d x) (sound_at d (left_of d x) && (sound_at d (child_of d x) && sound_at d (right_of d x)))
      (λ s.
      let u = unroll d (rows d) x s h in
      rw (u.left_sound, u.below_sound, u.right_sound))
      (λ s.
      let u = both (sound_at d (left_of d x)) (sound_at d (child_of d x) && sound_at d (right_of d x)) s in
      let v = both (sound_at d (child_of d x)) (sound_at d (right_of d x)) u.1 in
      depth_enough (suc (rows d)) x (roll d (rows d) x h n u.0 v.0 v.1))
