-- The tree that a number names: what it is step by step, and that a sound one is the same at every greater depth.
use mathlib.Core.Path.{◌≡◌, refl, sym, ap, ◌∙◌}
use mathlib.Core.Logic.{◌≢◌, inl, inr}
use mathlib.Core.Bool.{Bool, true, false, ◌&&◌}
use mathlib.Core.List.{◌∷◌, ◌++◌}
use Prim.Native.Nat.{ℕ, zero, suc, ◌+◌, ◌≤◌}
use native.Mathlib.Omega.{arith}
use native.Mathlib.Decide.{le_ind}
use borrow.Author.Tests.{eq-eqb, ne_eqb}
use lib.Dec.{eqb}
use Rattle.format.specs.Basics.Lists.{bit, count}
use Rattle.format.specs.Layout.Entry.{NOSTREAM}
use Rattle.format.specs.Layout.Directory.{Directory}
use Rattle.format.specs.Layout.Tree.{Forest, empty, node, named, tree_of, grow, entries}
use Rattle.format.specs.Rules.Trees.{sound}
use Rattle.theory.specs.TreeViews.{left_of, right_of, child_of, step}
use Rattle.theory.proofs.Counts.{eqb_cases, count_append}
use Rattle.theory.proofs.Tests.{clash, both}

-- a sound tree of the number x, drawn to the depth f, is a node with sound parts, drawn to the depth g
pub record Unrolled (d : Directory) (f g x : ℕ) : Type 0 where
  pub name : named d x ≡ true
  pub tree : grow d f x ≡ step d g x
  pub left_sound : sound (grow d g (left_of d x)) ≡ true
  pub below_sound : sound (grow d g (child_of d x)) ≡ true
  pub right_sound : sound (grow d g (right_of d x)) ≡ true

pub sound_apart : (l : Forest) (e : ℕ) (b r : Forest) → sound (node l e b r) ≡ true → (sound l ≡ true) × (sound b ≡ true) × (sound r ≡ true)
unfolding sound
sound_apart l e b r s =
    let u = both (sound l) (sound b && sound r) s in
    let v = both (sound b) (sound r) u.1 in
    (u.0, v.0, v.1)

module _ (d : Directory) where
  pub grow_none : (f x : ℕ) → x ≡ NOSTREAM → grow d f x ≡ empty
  unfolding grow tree_of
  grow_none zero x e = rw (eq-eqb x NOSTREAM e)
  grow_none (suc f) x e = rw (eq-eqb x NOSTREAM e)

  pub grow_node : (f x : ℕ) → x ≢ NOSTREAM → named d x ≡ true → grow d (suc f) x ≡ step d f x
  unfolding grow tree_of
  grow_node f x h n = rw (ne_eqb x NOSTREAM h, n)

  -- a sound tree drawn to no depth is empty
  pub sound_zero : (x : ℕ) → sound (grow d zero x) ≡ true → x ≡ NOSTREAM
  unfolding grow tree_of sound
  sound_zero x s =
      elim (eqb_cases x NOSTREAM) [
        | inl e ↦ e.0
        | inr e ↦ absurd (clash s (rw e.1))
      ]

  pub sound_named : (f x : ℕ) → x ≢ NOSTREAM → sound (grow d (suc f) x) ≡ true → named d x ≡ true
  unfolding grow tree_of sound
  sound_named f x h s = go (named d x) (rw (ne_eqb x NOSTREAM h) at s)
    where
      go : (b : Bool) → sound (tree_of false b (step d f x)) ≡ true → b ≡ true
      go true t = refl
      go false t = absurd (clash t refl)

  -- one step down
  pub down : (f x : ℕ) → x ≢ NOSTREAM → sound (grow d (suc f) x) ≡ true → Unrolled d (suc f) f x
  down f x h s =
      let n = sound_named f x h s in
      let e = grow_node f x h n in
      let u = sound_apart (grow d f (left_of d x)) x (grow d f (child_of d x)) (grow d f (right_of d x)) (ap sound (sym e) ∙ s) in
      record { name = n; tree = e; left_sound = u.0; below_sound = u.1; right_sound = u.2 }

  grow_more : (f x : ℕ) → sound (grow d f x) ≡ true → grow d (suc f) x ≡ grow d f x
  grow_more zero x s = let e = sound_zero x s in grow_none 1 x e ∙ sym (grow_none 0 x e)
  grow_more (suc f) x s =
      elim (eqb_cases x NOSTREAM) [
        | inl e ↦ grow_none (suc (suc f)) x e.0 ∙ sym (grow_none (suc f) x e.0)
        | inr e ↦
            let u = down f x e.0 s in
            let l = grow_more f (left_of d x) u.left_sound in
            let b = grow_more f (child_of d x) u.below_sound in
            let r = grow_more f (right_of d x) u.right_sound in
            let n = grow_node (suc f) x e.0 u.name in
            let t = u.tree in
            cc
      ]

  -- a sound tree is the same at every greater depth
  pub grow_le : (f g x : ℕ) → f ≤ g → sound (grow d f x) ≡ true → grow d g x ≡ grow d f x
  grow_le f g x h s = le_ind {n = f} (λ m. grow d m x ≡ grow d f x) refl (λ m l e. grow_more m x (ap sound e ∙ s) ∙ e) g h

  pub sound_le : (f g x : ℕ) → f ≤ g → sound (grow d f x) ≡ true → sound (grow d g x) ≡ true
  sound_le f g x h s = ap sound (grow_le f g x h s) ∙ s

  -- a sound tree that is not empty: its entry and its three parts, all to the same depth
  pub unroll : (f x : ℕ) → sound (grow d f x) ≡ true → x ≢ NOSTREAM → Unrolled d f f x
  unroll zero x s h = absurd (h (sound_zero x s))
  unroll (suc f) x s h =
      let u = down f x h s in
      let el = grow_more f (left_of d x) u.left_sound in
      let eb = grow_more f (child_of d x) u.below_sound in
      let er = grow_more f (right_of d x) u.right_sound in
      let t = u.tree in
      record { name = u.name; tree = cc; left_sound = rw el u.left_sound; below_sound = rw eb u.below_sound; right_sound = rw er u.right_sound }

  -- the other way: three sound parts make a sound tree, one deeper
  pub roll : (f x : ℕ) → x ≢ NOSTREAM → named d x ≡ true
      → sound (grow d f (left_of d x)) ≡ true → sound (grow d f (child_of d x)) ≡ true → sound (grow d f (right_of d x)) ≡ true
      → sound (grow d (suc f) x) ≡ true
  unfolding sound
  roll f x h n l b r = rw (grow_node f x h n, l, b, r)

-- how often a number stands in the tree of a node
pub count_node : (x : ℕ) (l : Forest) (e : ℕ) (b r : Forest)
    → count x (entries (node l e b r)) ≡ bit (eqb x e) + (count x (entries l) + (count x (entries b) + count x (entries r)))
unfolding entries
count_node x l e b r = omega (arith, count_append x (entries l) (e ∷ (entries b ++ entries r)), count_append x (entries b) (entries r))
