-- Induction over a sound tree, and that each of its entries names a sound tree itself.
use mathlib.Core.Path.{◌≡◌, ap}
use mathlib.Core.Logic.{◌≢◌, inl, inr, ⊎_elim}
use mathlib.Core.Bool.{true}
use Prim.Native.Nat.{ℕ, zero, suc, ◌≤◌, ◌<◌}
use native.Mathlib.Omega.{arith}
use Rattle.format.specs.Basics.Lists.{bit, count}
use Rattle.format.specs.Layout.Entry.{NOSTREAM}
use Rattle.format.specs.Layout.Directory.{Directory}
use Rattle.format.specs.Layout.Tree.{Forest, empty, grow, entries}
use Rattle.format.specs.Rules.Trees.{sound}
use Rattle.theory.specs.TreeViews.{rows, left_of, right_of, child_of, step, at, Standing}
use Rattle.theory.proofs.Counts.{eqb_cases}
use Rattle.theory.proofs.Trees.Lists.{one_of_three}
use Rattle.theory.proofs.Trees.Grow.{grow_none, sound_zero, sound_le, Unrolled, down, unroll, count_node}
use Rattle.theory.proofs.Trees.Depth.{named_above, named_inside}

module _ (d : Directory) where
  pub stand : (x : ℕ) → x ≢ NOSTREAM → sound (at d x) ≡ true → Standing d x
  stand x h s =
      let n = (unroll d (rows d) x s h).name in
      record { real = h; tree_sound = s; above = named_above d x n; inside = named_inside d x n }

  pub standing : (x : ℕ) → Standing d x → Unrolled d (rows d) (rows d) x
  standing x s = unroll d (rows d) x s.tree_sound s.real

  module _ (x : ℕ) (s : Standing d x) where
    pub left_stands : left_of d x ≢ NOSTREAM → Standing d (left_of d x)
    left_stands h = stand (left_of d x) h (standing x s).left_sound

    pub right_stands : right_of d x ≢ NOSTREAM → Standing d (right_of d x)
    right_stands h = stand (right_of d x) h (standing x s).right_sound

    pub child_stands : child_of d x ≢ NOSTREAM → Standing d (child_of d x)
    child_stands h = stand (child_of d x) h (standing x s).below_sound

  module _ (P : ℕ → Forest → Type 0)
      (none : (x : ℕ) → x ≡ NOSTREAM → P x empty)
      (some : (x : ℕ) → Standing d x
      → P (left_of d x) (at d (left_of d x)) → P (child_of d x) (at d (child_of d x)) → P (right_of d x) (at d (right_of d x))
      → P x (step d (rows d) x)) where
    tree_go : (f : ℕ) → f ≤ rows d → (x : ℕ) → sound (grow d f x) ≡ true → P x (at d x)
    tree_go zero h x s = let e = sound_zero d x s in rw (grow_none d (rows d) x e) (none x e)
    tree_go (suc f) h x s =
        elim (eqb_cases x NOSTREAM) [
          | inl e ↦ rw (grow_none d (rows d) x e.0) (none x e.0)
          | inr e ↦
              let u = down d f x e.0 s in
              let w = stand x e.0 (sound_le d (suc f) (rows d) x h s) in
              rw (standing x w).tree
              (some x w
              (tree_go f (omega arith) (left_of d x) u.left_sound)
              (tree_go f (omega arith) (child_of d x) u.below_sound)
              (tree_go f (omega arith) (right_of d x) u.right_sound))
        ]

    -- induction over a sound tree
    pub tree_ind : (x : ℕ) → sound (at d x) ≡ true → P x (at d x)
    tree_ind x s = tree_go (rows d) (omega arith) x s

  -- each entry of a sound tree stands
  pub entry_stands : (y : ℕ) → sound (at d y) ≡ true → (x : ℕ) → 0 < count x (entries (at d y)) → Standing d x
  unfolding entries
  entry_stands =
      tree_ind (λ y t. (x : ℕ) → 0 < count x (entries t) → Standing d x) (λ y e x h. absurd (omega arith))
      (λ y s hl hb hr x h.
      let c = count_node x (at d (left_of d y)) y (at d (child_of d y)) (at d (right_of d y)) in
      elim (eqb_cases x y) [
        | inl e ↦ rw e.0 s
        | inr e ↦
            let z = ap bit e.1 in
            let l = count x (entries (at d (left_of d y))) in
            let b = count x (entries (at d (child_of d y))) in
            let r = count x (entries (at d (right_of d y))) in
            ⊎_elim (λ p. hl x p) (λ p. ⊎_elim (λ q. hb x q) (λ q. hr x q) p) (one_of_three l b r (omega arith))
      ])
