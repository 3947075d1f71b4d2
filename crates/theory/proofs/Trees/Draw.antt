-- A sound tree is drawn, and what is drawn is the tree that its top names: so a directory's forest is known from its fields.
use mathlib.Core.Path.{◌≡◌, refl, sym, ap, ◌∙◌}
use mathlib.Core.Bool.{true}
use Prim.Native.Nat.{ℕ, zero, suc, ◌+◌, ◌≤◌, ◌<◌}
use native.Mathlib.Omega.{arith}
use Rattle.format.specs.Basics.Lists.{count}
use Rattle.format.specs.Layout.Directory.{Directory}
use Rattle.format.specs.Layout.Tree.{Forest, empty, broken, node, grow, entries}
use Rattle.format.specs.Rules.Trees.{sound}
use Rattle.theory.specs.TreeViews.{rows, child_of, at, whole}
use Rattle.theory.specs.TreeDraw.{Draws, SameLinks}
use Rattle.theory.proofs.Counts.{bit_self}
use Rattle.theory.proofs.Trees.Grow.{grow_none, grow_node, count_node}
use Rattle.theory.proofs.Trees.Depth.{depth_same}
use Rattle.theory.proofs.Trees.Stand.{tree_ind, standing}
use Rattle.format.specs.Layout.Siblings.{top}

-- more than the number of nodes on any way down
height : Forest → ℕ
height empty = 0
height broken = 0
height (node l e b r) = suc (height l + (height b + height r))

module _ (d : Directory) where
  -- a sound tree is drawn by its own fields
  pub sound_draws : (x : ℕ) → sound (at d x) ≡ true → (Draws d (at d x)) × (top (at d x) ≡ x)
  sound_draws =
      tree_ind d (λ x t. (Draws d t) × (top t ≡ x)) (λ x e. (tt, sym e))
      (λ x s hl hb hr.
      let u = standing d x s in
      ((record { real = s.real; name = u.name; lefts = sym hl.1; below = sym hb.1; rights = sym hr.1 }, hl.0, hb.0, hr.0), refl))

  pub draws_sound : (f : Forest) → Draws d f → sound f ≡ true
  unfolding sound
  draws_sound empty h = refl
  draws_sound broken h = absurd h
  draws_sound (node l e b r) h = rw (draws_sound l h.1, draws_sound b h.2, draws_sound r h.3)

  draws_grow : (f : Forest) (k : ℕ) → height f ≤ k → Draws d f → grow d k (top f) ≡ f
  unfolding height
  draws_grow empty k h q = grow_none d k (top empty) refl
  draws_grow broken k h q = absurd q
  draws_grow (node l e b r) zero h q = absurd (omega arith)
  draws_grow (node l e b r) (suc k) h q =
      let p = q.0 in
      let hl = draws_grow l k (omega arith) q.1 in
      let hb = draws_grow b k (omega arith) q.2 in
      let hr = draws_grow r k (omega arith) q.3 in
      let g = grow_node d k e p.real p.name in
      let el = p.lefts in
      let eb = p.below in
      let er = p.rights in
      cc

  -- what is drawn is the tree that its top names
  pub draws_at : (f : Forest) → Draws d f → at d (top f) ≡ f
  draws_at f q =
      let g = draws_grow f (height f) (omega arith) q in
      sym (depth_same d (height f) (top f) (ap sound g ∙ draws_sound f q)) ∙ g

  pub draws_whole : (f : Forest) → child_of d 0 ≡ top f → Draws d f → whole d ≡ f
  draws_whole f e q = ap (at d) e ∙ draws_at f q

-- a forest whose entries keep their fields is still drawn
pub draws_kept : (d d₂ : Directory) → rows d₂ ≡ rows d → (f : Forest) → Draws d f
    → ((y : ℕ) → 0 < count y (entries f) → SameLinks d d₂ y) → Draws d₂ f
draws_kept d d₂ n empty q h = tt
draws_kept d d₂ n broken q h = absurd q
draws_kept d d₂ n (node l e b r) q h =
    let p = q.0 in
    let s = h e (omega (arith, count_node e l e b r, bit_self e)) in (
      record { real = p.real; name = rw n p.name; lefts = s.lefts ∙ p.lefts; below = s.below ∙ p.below; rights = s.rights ∙ p.rights },
      draws_kept d d₂ n l q.1 (λ y c. h y (omega (arith, count_node y l e b r))),
      draws_kept d d₂ n b q.2 (λ y c. h y (omega (arith, count_node y l e b r))),
      draws_kept d d₂ n r q.3 (λ y c. h y (omega (arith, count_node y l e b r))),
    )
