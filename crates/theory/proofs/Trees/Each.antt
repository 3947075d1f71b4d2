-- What holds of each sibling with the tree below it, whatever tree the siblings make.
use Prim.Native.Nat.{ℕ, ◌+◌, ◌≤◌, ◌<◌}
use mathlib.Core.Path.{◌≡◌, refl, sym, ap, ◌∙◌}
use mathlib.Core.Logic.{◌≢◌, inl, inr}
use mathlib.Core.Bool.{true, not, ◌&&◌, ◌||◌}
use mathlib.Core.List.{List, [], ◌++◌}
use native.Mathlib.Omega.{arith}
use lib.Dec.{eqb}
use Rattle.format.specs.Basics.Lists.{bit, count}
use Rattle.format.specs.Layout.Entry.{NOSTREAM}
use Rattle.format.specs.Layout.Directory.{Directory}
use Rattle.format.specs.Layout.Tree.{Forest, empty, broken, node, named, entries, siblings}
use Rattle.format.specs.Layout.Siblings.{greatest, top, without_greatest, below_greatest, sides_joined, without_node}
use Rattle.format.specs.Rules.Trees.{red, every_node, top_black, coloured}
use Rattle.theory.specs.TreeViews.{rows, child_of}
use Rattle.theory.specs.TreeDraw.{Draws, SameLinks}
use Rattle.theory.specs.TreeWays.{SameColour}
use Rattle.theory.specs.TreeEdits.{Shaped}
use Rattle.theory.proofs.Counts.{eqb_cases, bit_self, bit_other, count_append}
use Rattle.theory.proofs.Tests.{both}
use Rattle.theory.proofs.Trees.Grow.{count_node}
use Rattle.theory.proofs.Trees.Nodes.{every_node_apart, every_node_join}
use Rattle.theory.proofs.Trees.Draw.{draws_kept}
use Rattle.theory.proofs.Trees.Faces.{count_siblings_node, black_kept, paint_kept}
use Rattle.theory.proofs.Trees.Remove.{joined_siblings}

abbrev pub Each : (ℕ → Forest → Type 0) → Forest → Type 0
Each P empty = Unit {0}
Each P broken = ⊥
Each P (node l e b r) = P e b × Each P l × Each P r

-- ---- a sibling taken out

module _ (P : ℕ → Forest → Type 0) where
  last_each : (l : Forest) (e : ℕ) (b r : Forest) → Each P (node l e b r) → (Each P (without_greatest l e b r)) × (P (greatest e r) (below_greatest b r))
  unfolding without_greatest below_greatest greatest
  last_each l e b empty h = (h.1, h.0)
  last_each l e b broken h = absurd h.2
  last_each l e b (node l₂ e₂ b₂ r₂) h = let k = last_each l₂ e₂ b₂ r₂ h.2 in ((h.0, h.1, k.0), k.1)

  joined_each : (l r : Forest) → Each P l → Each P r → Each P (sides_joined l r)
  unfolding sides_joined
  joined_each empty r hl hr = hr
  joined_each broken r hl hr = hr
  joined_each (node l e b m) empty hl hr = hl
  joined_each (node l e b m) broken hl hr = hl
  joined_each (node l e b m) (node l₂ e₂ b₂ r₂) hl hr = let k = last_each l e b m hl in (k.1, k.0, hr)

  pub removed_each : (x : ℕ) (t : Forest) → Each P t → Each P (without_node x t)
  unfolding without_node
  removed_each x empty h = h
  removed_each x broken h = h
  removed_each x (node l e b r) h =
      elim (eqb_cases e x) [
        | inl q ↦ rw q.1 (joined_each l r h.1 h.2)
        | inr q ↦ rw q.1 (h.0, removed_each x l h.1, removed_each x r h.2)
      ]

  pub other_each : (x : ℕ) (t : Forest) → count x (siblings t) ≡ 0 → Each (λ e b. e ≢ x → P e b) t → Each P t
  other_each x empty c h = h
  other_each x broken c h = h
  other_each x (node l e b r) c h =
      let k = count_siblings_node x l e b r in (
        h.0 (λ z. omega (arith, bit_self x, ap (λ (i : ℕ). bit (eqb x i)) z)),
        other_each x l (omega arith) h.1,
        other_each x r (omega arith) h.2,
      )

-- what stood once is gone
pub removed_gone : (x : ℕ) (t : Forest) → count x (siblings t) ≤ 1 → count x (siblings (without_node x t)) ≡ 0
unfolding without_node siblings
removed_gone x empty h = refl
removed_gone x broken h = refl
removed_gone x (node l e b r) h =
    let c = count_siblings_node x l e b r in
    elim (eqb_cases e x) [
      | inl q ↦
          rw q.1 (omega (arith, ap (count x) (joined_siblings l r), count_append x (siblings l) (siblings r), bit_self x, ap (λ (i : ℕ). bit (eqb x i)) q.0))
      | inr q ↦
          rw q.1 (omega (
            arith,
            count_siblings_node x (without_node x l) e b (without_node x r),
            removed_gone x l (omega arith),
            removed_gone x r (omega arith),
            bit_other x e (λ z. q.0 (sym z)),
          ))
    ]

-- ---- the trees below the siblings

unfoldable pub belows : Forest → List ℕ
belows empty = []
belows broken = []
belows (node l e b r) = belows l ++ (entries b ++ belows r)

count_belows : (y : ℕ) (l : Forest) (e : ℕ) (b r : Forest) → count y (belows (node l e b r)) ≡ count y (belows l) + (count y (entries b) + count y (belows r))
unfolding belows
count_belows y l e b r = omega (arith, count_append y (belows l) (entries b ++ belows r), count_append y (entries b) (belows r))

-- an entry is a sibling or stands below one
pub count_level : (y : ℕ) (t : Forest) → count y (entries t) ≡ count y (siblings t) + count y (belows t)
unfolding entries siblings belows
count_level y empty = refl
count_level y broken = refl
count_level y (node l e b r) =
    omega (arith, count_node y l e b r, count_siblings_node y l e b r, count_belows y l e b r, count_level y l, count_level y r)

-- ---- all that is asked of a sibling beside its two sides

pub record Body (d : Directory) (e : ℕ) (b : Forest) : Type 0 where
  pub real : e ≢ NOSTREAM
  pub name : named d e ≡ true
  pub below : child_of d e ≡ top b
  pub drawn : Draws d b
  pub top_black_lem : top_black d b ≡ true
  pub paint : every_node (coloured d) b ≡ true

pub shaped_draws : (d : Directory) (t : Forest) → Shaped d t → Each (Body d) t → Draws d t
shaped_draws d empty s h = tt
shaped_draws d broken s h = h
shaped_draws d (node l e b r) s h =
    let k = h.0 in (
      record { real = k.real; name = k.name; lefts = s.0.lefts; below = k.below; rights = s.0.rights },
      shaped_draws d l s.1 h.1,
      k.drawn,
      shaped_draws d r s.2 h.2,
    )

pub shaped_paint : (d : Directory) (t : Forest) → Shaped d t → Each (Body d) t → (top_black d t ≡ true) × (every_node (coloured d) t ≡ true)
unfolding top_black every_node coloured
shaped_paint d empty s h = (refl, refl)
shaped_paint d broken s h = (refl, refl)
shaped_paint d (node l e b r) s h =
    let k = h.0 in (
      ap not s.0.black,
      every_node_join (coloured d) l e b r (rw s.0.black k.top_black_lem) (shaped_paint d l s.1 h.1).1 k.paint (shaped_paint d r s.2 h.2).1,
    )

-- the siblings but x keep what is below them
pub bodies : (d d₂ : Directory) (x : ℕ) → rows d₂ ≡ rows d → (t : Forest) → Draws d t → every_node (coloured d) t ≡ true
    → ((y : ℕ) → 0 < count y (siblings t) → y ≢ x → child_of d₂ y ≡ child_of d y)
    → ((y : ℕ) → 0 < count y (belows t) → (SameLinks d d₂ y) × (SameColour d d₂ y))
    → Each (λ e b. e ≢ x → Body d₂ e b) t
unfolding coloured
bodies d d₂ x n empty q s hs hb = tt
bodies d d₂ x n broken q s hs hb = q
bodies d d₂ x n (node l e b r) q s hs hb =
    let u = every_node_apart (coloured d) l e b r s in
    let v = both (not (red d e) || (top_black d l && top_black d r)) (top_black d b) u.0 in (
      λ h. record {
        real = q.0.real;
        name = rw n q.0.name;
        below = hs e (omega (arith, count_siblings_node e l e b r, bit_self e)) h ∙ q.0.below;
        drawn = draws_kept d d₂ n b q.2 (λ y c. (hb y (omega (arith, count_belows y l e b r))).0);
        top_black_lem = black_kept d d₂ b (λ y c. (hb y (omega (arith, count_belows y l e b r))).1) v.1;
        paint = paint_kept d d₂ b (λ y c. (hb y (omega (arith, count_belows y l e b r))).1) u.2;
      },
      bodies d d₂ x n l q.1 u.1 (λ y c. hs y (omega (arith, count_siblings_node y l e b r))) (λ y c. hb y (omega (arith, count_belows y l e b r))),
      bodies d d₂ x n r q.3 u.3 (λ y c. hs y (omega (arith, count_siblings_node y l e b r))) (λ y c. hb y (omega (arith, count_belows y l e b r))),
    )
