-- A tree in a forest is replaced: the outcome is drawn where one field outside has changed.
use mathlib.Core.Path.{◌≡◌, refl, sym, ap, ◌∙◌}
use mathlib.Core.Logic.{◌≢◌, inl, inr}
use Prim.Native.Nat.{ℕ, ◌+◌, ◌≤◌, ◌<◌}
use native.Mathlib.Decide.{dec_lt}
use native.Mathlib.Omega.{arith}
use lib.Dec.{eqb}
use Rattle.format.specs.Basics.Lists.{bit, count}
use Rattle.format.specs.Layout.Directory.{Directory}
use Rattle.format.specs.Layout.Tree.{Forest, empty, broken, node, entries}
use Rattle.theory.specs.TreeViews.{rows, child_of, whole}
use Rattle.theory.specs.TreeDraw.{link, Placed, Draws}
use Rattle.theory.specs.TreeWays.{Way, here, into_left, into_child, into_right, plug, slot_field, slot_entry, Aside, Replaced}
use Rattle.theory.proofs.Counts.{bit_self, bit_other}
use Rattle.theory.proofs.Trees.Grow.{count_node}
use Rattle.theory.proofs.Trees.Depth.{named_above}
use Rattle.theory.proofs.Trees.Draw.{draws_kept, draws_whole}
use Rattle.theory.proofs.Trees.Ways.{count_plug, apart_of, left_child, left_right, child_right, still_or_deep}
use Rattle.format.specs.Layout.Entry.{Field, left_field, child_field, right_field}
use Rattle.format.specs.Layout.Siblings.{top}

-- ---- one node of the way: the way goes into its field k, and its other fields name the trees p and q

module _ (d d₂ : Directory) (v : Way) (k : Field) (e : ℕ) (t₂ : Forest) (slot : link d₂ (slot_field v k) (slot_entry v e) ≡ top t₂) where
  -- an entry apart from the node and the rest of the way has no field at the way's end, and the node has at most the field k there
  away : (y : ℕ) → y ≢ e → count y (entries (plug v empty)) ≡ 0 → (j : Field) → Aside v k e j y
  away y h z j p q =
      elim (still_or_deep v k e) [
        | inl s ↦ h (q ∙ s.entry)
        | inr s ↦ let c = s.outside in let u = ap (λ (i : ℕ). count i (entries (plug v empty))) q in omega arith
      ]

  other_aside : count e (entries (plug v empty)) ≡ 0 → (j : Field) → j ≢ k → Aside v k e j e
  other_aside a j h p q =
      elim (still_or_deep v k e) [
        | inl s ↦ h (p ∙ s.field)
        | inr s ↦ let c = s.outside in let u = ap (λ (i : ℕ). count i (entries (plug v empty))) q in omega arith
      ]

  way_link : count e (entries (plug v empty)) ≡ 0 → ((j : Field) → Aside v k e j e → link d₂ j e ≡ link d j e)
      → (t : Forest) → link d k e ≡ top (plug v t) → link d₂ k e ≡ top (plug v t₂)
  way_link a kept t h =
      elim (still_or_deep v k e) [
        | inl s ↦ let i = s.field in let j = s.entry in let c = s.whole_is t₂ in cc
        | inr s ↦
            kept k (λ p q. let c = s.outside in let u = ap (λ (i : ℕ). count i (entries (plug v empty))) q in omega arith)
            ∙ h ∙ sym (s.top_same t t₂)
      ]

  module _ (n : rows d₂ ≡ rows d) (p q : Forest)
      (once : (y : ℕ) → bit (eqb y e) + (count y (entries (plug v empty)) + (count y (entries p) + count y (entries q))) ≤ 1)
      (kept : (j : Field) (y : ℕ) → 0 < bit (eqb y e) + (count y (entries (plug v empty)) + (count y (entries p) + count y (entries q)))
      → Aside v k e j y → link d₂ j y ≡ link d j y) where
    apart : count e (entries (plug v empty)) ≡ 0
    apart = omega (arith, once e, bit_self e)

    same_here : (j : Field) → Aside v k e j e → link d₂ j e ≡ link d j e
    same_here j s = kept j e (omega (arith, bit_self e)) s

    into : (t : Forest) → link d k e ≡ top (plug v t) → link d₂ k e ≡ top (plug v t₂)
    into = way_link apart same_here

    past : (j : Field) → j ≢ k → link d₂ j e ≡ link d j e
    past j h = same_here j (other_aside apart j h)

    -- the trees beside the way
    one_drawn : Draws d p → Draws d₂ p
    one_drawn h = draws_kept d d₂ n p h (λ y c. record { lefts = same y c left_field; below = same y c child_field; rights = same y c right_field })
      where
        same : (y : ℕ) → 0 < count y (entries p) → (j : Field) → link d₂ j y ≡ link d j y
        same y c j = kept j y (omega arith) (away y (apart_of y e (omega (arith, once y))) (omega (arith, once y)) j)

    two_drawn : Draws d q → Draws d₂ q
    two_drawn h = draws_kept d d₂ n q h (λ y c. record { lefts = same y c left_field; below = same y c child_field; rights = same y c right_field })
      where
        same : (y : ℕ) → 0 < count y (entries q) → (j : Field) → link d₂ j y ≡ link d j y
        same y c j = kept j y (omega arith) (away y (apart_of y e (omega (arith, once y))) (omega (arith, once y)) j)

-- ---- the whole forest

module _ (d d₂ : Directory) (n : rows d₂ ≡ rows d) (t t₂ : Forest) (new : Draws d₂ t₂) where
  pub plug_draws : (w : Way) (k : Field) (x : ℕ) → Draws d (plug w t) → ((y : ℕ) → count y (entries (plug w empty)) ≤ 1)
      → ((j : Field) (y : ℕ) → 0 < count y (entries (plug w empty)) → Aside w k x j y → link d₂ j y ≡ link d j y)
      → link d₂ (slot_field w k) (slot_entry w x) ≡ top t₂ → Draws d₂ (plug w t₂)
  plug_draws here k x q once kept slot = new
  plug_draws (into_left w e b r) k x q once kept slot = (
    record {
      real = p.real;
      name = rw n p.name;
      lefts = into d d₂ w left_field e t₂ slot n b r o s t p.lefts;
      below = past d d₂ w left_field e t₂ slot n b r o s child_field (λ z. left_child (sym z)) ∙ p.below;
      rights = past d d₂ w left_field e t₂ slot n b r o s right_field (λ z. left_right (sym z)) ∙ p.rights;
    },
    plug_draws w left_field e q.1 (λ y. omega (arith, o y)) (λ j y i a. s j y (omega arith) a) slot,
    one_drawn d d₂ w left_field e t₂ slot n b r o s q.2,
    two_drawn d d₂ w left_field e t₂ slot n b r o s q.3,
  )
    where
      p : Placed d (plug w t) e b r
      p = q.0

      o : (y : ℕ) → bit (eqb y e) + (count y (entries (plug w empty)) + (count y (entries b) + count y (entries r))) ≤ 1
      o y = omega (arith, count_node y (plug w empty) e b r, once y)

      s : (j : Field) (y : ℕ) → 0 < bit (eqb y e) + (count y (entries (plug w empty)) + (count y (entries b) + count y (entries r)))
          → Aside w left_field e j y → link d₂ j y ≡ link d j y
      s j y i a = kept j y (omega (arith, count_node y (plug w empty) e b r)) a
  plug_draws (into_child l e w r) k x q once kept slot = (
    record {
      real = p.real;
      name = rw n p.name;
      lefts = past d d₂ w child_field e t₂ slot n l r o s left_field left_child ∙ p.lefts;
      below = into d d₂ w child_field e t₂ slot n l r o s t p.below;
      rights = past d d₂ w child_field e t₂ slot n l r o s right_field (λ z. child_right (sym z)) ∙ p.rights;
    },
    one_drawn d d₂ w child_field e t₂ slot n l r o s q.1,
    plug_draws w child_field e q.2 (λ y. omega (arith, o y)) (λ j y i a. s j y (omega arith) a) slot,
    two_drawn d d₂ w child_field e t₂ slot n l r o s q.3,
  )
    where
      p : Placed d l e (plug w t) r
      p = q.0

      o : (y : ℕ) → bit (eqb y e) + (count y (entries (plug w empty)) + (count y (entries l) + count y (entries r))) ≤ 1
      o y = omega (arith, count_node y l e (plug w empty) r, once y)

      s : (j : Field) (y : ℕ) → 0 < bit (eqb y e) + (count y (entries (plug w empty)) + (count y (entries l) + count y (entries r)))
          → Aside w child_field e j y → link d₂ j y ≡ link d j y
      s j y i a = kept j y (omega (arith, count_node y l e (plug w empty) r)) a
  plug_draws (into_right l e b w) k x q once kept slot = (
    record {
      real = p.real;
      name = rw n p.name;
      lefts = past d d₂ w right_field e t₂ slot n l b o s left_field left_right ∙ p.lefts;
      below = past d d₂ w right_field e t₂ slot n l b o s child_field child_right ∙ p.below;
      rights = into d d₂ w right_field e t₂ slot n l b o s t p.rights;
    },
    one_drawn d d₂ w right_field e t₂ slot n l b o s q.1,
    two_drawn d d₂ w right_field e t₂ slot n l b o s q.2,
    plug_draws w right_field e q.3 (λ y. omega (arith, o y)) (λ j y i a. s j y (omega arith) a) slot,
  )
    where
      p : Placed d l e b (plug w t)
      p = q.0

      o : (y : ℕ) → bit (eqb y e) + (count y (entries (plug w empty)) + (count y (entries l) + count y (entries b))) ≤ 1
      o y = omega (arith, count_node y l e b (plug w empty), once y)

      s : (j : Field) (y : ℕ) → 0 < bit (eqb y e) + (count y (entries (plug w empty)) + (count y (entries l) + count y (entries b)))
          → Aside w right_field e j y → link d₂ j y ≡ link d j y
      s j y i a = kept j y (omega (arith, count_node y l e b (plug w empty))) a

-- every entry of a drawn forest is an entry other than 0
pub drawn_above : (d : Directory) (f : Forest) → Draws d f → count 0 (entries f) ≡ 0
unfolding entries
drawn_above d empty q = refl
drawn_above d broken q = absurd q
drawn_above d (node l e b r) q =
    omega (
      arith,
      count_node 0 l e b r,
      bit_other 0 e (λ z. omega (arith, z, named_above d e q.0.name)),
      drawn_above d l q.1,
      drawn_above d b q.2,
      drawn_above d r q.3,
    )

module _ (d d₂ : Directory) (w : Way) (t t₂ : Forest) (c : Replaced d d₂ w t t₂) where
  pub replaced_draws : Draws d₂ (plug w t₂)
  replaced_draws = plug_draws d d₂ c.rows_same t t₂ c.drawn_new w child_field 0 c.drawn c.once (λ j y i s. c.kept j y (inr i) s) c.slot

  outside_above : count 0 (entries (plug w empty)) ≡ 0
  outside_above = omega (arith, drawn_above d (plug w t) c.drawn, count_plug 0 w t)

  pub replaced_root : child_of d₂ 0 ≡ top (plug w t₂)
  replaced_root = way_link d d₂ w child_field 0 t₂ c.slot outside_above (λ j s. c.kept j 0 (inl refl) s) t c.root

  -- the forest of d₂ is that of d with the one tree replaced
  pub replaced_whole : whole d₂ ≡ plug w t₂
  replaced_whole = draws_whole d₂ (plug w t₂) replaced_root replaced_draws

pub drawn_positive : (d : Directory) (f : Forest) → Draws d f → (y : ℕ) → 0 < count y (entries f) → 0 < y
drawn_positive d f q y h =
    elim (dec_lt 0 y) [
      | yes k ↦ k
      | no k ↦
          let e : y ≡ 0 = omega arith in
          absurd (omega (arith, drawn_above d f q, ap (λ (i : ℕ). count i (entries f)) e, h))
    ]
