-- The links that a removal writes, one after the other, make the tree without the node.
use mathlib.Core.Path.{◌≡◌, refl, sym, ap, ◌∙◌}
use mathlib.Core.Logic.{◌≢◌, ◌⊎◌, inl, inr}
use Prim.Native.Nat.{ℕ, ◌+◌, ◌≤◌, ◌<◌}
use native.Mathlib.Omega.{arith}
use lib.Dec.{eqb}
use Rattle.format.specs.Basics.Lists.{bit, count}
use Rattle.format.specs.Layout.Entry.{Field, left_field, right_field}
use Rattle.format.specs.Layout.Directory.{Directory}
use Rattle.format.specs.Layout.Tree.{Forest, empty, node, entries}
use Rattle.format.specs.Layout.Siblings.{top, sides_joined}
use Rattle.theory.specs.TreeOrder.{Rules}
use Rattle.theory.specs.TreeDraw.{link, Draws}
use Rattle.theory.specs.TreeWays.{Way, plug, slot_entry}
use Rattle.theory.specs.TreeEdits.{Removed}
use Rattle.theory.specs.TreeUnlink.{Rightward, Located, Bypassed, Inherited, Blanked}
use Rattle.theory.proofs.Counts.{bit_self}
use Rattle.theory.proofs.Trees.Grow.{count_node}
use Rattle.theory.proofs.Trees.Ways.{count_plug, apart_of, left_child, child_right, left_right, still_or_deep, Still, Deep}
use Rattle.theory.proofs.Trees.Parts.{draws_part}
use Rattle.theory.proofs.Trees.Unlink.{it_drawn, way_once, inside_aside}
use Rattle.theory.proofs.Trees.Heirs.{bypassed, inherited}
use Rattle.frame.specs.Unlink.{slot_of, owner_of, LinkSet}

module _ (d : Directory) (w v : Way) (t l : Forest) (x : ℕ) (r : Forest) (c : Located d w v t l x r) (k : Rules d) where
  pub node_drawn : Draws d (node l x empty r)
  node_drawn = it_drawn d d w v t l x r c k refl

  pub slot_apart : (y : ℕ) → 0 < count y (entries (node l x empty r)) → owner_of w v ≢ y
  slot_apart y h e = inside_aside d d w v t l x r c k refl y h (slot_of w v) refl (sym e)

  pub slot_not_it : owner_of w v ≢ x
  slot_not_it = slot_apart x (omega (arith, count_node x l x empty r, bit_self x))

-- ---- past an empty side

module _ (d d₁ d₃ : Directory) (w v : Way) (t l : Forest) (x : ℕ) (r : Forest) (c : Located d w v t l x r) (k : Rules d)
    (on : (j : Field) (y : ℕ) → y ≢ x → link d₃ j y ≡ link d₁ j y) (b : Blanked d d₃ t x) where
  pub past_side : LinkSet d d₁ (slot_of w v) (owner_of w v) (top (sides_joined l r)) → (l ≡ empty) ⊎ (r ≡ empty) → Removed d d₃ w t x
  past_side q e = bypassed d d₃ w v t l x r c k b bare
    where
      bare : Bypassed d d₃ w v l x r
      bare = record {
        bare = e;
        slot = on (slot_of w v) (owner_of w v) (slot_not_it d w v t l x r c k) ∙ q.here;
        kept = λ j y s. on j y s.0 ∙ q.others j y s.1;
      }

-- ---- with an heir

module _ (d d₃ : Directory) (w v u : Way) (t hl : Forest) (h : ℕ) (hb : Forest) (x : ℕ) (r : Forest)
    (c : Located d w v t (plug u (node hl h hb empty)) x r) (k : Rules d) (right : Rightward u) (some : r ≢ empty) (b : Blanked d d₃ t x) where
  abbrev side : Forest
  side = plug u (node hl h hb empty)

  abbrev up : ℕ
  up = slot_entry u x

  drawn : Draws d (node side x empty r)
  drawn = node_drawn d w v t side x r c k

  heir_drawn : Draws d (node hl h hb empty)
  heir_drawn = draws_part d u (node hl h hb empty) drawn.1

  within : (y : ℕ) → count y (entries (node side x empty r))
      ≡ bit (eqb y x) + (bit (eqb y h) + (count y (entries (plug u empty)) + (count y (entries hl) + (count y (entries hb) + count y (entries r)))))
  unfolding entries
  within y = omega (arith, count_node y side x empty r, count_plug y u (node hl h hb empty), count_node y hl h hb empty)

  once : (y : ℕ) → count y (entries (node side x empty r)) ≤ 1
  once y = omega (arith, way_once d d w v t side x r c k refl y)

  heir_not_it : h ≢ x
  heir_not_it = apart_of h x (omega (arith, once h, within h, bit_self h))

  slot_not_heir : owner_of w v ≢ h
  slot_not_heir = slot_apart d w v t side x r c k h (omega (arith, within h, bit_self h))

  place : (Still u left_field x) ⊎ (Deep u x)
  place = still_or_deep u left_field x

  up_not_heir : up ≢ h
  up_not_heir e =
      elim place [
        | inl s ↦ heir_not_it (sym e ∙ s.entry)
        | inr s ↦ omega (arith, once h, within h, bit_self h, s.outside, ap (λ (i : ℕ). count i (entries (plug u empty))) e)
      ]

  slot_not_up : up ≢ x → owner_of w v ≢ up
  slot_not_up n =
      elim place [
        | inl s ↦ absurd (n s.entry)
        | inr s ↦ slot_apart d w v t side x r c k up (omega (arith, within up, s.outside))
      ]

  outside_x : count x (entries (plug u empty)) ≡ 0
  outside_x = omega (arith, once x, within x, bit_self x)

  module _ (d₁ : Directory) (on : (j : Field) (y : ℕ) → y ≢ x → link d₃ j y ≡ link d₁ j y) where
    -- the heir is the left side's top
    pub near_heir : (a : Directory) → LinkSet d a (slot_of w v) (owner_of w v) h → LinkSet a d₁ right_field h (top r) → up ≡ x → Removed d d₃ w t x
    near_heir a p q e = inherited d d₃ w v u t hl h hb x r c k b heir
      where
        still : top (plug u hl) ≡ top hl
        still =
            elim place [
              | inl s ↦ ap top (s.whole_is hl)
              | inr s ↦ absurd (omega (arith, s.outside, outside_x, ap (λ (i : ℕ). count i (entries (plug u empty))) e))
            ]

        heir : Inherited d d₃ w v u hl h hb x r
        heir = record {
          right = right;
          some = some;
          slot = on (slot_of w v) (owner_of w v) (slot_not_it d w v t side x r c k) ∙ q.others (slot_of w v) (owner_of w v) (λ i j. slot_not_heir j) ∙ p.here;
          freed = λ n. absurd (n e);
          lefts = on left_field h heir_not_it ∙ q.others left_field h (λ i j. left_right i) ∙ p.others left_field h (λ i j. slot_not_heir (sym j))
              ∙ heir_drawn.0.lefts ∙ sym still;
          rights = on right_field h heir_not_it ∙ q.here;
          kept = λ j y s o n. on j y s.0
              ∙ q.others j y (λ i m. elim o [ inl z ↦ child_right (sym z ∙ i) | inr z ↦ z m ])
              ∙ p.others j y s.1;
        }

    -- it is not: its old place is freed
    pub far_heir : (a a₂ a₃ : Directory) → LinkSet d a (slot_of w v) (owner_of w v) h → LinkSet a a₂ right_field up (top hl)
        → LinkSet a₂ a₃ left_field h (top side) → LinkSet a₃ d₁ right_field h (top r) → up ≢ x → Removed d d₃ w t x
    far_heir a a₂ a₃ p f m q n = inherited d d₃ w v u t hl h hb x r c k b heir
      where
        same_top : top side ≡ top (plug u hl)
        same_top = elim place [ inl s ↦ absurd (n s.entry) | inr s ↦ s.top_same hl (node hl h hb empty) ]

        heir : Inherited d d₃ w v u hl h hb x r
        heir = record {
          right = right;
          some = some;
          slot = on (slot_of w v) (owner_of w v) (slot_not_it d w v t side x r c k)
              ∙ q.others (slot_of w v) (owner_of w v) (λ i j. slot_not_heir j)
              ∙ m.others (slot_of w v) (owner_of w v) (λ i j. slot_not_heir j)
              ∙ f.others (slot_of w v) (owner_of w v) (λ i j. slot_not_up n j)
              ∙ p.here;
          freed = λ z. on right_field up n
              ∙ q.others right_field up (λ i j. up_not_heir j)
              ∙ m.others right_field up (λ i j. up_not_heir j)
              ∙ f.here;
          lefts = on left_field h heir_not_it ∙ q.others left_field h (λ i j. left_right i) ∙ m.here ∙ same_top;
          rights = on right_field h heir_not_it ∙ q.here;
          kept = λ j y s o z. on j y s.0
              ∙ q.others j y (λ i e. elim o [ inl y₂ ↦ child_right (sym y₂ ∙ i) | inr y₂ ↦ y₂ e ])
              ∙ m.others j y (λ i e. elim o [ inl y₂ ↦ left_child (sym i ∙ y₂) | inr y₂ ↦ y₂ e ])
              ∙ f.others j y (λ i e. z i e)
              ∙ p.others j y s.1;
        }
