-- Order and colours where a whole tree of siblings is replaced: group 15 of the outcome.
use Prim.Native.Nat.{ℕ, ◌+◌, ◌≤◌, ◌<◌}
use mathlib.Core.Path.{◌≡◌, refl, sym, ap, ap₂, ◌∙◌}
use mathlib.Core.Logic.{◌≢◌}
use mathlib.Core.Bool.{Bool, true, false, not, ◌&&◌, ◌||◌}
use mathlib.Core.List.{List, [], ◌∷◌}
use native.Mathlib.Omega.{arith}
use lib.Dec.{eqb}
use borrow.Author.Tests.{eq-eqb}
use Rattle.format.specs.Basics.Lists.{bit, count, all}
use Rattle.format.specs.Layout.Name.{name_less}
use Rattle.format.specs.Layout.Directory.{Directory}
use Rattle.format.specs.Layout.Tree.{Forest, empty, broken, node, forest, entries, siblings}
use Rattle.format.specs.Layout.Entry.{Field, left_field, child_field, right_field}
use Rattle.format.specs.Rules.Trees.{sound, is_object, reached_right, reached_once, less, greater, sides_ordered, red, every_node, top_black, coloured}
use Rattle.theory.specs.TreeViews.{rows, whole, shape_ok}
use Rattle.theory.specs.TreeOrder.{Rules}
use Rattle.theory.specs.TreeWays.{Way, here, into_left, into_child, into_right, plug, slot_field, SameName, SameColour, Regrown}
use Rattle.theory.proofs.Counts.{bit_self, count_append}
use Rattle.theory.proofs.Tests.{both, and_true_of, below_of}
use Rattle.theory.proofs.Trees.Grow.{count_node}
use Rattle.theory.proofs.Trees.Nodes.{every_node_apart, every_node_join}
use Rattle.theory.proofs.Trees.Ways.{count_plug, left_child, child_right}

-- ---- siblings

pub count_siblings_node : (y : ℕ) (l : Forest) (e : ℕ) (b r : Forest)
    → count y (siblings (node l e b r)) ≡ bit (eqb y e) + (count y (siblings l) + count y (siblings r))
unfolding siblings
count_siblings_node y l e b r = omega (arith, count_append y (siblings l) (e ∷ siblings r))

-- siblings are entries
pub siblings_few : (y : ℕ) (t : Forest) → count y (siblings t) ≤ count y (entries t)
unfolding siblings entries
siblings_few y empty = omega arith
siblings_few y broken = omega arith
siblings_few y (node l e b r) = omega (arith, count_siblings_node y l e b r, count_node y l e b r, siblings_few y l, siblings_few y r)

-- a tree further down is none of the siblings
pub siblings_plug : (w : Way) (k : Field) → k ≢ child_field → slot_field w k ≡ child_field → (t t₂ : Forest) → siblings (plug w t₂) ≡ siblings (plug w t)
unfolding siblings
siblings_plug here k h e t t₂ = absurd (h e)
siblings_plug (into_left w x b r) k h e t t₂ = rw (siblings_plug w left_field left_child e t t₂)
siblings_plug (into_child l x w r) k h e t t₂ = refl
siblings_plug (into_right l x b w) k h e t t₂ = rw (siblings_plug w right_field (λ z. child_right (sym z)) e t t₂)

-- ---- tests of one node, by names and colours

pub all_same : (p q : ℕ → Bool) (xs : List ℕ) → ((y : ℕ) → 0 < count y xs → q y ≡ p y) → all q xs ≡ all p xs
unfolding all
all_same p q [] h = refl
all_same p q (x ∷ xs) h = ap₂ ◌&&◌ (h x (omega (arith, bit_self x))) (all_same p q xs (λ y c. h y (omega arith)))

-- the order of a node's sides is that of its siblings
sides_like : (d : Directory) (l l₂ : Forest) (e : ℕ) (b b₂ r r₂ : Forest) → siblings l₂ ≡ siblings l → siblings r₂ ≡ siblings r
    → sides_ordered d l₂ e b₂ r₂ ≡ sides_ordered d l e b r
unfolding sides_ordered
sides_like d l l₂ e b b₂ r r₂ p q = rw (p, q)

module _ (d d₂ : Directory) where
  less_same : (x y : ℕ) → SameName d d₂ x → SameName d d₂ y → less d₂ x y ≡ less d x y
  unfolding less
  less_same x y u v = ap₂ name_less u v

  red_same : (x : ℕ) → SameColour d d₂ x → red d₂ x ≡ red d x
  unfolding red
  red_same x u = rw u

  pub sides_same : (l : Forest) (e : ℕ) (b r : Forest) → SameName d d₂ e
      → ((y : ℕ) → 0 < count y (siblings l) → SameName d d₂ y) → ((y : ℕ) → 0 < count y (siblings r) → SameName d d₂ y)
      → sides_ordered d₂ l e b r ≡ sides_ordered d l e b r
  unfolding sides_ordered greater
  sides_same l e b r f hl hr =
      ap₂ ◌&&◌
      (all_same (greater d e) (greater d₂ e) (siblings l) (λ y c. less_same y e (hl y c) f))
      (all_same (less d e) (less d₂ e) (siblings r) (λ y c. less_same e y f (hr y c)))

  top_black_same : (p : Forest) → ((y : ℕ) → 0 < count y (entries p) → SameColour d d₂ y) → top_black d₂ p ≡ top_black d p
  unfolding top_black
  top_black_same empty h = refl
  top_black_same broken h = refl
  top_black_same (node l e b r) h = ap not (red_same e (h e (omega (arith, count_node e l e b r, bit_self e))))

  pub coloured_more : (l l₂ : Forest) (e : ℕ) (b b₂ r r₂ : Forest) → SameColour d d₂ e
      → (top_black d l ≡ true → top_black d₂ l₂ ≡ true) → (top_black d b ≡ true → top_black d₂ b₂ ≡ true) → (top_black d r ≡ true → top_black d₂ r₂ ≡ true)
      → coloured d l e b r ≡ true → coloured d₂ l₂ e b₂ r₂ ≡ true
  unfolding coloured
  coloured_more l l₂ e b b₂ r r₂ f hl hb hr c =
      rw (red_same e f) (go (red d e) (top_black d l) (top_black d₂ l₂) (top_black d b) (top_black d₂ b₂) (top_black d r) (top_black d₂ r₂) hl hb hr c)
    where
      go : (x l l₂ b b₂ r r₂ : Bool) → (l ≡ true → l₂ ≡ true) → (b ≡ true → b₂ ≡ true) → (r ≡ true → r₂ ≡ true)
          → ((not x || (l && r)) && b) ≡ true → ((not x || (l₂ && r₂)) && b₂) ≡ true
      go false l l₂ b b₂ r r₂ hl hb hr c = hb c
      go true l l₂ b b₂ r r₂ hl hb hr c =
          let u = both (l && r) b c in
          let v = both l r u.0 in
          and_true_of (l₂ && r₂) b₂ (and_true_of l₂ r₂ (hl v.0) (hr v.1)) (hb u.1)

  -- ---- a forest that keeps names and colours keeps order and colours

  pub sorted_kept : (p : Forest) → ((y : ℕ) → 0 < count y (entries p) → SameName d d₂ y)
      → every_node (sides_ordered d) p ≡ true → every_node (sides_ordered d₂) p ≡ true
  unfolding every_node
  sorted_kept empty h s = refl
  sorted_kept broken h s = refl
  sorted_kept (node l e b r) h s =
      let u = every_node_apart (sides_ordered d) l e b r s in
      every_node_join (sides_ordered d₂) l e b r
      (sides_same l e b r (h e (omega (arith, count_node e l e b r, bit_self e)))
      (λ y c. h y (omega (arith, count_node y l e b r, siblings_few y l)))
      (λ y c. h y (omega (arith, count_node y l e b r, siblings_few y r)))
      ∙ u.0)
      (sorted_kept l (λ y c. h y (omega (arith, count_node y l e b r))) u.1)
      (sorted_kept b (λ y c. h y (omega (arith, count_node y l e b r))) u.2)
      (sorted_kept r (λ y c. h y (omega (arith, count_node y l e b r))) u.3)

  pub black_kept : (p : Forest) → ((y : ℕ) → 0 < count y (entries p) → SameColour d d₂ y) → top_black d p ≡ true → top_black d₂ p ≡ true
  black_kept p h s = top_black_same p h ∙ s

  pub paint_kept : (p : Forest) → ((y : ℕ) → 0 < count y (entries p) → SameColour d d₂ y)
      → every_node (coloured d) p ≡ true → every_node (coloured d₂) p ≡ true
  unfolding every_node
  paint_kept empty h s = refl
  paint_kept broken h s = refl
  paint_kept (node l e b r) h s =
      let u = every_node_apart (coloured d) l e b r s in
      every_node_join (coloured d₂) l e b r
      (coloured_more l l e b b r r (h e (omega (arith, count_node e l e b r, bit_self e)))
      (black_kept l (λ y c. h y (omega (arith, count_node y l e b r))))
      (black_kept b (λ y c. h y (omega (arith, count_node y l e b r))))
      (black_kept r (λ y c. h y (omega (arith, count_node y l e b r))))
      u.0)
      (paint_kept l (λ y c. h y (omega (arith, count_node y l e b r))) u.1)
      (paint_kept b (λ y c. h y (omega (arith, count_node y l e b r))) u.2)
      (paint_kept r (λ y c. h y (omega (arith, count_node y l e b r))) u.3)

  -- ---- the same along a way

  module _ (t t₂ : Forest) where
    pub sorted_plug : (w : Way) (k : Field) → slot_field w k ≡ child_field → ((y : ℕ) → 0 < count y (entries (plug w empty)) → SameName d d₂ y)
        → every_node (sides_ordered d₂) t₂ ≡ true → every_node (sides_ordered d) (plug w t) ≡ true → every_node (sides_ordered d₂) (plug w t₂) ≡ true
    sorted_plug here k e h s₂ s = s₂
    sorted_plug (into_left w x b r) k e h s₂ s =
        let u = every_node_apart (sides_ordered d) (plug w t) x b r s in
        every_node_join (sides_ordered d₂) (plug w t₂) x b r
        (sides_like d₂ (plug w empty) (plug w t₂) x b b r r (siblings_plug w left_field left_child e empty t₂) refl
        ∙ sides_same (plug w empty) x b r (h x (omega (arith, count_node x (plug w empty) x b r, bit_self x)))
        (λ y c. h y (omega (arith, count_node y (plug w empty) x b r, siblings_few y (plug w empty))))
        (λ y c. h y (omega (arith, count_node y (plug w empty) x b r, siblings_few y r)))
        ∙ sides_like d (plug w t) (plug w empty) x b b r r (siblings_plug w left_field left_child e t empty) refl
        ∙ u.0)
        (sorted_plug w left_field e (λ y c. h y (omega (arith, count_node y (plug w empty) x b r))) s₂ u.1)
        (sorted_kept b (λ y c. h y (omega (arith, count_node y (plug w empty) x b r))) u.2)
        (sorted_kept r (λ y c. h y (omega (arith, count_node y (plug w empty) x b r))) u.3)
    sorted_plug (into_child l x w r) k e h s₂ s =
        let u = every_node_apart (sides_ordered d) l x (plug w t) r s in
        every_node_join (sides_ordered d₂) l x (plug w t₂) r
        (sides_like d₂ l l x (plug w empty) (plug w t₂) r r refl refl
        ∙ sides_same l x (plug w empty) r (h x (omega (arith, count_node x l x (plug w empty) r, bit_self x)))
        (λ y c. h y (omega (arith, count_node y l x (plug w empty) r, siblings_few y l)))
        (λ y c. h y (omega (arith, count_node y l x (plug w empty) r, siblings_few y r)))
        ∙ sides_like d l l x (plug w t) (plug w empty) r r refl refl
        ∙ u.0)
        (sorted_kept l (λ y c. h y (omega (arith, count_node y l x (plug w empty) r))) u.1)
        (sorted_plug w child_field e (λ y c. h y (omega (arith, count_node y l x (plug w empty) r))) s₂ u.2)
        (sorted_kept r (λ y c. h y (omega (arith, count_node y l x (plug w empty) r))) u.3)
    sorted_plug (into_right l x b w) k e h s₂ s =
        let u = every_node_apart (sides_ordered d) l x b (plug w t) s in
        every_node_join (sides_ordered d₂) l x b (plug w t₂)
        (sides_like d₂ l l x b b (plug w empty) (plug w t₂) refl (siblings_plug w right_field (λ z. child_right (sym z)) e empty t₂)
        ∙ sides_same l x b (plug w empty) (h x (omega (arith, count_node x l x b (plug w empty), bit_self x)))
        (λ y c. h y (omega (arith, count_node y l x b (plug w empty), siblings_few y l)))
        (λ y c. h y (omega (arith, count_node y l x b (plug w empty), siblings_few y (plug w empty))))
        ∙ sides_like d l l x b b (plug w t) (plug w empty) refl (siblings_plug w right_field (λ z. child_right (sym z)) e t empty)
        ∙ u.0)
        (sorted_kept l (λ y c. h y (omega (arith, count_node y l x b (plug w empty)))) u.1)
        (sorted_kept b (λ y c. h y (omega (arith, count_node y l x b (plug w empty)))) u.2)
        (sorted_plug w right_field e (λ y c. h y (omega (arith, count_node y l x b (plug w empty)))) s₂ u.3)

    -- the top of the forest stays, or is the top of the new tree
    pub black_plug : (w : Way) → ((y : ℕ) → 0 < count y (entries (plug w empty)) → SameColour d d₂ y)
        → top_black d₂ t₂ ≡ true → top_black d (plug w t) ≡ true → top_black d₂ (plug w t₂) ≡ true
    unfolding top_black
    black_plug here h b₂ s = b₂
    black_plug (into_left w x b r) h b₂ s = ap not (red_same x (h x (omega (arith, count_node x (plug w empty) x b r, bit_self x)))) ∙ s
    black_plug (into_child l x w r) h b₂ s = ap not (red_same x (h x (omega (arith, count_node x l x (plug w empty) r, bit_self x)))) ∙ s
    black_plug (into_right l x b w) h b₂ s = ap not (red_same x (h x (omega (arith, count_node x l x b (plug w empty), bit_self x)))) ∙ s

    pub paint_plug : (w : Way) → ((y : ℕ) → 0 < count y (entries (plug w empty)) → SameColour d d₂ y)
        → top_black d₂ t₂ ≡ true → every_node (coloured d₂) t₂ ≡ true → every_node (coloured d) (plug w t) ≡ true → every_node (coloured d₂) (plug w t₂) ≡ true
    paint_plug here h b₂ p₂ s = p₂
    paint_plug (into_left w x b r) h b₂ p₂ s =
        let u = every_node_apart (coloured d) (plug w t) x b r s in
        every_node_join (coloured d₂) (plug w t₂) x b r
        (coloured_more (plug w t) (plug w t₂) x b b r r (h x (omega (arith, count_node x (plug w empty) x b r, bit_self x)))
        (black_plug w (λ y c. h y (omega (arith, count_node y (plug w empty) x b r))) b₂)
        (black_kept b (λ y c. h y (omega (arith, count_node y (plug w empty) x b r))))
        (black_kept r (λ y c. h y (omega (arith, count_node y (plug w empty) x b r))))
        u.0)
        (paint_plug w (λ y c. h y (omega (arith, count_node y (plug w empty) x b r))) b₂ p₂ u.1)
        (paint_kept b (λ y c. h y (omega (arith, count_node y (plug w empty) x b r))) u.2)
        (paint_kept r (λ y c. h y (omega (arith, count_node y (plug w empty) x b r))) u.3)
    paint_plug (into_child l x w r) h b₂ p₂ s =
        let u = every_node_apart (coloured d) l x (plug w t) r s in
        every_node_join (coloured d₂) l x (plug w t₂) r
        (coloured_more l l x (plug w t) (plug w t₂) r r (h x (omega (arith, count_node x l x (plug w empty) r, bit_self x)))
        (black_kept l (λ y c. h y (omega (arith, count_node y l x (plug w empty) r))))
        (black_plug w (λ y c. h y (omega (arith, count_node y l x (plug w empty) r))) b₂)
        (black_kept r (λ y c. h y (omega (arith, count_node y l x (plug w empty) r))))
        u.0)
        (paint_kept l (λ y c. h y (omega (arith, count_node y l x (plug w empty) r))) u.1)
        (paint_plug w (λ y c. h y (omega (arith, count_node y l x (plug w empty) r))) b₂ p₂ u.2)
        (paint_kept r (λ y c. h y (omega (arith, count_node y l x (plug w empty) r))) u.3)
    paint_plug (into_right l x b w) h b₂ p₂ s =
        let u = every_node_apart (coloured d) l x b (plug w t) s in
        every_node_join (coloured d₂) l x b (plug w t₂)
        (coloured_more l l x b b (plug w t) (plug w t₂) (h x (omega (arith, count_node x l x b (plug w empty), bit_self x)))
        (black_kept l (λ y c. h y (omega (arith, count_node y l x b (plug w empty)))))
        (black_kept b (λ y c. h y (omega (arith, count_node y l x b (plug w empty)))))
        (black_plug w (λ y c. h y (omega (arith, count_node y l x b (plug w empty)))) b₂)
        u.0)
        (paint_kept l (λ y c. h y (omega (arith, count_node y l x b (plug w empty)))) u.1)
        (paint_kept b (λ y c. h y (omega (arith, count_node y l x b (plug w empty)))) u.2)
        (paint_plug w (λ y c. h y (omega (arith, count_node y l x b (plug w empty)))) b₂ p₂ u.3)

-- ---- group 15 of the outcome

module _ (d d₂ : Directory) (w : Way) (t t₂ : Forest) (c : Regrown d d₂ w t t₂) where
  regrown_shape : shape_ok d₂ ≡ true
  unfolding shape_ok reached_once reached_right forest
  regrown_shape =
      and_true_of (sound (whole d₂)) (reached_once d₂)
      (ap sound c.new ∙ c.new_sound)
      (below_of (rows d₂) (reached_right d₂) (λ y h.
      eq-eqb (count y (entries (whole d₂))) (bit (is_object d₂ y))
      (rw c.new (count_plug y w t₂ ∙ c.counts y (omega (arith, h, c.rows_same))))))

  pub regrown_rules : Rules d → Rules d₂
  regrown_rules r = record {
    shape = regrown_shape;
    sorted = rw c.new (sorted_plug d d₂ t t₂ w child_field c.ends c.names c.sorted (rw c.old at r.sorted));
    top = rw c.new (black_plug d d₂ t t₂ w c.colours c.top_black_lem (rw c.old at r.top));
    paint = rw c.new (paint_plug d d₂ t t₂ w c.colours c.top_black_lem c.paint (rw c.old at r.paint));
  }
