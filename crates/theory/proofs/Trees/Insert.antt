-- A leaf put into a tree of siblings: its entries, its order and its colours.
use Prim.Native.Nat.{ℕ, ◌+◌, ◌<◌}
use mathlib.Core.Path.{◌≡◌, refl}
use mathlib.Core.Logic.{◌⊎◌, inl, inr}
use mathlib.Core.Bool.{Bool, true, false}
use native.Mathlib.Omega.{arith}
use lib.Dec.{eqb}
use Rattle.format.specs.Basics.Lists.{bit, count, all}
use Rattle.format.specs.Layout.Directory.{Directory}
use Rattle.format.specs.Layout.Tree.{Forest, empty, broken, node, entries, siblings}
use Rattle.format.specs.Rules.Trees.{sound, less, greater, sides_ordered, red, every_node, top_black, coloured}
use Rattle.theory.specs.TreeWays.{plug, Level, SameColour}
use Rattle.theory.specs.TreeEdits.{leaf, inserted, way_to}
use Rattle.theory.proofs.Counts.{bit_self}
use Rattle.theory.proofs.Tests.{clash, and_true_of}
use Rattle.theory.proofs.Trees.Grow.{count_node, sound_apart}
use Rattle.theory.proofs.Trees.Nodes.{every_node_apart, every_node_join}
use Rattle.theory.proofs.Trees.Sides.{siblings_apart, siblings_join, Sorted, sorted_apart}
use Rattle.theory.proofs.Trees.Faces.{count_siblings_node, coloured_more}

pub either : (b : Bool) → (b ≡ true) ⊎ (b ≡ false)
either true = inl refl
either false = inr refl

module _ (p : ℕ → Bool) (x : ℕ) where
  -- ---- the way to its place

  pub way_to_old : (t : Forest) → sound t ≡ true → plug (way_to p t) empty ≡ t
  unfolding way_to sound
  way_to_old empty s = refl
  way_to_old broken s = absurd (clash s refl)
  way_to_old (node l e b r) s =
      let u = sound_apart l e b r s in
      elim (either (p e)) [
        | inl h ↦ rw (h, way_to_old l u.0)
        | inr h ↦ rw (h, way_to_old r u.2)
      ]

  pub way_to_level : (t : Forest) → Level (way_to p t)
  unfolding way_to
  way_to_level empty = tt
  way_to_level broken = tt
  way_to_level (node l e b r) = elim (either (p e)) [ inl h ↦ rw h (way_to_level l) | inr h ↦ rw h (way_to_level r) ]

  pub way_to_new : (t : Forest) → sound t ≡ true → plug (way_to p t) (leaf x) ≡ inserted p x t
  unfolding way_to inserted sound
  way_to_new empty s = refl
  way_to_new broken s = absurd (clash s refl)
  way_to_new (node l e b r) s =
      let u = sound_apart l e b r s in
      elim (either (p e)) [
        | inl h ↦ rw (h, way_to_new l u.0)
        | inr h ↦ rw (h, way_to_new r u.2)
      ]

  -- ---- its entries and siblings

  pub count_inserted : (y : ℕ) (t : Forest) → sound t ≡ true → count y (entries (inserted p x t)) ≡ bit (eqb y x) + count y (entries t)
  unfolding inserted entries sound
  count_inserted y empty s = omega arith
  count_inserted y broken s = absurd (clash s refl)
  count_inserted y (node l e b r) s =
      let u = sound_apart l e b r s in
      elim (either (p e)) [
        | inl h ↦ rw h (omega (arith, count_node y (inserted p x l) e b r, count_node y l e b r, count_inserted y l u.0))
        | inr h ↦ rw h (omega (arith, count_node y l e b (inserted p x r), count_node y l e b r, count_inserted y r u.2))
      ]

  all_inserted : (q : ℕ → Bool) → q x ≡ true → (t : Forest) → all q (siblings t) ≡ true → all q (siblings (inserted p x t)) ≡ true
  unfolding inserted siblings all
  all_inserted q h empty a = rw h
  all_inserted q h broken a = refl
  all_inserted q h (node l e b r) a =
      let u = siblings_apart q l e b r a in
      elim (either (p e)) [
        | inl k ↦ rw k (siblings_join q (inserted p x l) e b r (all_inserted q h l u.0) u.1 u.2)
        | inr k ↦ rw k (siblings_join q l e b (inserted p x r) u.0 u.1 (all_inserted q h r u.2))
      ]

  module _ (d : Directory) where
    -- ---- order: the test tells on which side of each sibling x belongs

    pub inserted_sorted : (t : Forest) → Sorted d t
        → ((y : ℕ) → 0 < count y (siblings t) → (p y ≡ true → less d x y ≡ true) × (p y ≡ false → less d y x ≡ true)) → Sorted d (inserted p x t)
    unfolding inserted every_node sides_ordered siblings all greater
    inserted_sorted empty s h = refl
    inserted_sorted broken s h = refl
    inserted_sorted (node l e b r) s h =
        let u = sorted_apart d l e b r s in
        let he = h e (omega (arith, count_siblings_node e l e b r, bit_self e)) in
        elim (either (p e)) [
          | inl k ↦
              rw k (every_node_join (sides_ordered d) (inserted p x l) e b r
              (and_true_of (all (greater d e) (siblings (inserted p x l))) (all (less d e) (siblings r)) (all_inserted (greater d e) (he.0 k) l u.lefts) u.rights)
              (inserted_sorted l u.left_sorted (λ y c. h y (omega (arith, count_siblings_node y l e b r)))) u.below_sorted u.right_sorted)
          | inr k ↦
              rw k (every_node_join (sides_ordered d) l e b (inserted p x r)
              (and_true_of (all (greater d e) (siblings l)) (all (less d e) (siblings (inserted p x r))) u.lefts (all_inserted (less d e) (he.1 k) r u.rights))
              u.left_sorted u.below_sorted (inserted_sorted r u.right_sorted (λ y c. h y (omega (arith, count_siblings_node y l e b r)))))
        ]

    -- ---- colours: a black leaf stands well anywhere

    module _ (black : red d x ≡ false) where
      pub inserted_black : (t : Forest) → top_black d t ≡ true → top_black d (inserted p x t) ≡ true
      unfolding inserted top_black
      inserted_black empty s = rw black
      inserted_black broken s = refl
      inserted_black (node l e b r) s = elim (either (p e)) [ inl k ↦ rw k s | inr k ↦ rw k s ]

      pub inserted_paint : (t : Forest) → every_node (coloured d) t ≡ true → every_node (coloured d) (inserted p x t) ≡ true
      unfolding inserted every_node coloured top_black
      inserted_paint empty s = rw black
      inserted_paint broken s = refl
      inserted_paint (node l e b r) s =
          let u = every_node_apart (coloured d) l e b r s in
          let f : SameColour d d e = refl in
          elim (either (p e)) [
            | inl k ↦
                rw k (every_node_join (coloured d) (inserted p x l) e b r
                (coloured_more d d l (inserted p x l) e b b r r f (inserted_black l) (λ z. z) (λ z. z) u.0)
                (inserted_paint l u.1) u.2 u.3)
            | inr k ↦
                rw k (every_node_join (coloured d) l e b (inserted p x r)
                (coloured_more d d l l e b b r (inserted p x r) f (λ z. z) (λ z. z) (inserted_black r) u.0)
                u.1 u.2 (inserted_paint r u.3))
          ]
