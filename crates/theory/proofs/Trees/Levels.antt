-- The siblings of a tree with one taken out.
use Prim.Native.Nat.{ℕ}
use mathlib.Core.Path.{◌≡◌, ap, ◌∙◌}
use mathlib.Core.List.{List, ◌∷◌, ◌++◌, append_assoc, append-nil}
use Rattle.format.specs.Layout.Tree.{Forest, node, siblings}
use Rattle.format.specs.Layout.Siblings.{sides_joined, without_node}
use Rattle.theory.specs.TreeWays.{Way, here, into_left, into_child, into_right, plug, Level, siblings_before, siblings_after}
use Rattle.theory.proofs.Trees.Remove.{joined_siblings, Spot}

siblings_level : (w : Way) (t : Forest) → Level w → siblings (plug w t) ≡ siblings_before w ++ (siblings t ++ siblings_after w)
unfolding siblings siblings_before siblings_after
siblings_level here t h = simp append-nil
siblings_level (into_left w e b r) t h = rw (siblings_level w t h) (simp append_assoc)
siblings_level (into_child l e w r) t h = absurd h
siblings_level (into_right l e b w) t h = rw (siblings_level w t h) (simp append_assoc)

module _ (x : ℕ) (t : Forest) (s : Spot x t) where
  abbrev pub sides_before : List ℕ
  sides_before = siblings_before s.way ++ siblings s.lefts

  abbrev pub sides_after : List ℕ
  sides_after = siblings s.rights ++ siblings_after s.way

  pub siblings_with : siblings t ≡ sides_before ++ (x ∷ sides_after)
  unfolding siblings
  siblings_with = ap siblings s.before ∙ siblings_level s.way (node s.lefts x s.below s.rights) s.level ∙ simp append_assoc

  pub siblings_removed : siblings (without_node x t) ≡ sides_before ++ sides_after
  siblings_removed =
      ap siblings s.after ∙ siblings_level s.way (sides_joined s.lefts s.rights) s.level
      ∙ rw (joined_siblings s.lefts s.rights) (simp append_assoc)
