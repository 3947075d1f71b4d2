-- The sides of a node: a test of all siblings taken apart and put together, and what whole sides in order say.
use mathlib.Core.Path.{◌≡◌}
use mathlib.Core.Bool.{Bool, true, ◌&&◌}
use Prim.Native.Nat.{ℕ}
use Rattle.format.specs.Basics.Lists.{all}
use Rattle.format.specs.Layout.Directory.{Directory}
use Rattle.format.specs.Layout.Tree.{Forest, empty, broken, node, siblings}
use Rattle.format.specs.Rules.Trees.{less, greater, sides_ordered, every_node}
use Rattle.theory.proofs.Tests.{both, all_append}
use Rattle.theory.proofs.Trees.Nodes.{every_node_apart}
use Rattle.format.specs.Layout.Siblings.{greatest}

pub siblings_apart : (p : ℕ → Bool) (l : Forest) (e : ℕ) (b r : Forest) → all p (siblings (node l e b r)) ≡ true
    → (all p (siblings l) ≡ true) × (p e ≡ true) × (all p (siblings r) ≡ true)
unfolding siblings all
siblings_apart p l e b r t =
    let u = both (all p (siblings l)) (p e && all p (siblings r)) (rw all_append at t) in
    let v = both (p e) (all p (siblings r)) u.1 in
    (u.0, v.0, v.1)

pub siblings_join : (p : ℕ → Bool) (l : Forest) (e : ℕ) (b r : Forest)
    → all p (siblings l) ≡ true → p e ≡ true → all p (siblings r) ≡ true → all p (siblings (node l e b r)) ≡ true
unfolding siblings all
siblings_join p l e b r s t u = rw (all_append, s, t, u)

-- the last passes what all pass
pub last_passes : (p : ℕ → Bool) (z : ℕ) (t : Forest) → p z ≡ true → all p (siblings t) ≡ true → p (greatest z t) ≡ true
unfolding greatest
last_passes p z empty h a = h
last_passes p z broken h a = h
last_passes p z (node l e b r) h a = let u = siblings_apart p l e b r a in last_passes p e r u.1 u.2

module _ (d : Directory) where
  abbrev pub Sorted : Forest → Type 0
  Sorted t = every_node (sides_ordered d) t ≡ true

  -- what a sorted node says of its parts
  pub record Parts (l : Forest) (e : ℕ) (b r : Forest) : Type 0 where
    pub lefts : all (greater d e) (siblings l) ≡ true
    pub rights : all (less d e) (siblings r) ≡ true
    pub left_sorted : Sorted l
    pub below_sorted : Sorted b
    pub right_sorted : Sorted r

  pub sorted_apart : (l : Forest) (e : ℕ) (b r : Forest) → Sorted (node l e b r) → Parts l e b r
  unfolding sides_ordered
  sorted_apart l e b r s =
      let u = every_node_apart (sides_ordered d) l e b r s in
      let v = both (all (greater d e) (siblings l)) (all (less d e) (siblings r)) u.0 in
      record { lefts = v.0; rights = v.1; left_sorted = u.1; below_sorted = u.2; right_sorted = u.3 }
