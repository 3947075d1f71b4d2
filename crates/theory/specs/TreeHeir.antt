-- The last on the way right in a tree of siblings, by its entry and the entry above it.
use Rattle.std.specs.Prelude.{ℕ, ◌<◌, ◌≡◌}
use Rattle.format.specs.Layout.Directory.{Directory}
use Rattle.format.specs.Layout.Tree.{Forest, empty, broken, node}
use Rattle.format.specs.Layout.Siblings.{greatest}
use Rattle.theory.specs.TreeViews.{rows, right_of, at, Standing}
use Rattle.theory.specs.TreeWays.{Way, plug, slot_entry}
use Rattle.theory.specs.TreeUnlink.{Rightward}

-- the entry above the greatest of a tree `node l e b r`, p where that is the top
unfoldable pub above_greatest : ℕ → ℕ → Forest → ℕ
above_greatest p e empty = p
above_greatest p e broken = p
above_greatest p e (node l₂ e₂ b₂ r₂) = above_greatest e e₂ r₂

-- the way to that greatest
pub record HeirWay (p e : ℕ) (l b r : Forest) : Type 0 where
  pub way : Way
  pub lefts : Forest
  pub below : Forest
  pub tree : node l e b r ≡ plug way (node lefts (greatest e r) below empty)
  pub right : Rightward way
  pub above : slot_entry way p ≡ above_greatest p e r

-- a walk down the right spine from y, which x is above, stands at z, which u is above
pub record HeirWalk (d : Directory) (x y u z : ℕ) : Type 0 where
  pub stands : Standing d z
  pub inside : u < rows d
  pub last : greatest z (at d (right_of d z)) ≡ greatest y (at d (right_of d y))
  pub above : above_greatest u z (at d (right_of d z)) ≡ above_greatest x y (at d (right_of d y))

-- its end
pub record HeirIs (d : Directory) (x y u z : ℕ) : Type 0 where
  pub stands : Standing d z
  pub inside : u < rows d
  pub last : z ≡ greatest y (at d (right_of d y))
  pub above : u ≡ above_greatest x y (at d (right_of d y))
