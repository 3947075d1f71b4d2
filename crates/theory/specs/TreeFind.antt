-- The descent through a sorted tree to the child of a name.
use Rattle.std.specs.Prelude.{ℕ, ◌≡◌, Bool, true, false}
use Rattle.format.specs.Layout.Name.{Name}
use Rattle.format.specs.Layout.Directory.{Directory}
use Rattle.format.specs.Rules.Trees.{every_node, sides_ordered}
use Rattle.format.specs.Calls.Find.{child_named, Found, at as found_at}
use Rattle.theory.specs.TreeViews.{child_of, at, sound_at}

-- what is asked of an order of names: equal names have the same place in it
pub record NamesOrdered (less equal : Name → Name → Bool) : Type 0 where
  pub strict : (a : Name) → less a a ≡ false
  pub trans : (a b c : Name) → less a b ≡ true → less b c ≡ true → less a c ≡ true
  pub equal_left : (a b c : Name) → equal a b ≡ true → less a c ≡ less b c
  pub equal_right : (a b c : Name) → equal a b ≡ true → less c a ≡ less c b

-- the number y names a sound and sorted tree
pub record Searchable (d : Directory) (y : ℕ) : Type 0 where
  pub tree_sound : sound_at d y ≡ true
  pub sorted : every_node (sides_ordered d) (at d y) ≡ true

-- the descent from `top` stands at x: the tree at x has the child of that name exactly if the tree at `top` has it
pub record Seeking (d : Directory) (want : Name) (top x : ℕ) : Type 0 where
  pub here : Searchable d x
  pub same : child_named d want (at d x) ≡ child_named d want (at d top)

-- a path has led to the entry x
abbrev pub reached : Directory → ℕ → Found
reached d x = found_at x (at d (child_of d x))
