-- What is asked of an order of entries, and group 15 taken apart.
use Rattle.std.specs.Prelude.{ℕ, ◌≡◌, Bool, true, false}
use Rattle.format.specs.Layout.Directory.{Directory}
use Rattle.format.specs.Rules.Trees.{less, every_node, sides_ordered, top_black, coloured}
use Rattle.theory.specs.TreeViews.{whole, shape_ok}

-- what is asked of an order of entries
pub record Ordered (less : ℕ → ℕ → Bool) : Type 0 where
  pub strict : (x : ℕ) → less x x ≡ false
  pub trans : (x y z : ℕ) → less x y ≡ true → less y z ≡ true → less x z ≡ true

-- group 15, taken apart
pub record Rules (d : Directory) : Type 0 where
  pub shape : shape_ok d ≡ true
  pub sorted : every_node (sides_ordered d) (whole d) ≡ true
  pub top : top_black d (whole d) ≡ true
  pub paint : every_node (coloured d) (whole d) ≡ true
