-- The siblings of a tree, listed at the start of the work buffer.
use Rattle.std.specs.Prelude.{ℕ, ◌+◌, ◌≤◌, ◌≡◌, true, cond, List, eqb, take, set}
use Rattle.format.specs.Basics.Lists.{count}
use Rattle.format.specs.Layout.Entry.{NOSTREAM}
use Rattle.format.specs.Layout.Directory.{Directory}
use Rattle.format.specs.Layout.Tree.{siblings}
use Rattle.theory.specs.TreeViews.{at, sound_at}

-- the list of n entries with x behind them, if x is one
unfoldable pub added : List ℕ → ℕ → ℕ → List ℕ
added w n x = cond (eqb x NOSTREAM) w (set w n x)

unfoldable pub added_count : ℕ → ℕ → ℕ
added_count n x = cond (eqb x NOSTREAM) n (n + 1)

-- a sound tree, in which each sibling stands once
pub record SiblingTree (e : Directory) (top : ℕ) : Type 0 where
  pub tree_sound : sound_at e top ≡ true
  pub once : (y : ℕ) → count y (siblings (at e top)) ≤ 1

-- the first n numbers are its siblings
pub record SiblingsListed (e : Directory) (top : ℕ) (work : List ℕ) (n : ℕ) : Type 0 where
  pub few : n ≤ e.count
  pub each : (y : ℕ) → count y (take n work) ≡ count y (siblings (at e top))
