-- The walk over the trees that marks each entry once, with a stack of the numbers that are still to follow.
use Rattle.std.specs.Prelude.{ℕ, ◌+◌, ◌≡◌, ◌≢◌, Bool, true, not, ◌&&◌, ◌||◌, List, [], ◌∷◌, eqb, length, get_or}
use Rattle.format.specs.Basics.Lists.{bit, count, all, all_below}
use Rattle.format.specs.Layout.Directory.{Directory}
use Rattle.format.specs.Layout.Tree.{named, entries}
use Rattle.format.specs.Rules.Trees.{sound, is_object}
use Rattle.theory.specs.TreeViews.{rows, at, whole, sound_at}

-- ---- the marks: a list of numbers, one for each entry, 0 where the entry has none

-- how many numbers of a list are 0
unfoldable pub zeros : List ℕ → ℕ
zeros [] = 0
zeros (x ∷ xs) = bit (eqb x 0) + zeros xs

-- 1 where a mark stands, else 0
abbrev pub mark : List ℕ → ℕ → ℕ
mark m x = bit (not (eqb (get_or m x 0) 0))

-- x names an object that has no mark yet
unfoldable pub fresh : Directory → List ℕ → ℕ → Bool
fresh d m x = named d x && (is_object d x && eqb (get_or m x 0) 0)

-- an object has a mark
unfoldable pub marked : Directory → List ℕ → ℕ → Bool
marked d m x = not (is_object d x) || not (eqb (get_or m x 0) 0)

unfoldable pub covered : Directory → List ℕ → Bool
covered d m = all_below (rows d) (marked d m)

-- ---- the walk

-- how often x stands in the trees that the numbers of a list name
abbrev pub total : Directory → ℕ → List ℕ → ℕ
total d x [] = 0
total d x (i ∷ is) = count x (entries (at d i)) + total d x is

-- k entries are marked in m, and the numbers of `is` are still to follow
pub record Walk (d : Directory) (k : ℕ) (is m : List ℕ) : Type 0 where
  -- the whole is sound exactly if those name sound trees
  pub shape : sound (whole d) ≡ all (sound_at d) is
  -- each entry of the whole is marked or in one of those
  pub counts : sound (whole d) ≡ true → (x : ℕ) → count x (entries (whole d)) ≡ mark m x + total d x is
  pub object : (x : ℕ) → get_or m x 0 ≢ 0 → is_object d x ≡ true
  pub free : k + zeros m ≡ rows d
  pub long : length m ≡ rows d
