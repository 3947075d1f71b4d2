-- Sums over the numbers below a bound, and over lists of lists.
use Rattle.std.specs.Prelude.{ℕ, zero, suc, ◌+◌, List, [], ◌∷◌, length}
use Rattle.format.specs.Basics.Lists.{count}

-- g 0 + g 1 + .. + g (n - 1)
abbrev pub sum_below : (ℕ → ℕ) → ℕ → ℕ
sum_below g zero = 0
sum_below g (suc n) = sum_below g n + g n

-- how often s stands in the lists of a list: how many owners a unit has, where each owner's units are a list
abbrev pub owners : ℕ → List (List ℕ) → ℕ
owners s [] = 0
owners s (l ∷ L) = count s l + owners s L

-- the lengths of all lists together
abbrev pub lengths : List (List ℕ) → ℕ
lengths [] = 0
lengths (l ∷ L) = length l + lengths L
