-- Numbers one after the other: the sectors of a part.
use Rattle.std.specs.Prelude.{ℕ, zero, suc, List, [], ◌∷◌}

-- s, s + 1 .. s + n - 1
abbrev pub run : ℕ → ℕ → List ℕ
run s zero = []
run s (suc n) = s ∷ run (suc s) n
