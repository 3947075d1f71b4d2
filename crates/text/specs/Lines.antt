-- A line of a word and a number.
use Rattle.std.specs.Prelude.{ℕ, [], ◌∷◌, ◌++◌}
use Rattle.format.specs.Basics.Bytes.{Bytes}
use Rattle.format.specs.Calls.Text.{newline, decimal}

-- the word, which brings its own space, the digits and the end of the line
abbrev pub number_line : Bytes → ℕ → Bytes
number_line word n = (word ++ decimal n) ++ (newline ∷ [])
