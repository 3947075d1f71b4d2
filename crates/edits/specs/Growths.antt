-- What gathering a growth's units comes to: whether there are enough, and how many cells the searches look at.
use Rattle.std.specs.Prelude.{ℕ, ◌+◌, not, ltb, length}
use Rattle.format.specs.Layout.Space.{Space, free_units}
use Rattle.format.specs.Calls.Search.{searches_for, cells_looked}
use Rattle.edits.specs.declared.resize.Growth.{Growth}

-- from `old` units to `need`
unfoldable pub growth_in : Space → ℕ → ℕ → Growth
growth_in sp old need = record { enough = not (ltb (old + length (free_units sp)) need); looked = cells_looked (searches_for sp old need) }
