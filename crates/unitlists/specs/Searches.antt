-- What a search for a free unit gives, and what a list that is filled up with free units comes to: by `format`'s searches.
use Rattle.std.specs.Prelude.{ℕ, ◌+◌, ◌-◌, cond, Option, Some, None, ltb, length}
use Rattle.format.specs.Layout.Space.{Space}
use Rattle.format.specs.Calls.Search.{search, growth_searches, units_found, cells_looked}
use Rattle.spaces.specs.Units.{unit_of}
use Rattle.spaces.specs.declared.Kind.{Kind}
use Rattle.spaces.specs.declared.Unit.{Unit as Place}
use Rattle.unitlists.specs.declared.Search.{Search}
use Rattle.unitlists.specs.declared.Listed.{Listed}

-- a unit, or the limit: then there is none
unfoldable pub found_at : Kind → Space → ℕ → Option Place
found_at kind sp u = cond (ltb u sp.limit) (Some (unit_of kind u)) None

-- one search
unfoldable pub search_from : Kind → Space → ℕ → Search
search_from kind sp from = record { found = found_at kind sp (search sp from).found; looked = (search sp from).looked }

-- a list of k numbers filled up to `need`: how many numbers there are then, and how many cells the searches looked at
unfoldable pub filled_up : Space → ℕ → ℕ → Listed
filled_up sp k need =
    let ss = growth_searches sp (need - k) in
    record { count = k + length (units_found sp ss); looked = cells_looked ss }
