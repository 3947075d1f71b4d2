-- How a change of length finds the units that it adds: one search after the other over a table's cells, each going on where the last one ended.
-- They find the free units, lowest first, so no answer and no byte depends on how it is done.
use Rattle.std.specs.Prelude.{ℕ, zero, suc, ◌-◌, min, Bool, cond, ◌&&◌, List, [], ◌∷◌, ◌++◌, map, ltb, leb, length, take, get_or}
use Rattle.format.specs.Basics.Lists.{pick_below, sum}
use Rattle.format.specs.Layout.Need.{round_up}
use Rattle.format.specs.Layout.Chain.{is_free}
use Rattle.format.specs.Layout.Space.{Space}
use Rattle.format.specs.Layout.Volume.{Volume}
use Rattle.format.specs.Layout.Stream.{space_for, stream_size, stream_units}
use Rattle.format.specs.Calls.SetLength.{crosses}

pub record Search : Type 0 where
  -- the unit whose cell is looked at first
  pub from : ℕ
  -- the unit found, or the limit where there is none
  pub found : ℕ
  -- how many cells are looked at
  pub looked : ℕ

-- ---- one search

-- free, and not below a place
unfoldable pub free_from : Space → ℕ → ℕ → Bool
free_from sp from u = leb from u && is_free sp.cell u

-- the lowest free unit from a place on, or the limit
unfoldable pub lowest_free : Space → ℕ → ℕ
lowest_free sp from = get_or (pick_below sp.limit (free_from sp from)) 0 sp.limit

-- A search looks at each cell from its beginning to that of the unit found, that one included. Where there is none, the last unit's cell is the
-- last one.
unfoldable pub search : Space → ℕ → Search
search sp from =
    let u = lowest_free sp from in
    record { from = from; found = u; looked = min (suc u) sp.limit - from }

-- ---- those of a growth

-- n searches: each begins just above the unit found last, and after one that finds none there is no other
unfoldable pub searches : Space → ℕ → ℕ → List Search
searches sp zero from = []
searches sp (suc n) from =
    let u = lowest_free sp from in
    let more = searches sp n (suc u) in
    search sp from ∷ cond (ltb u sp.limit) more []

-- of a growth by n units: the first begins at 0
unfoldable pub growth_searches : Space → ℕ → List Search
growth_searches sp n = searches sp n 0

-- the units that they find, in their order
unfoldable pub units_found : Space → List Search → List ℕ
units_found sp [] = []
units_found sp (s ∷ ss) = cond (ltb s.found sp.limit) (s.found ∷ []) [] ++ units_found sp ss

abbrev pub looked_by : Search → ℕ
looked_by s = s.looked

-- how many cells they look at, all together
unfoldable pub cells_looked : List Search → ℕ
cells_looked ss = sum (map looked_by ss)

-- ---- those of a change of length

-- of a chain that has so many units and is to have `need`: for those that it lacks. A need of more units than there are is refused with no search.
unfoldable pub searches_for : Space → ℕ → ℕ → List Search
searches_for sp kept need =
    let ss = growth_searches sp (need - kept) in
    cond (ltb sp.limit need) [] ss

-- the units that a stream keeps: none where it moves to the other space
unfoldable pub kept_units : Volume → ℕ → ℕ → List ℕ
kept_units v e new = cond (crosses (stream_size v e) new) [] (take (round_up new (space_for v new).unit) (stream_units v e))

-- in the space that the new length lies in
unfoldable pub length_searches : Volume → ℕ → ℕ → List Search
length_searches v e new =
    let sp = space_for v new in
    searches_for sp (length (kept_units v e new)) (round_up new sp.unit)
