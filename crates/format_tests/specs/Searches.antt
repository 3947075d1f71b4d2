-- The searches of a growth, and the cells that they look at.
use Rattle.std.specs.Prelude.{◌≡◌, refl, [], ◌∷◌}
use Rattle.format.specs.Basics.Bytes.{Bytes, put32}
use Rattle.format.specs.Layout.Chain.{FREE, END}
use Rattle.format.specs.Layout.Geometry.{version3}
use Rattle.format.specs.Layout.Space.{Space}
use Rattle.format.specs.Layout.Volume.{volume}
use Rattle.format.specs.Calls.Search.{growth_searches, units_found, cells_looked, kept_units, length_searches}
use Rattle.format_tests.specs.Opened.{opened}
use Rattle.format_tests.specs.Images.{site, small_and_large, in_entry, mini_cell, built}

-- `site`, but log has 64 bytes, so that mini sector 1 is free too. Free are 1, 3, 4, 5, 6, 7; log is entry 2.
abbrev gap : Bytes
gap = put32 (put32 (put32 site (in_entry 2 120) 64) (mini_cell 0) END) (mini_cell 1) FREE

abbrev minis : Space
minis = (volume version3 gap).minis

three_searches :
    growth_searches minis 3
    ≡ record { from = 0; found = 1; looked = 2 }
    ∷ record { from = 2; found = 3; looked = 2 }
    ∷ record { from = 4; found = 4; looked = 1 }
    ∷ []
unfolding opened built
three_searches = refl

-- all six, and more than there are: no search looks past the last unit's cell
all_cells : (cells_looked (growth_searches minis 6) ≡ 8) × (cells_looked (growth_searches minis 9) ≡ 8)
unfolding opened built
all_cells = (refl, refl)

all_units : units_found minis (growth_searches minis 9) ≡ 1 ∷ 3 ∷ 4 ∷ 5 ∷ 6 ∷ 7 ∷ []
unfolding opened built
all_units = refl

-- `site`, where 5 alone is free
abbrev crowded : Space
crowded = (volume version3 (put32 (put32 (put32 (put32 (put32 site (mini_cell 3) END) (mini_cell 4) END) (mini_cell 5) FREE) (mini_cell 6) END) (mini_cell 7) END)).minis

-- the last search finds nothing in the two cells that are left, and they count
nothing_left :
    (growth_searches crowded 2 ≡ record { from = 0; found = 5; looked = 6 } ∷ record { from = 6; found = 8; looked = 2 } ∷ [])
    × (units_found crowded (growth_searches crowded 2) ≡ 5 ∷ [])
unfolding opened built
nothing_left = (refl, refl)

-- log from 64 bytes to 130: one unit is kept, and two are searched for
longer :
    (kept_units (volume version3 gap) 2 130 ≡ 0 ∷ [])
    × (length_searches (volume version3 gap) 2 130 ≡ record { from = 0; found = 1; looked = 2 } ∷ record { from = 2; found = 3; looked = 2 } ∷ [])
unfolding opened built
longer = (refl, refl)

-- a shorter length, and the same one, search for nothing
no_searches : (length_searches (volume version3 site) 2 1 ≡ []) × (length_searches (volume version3 gap) 2 64 ≡ [])
unfolding opened built
no_searches = (refl, refl)

-- across the cutoff no unit is kept, and those of the other kind are searched for: of log (4,096 bytes, entry 2) one of the mini sectors; of Jets (10
-- bytes, entry 3) eight of the sectors, of which 12 alone is free. It is the last, so the second search has no cell to look at.
across_down :
    (kept_units (volume version3 small_and_large) 2 64 ≡ [])
    × (length_searches (volume version3 small_and_large) 2 64 ≡ record { from = 0; found = 1; looked = 2 } ∷ [])
unfolding opened built
across_down = (refl, refl)

across_up : length_searches (volume version3 small_and_large) 3 4096 ≡ record { from = 0; found = 12; looked = 13 } ∷ record { from = 13; found = 13; looked = 0 } ∷ []
unfolding opened built
across_up = refl
