-- A change of a small stream's length: 23, 26, and the bytes.
use Rattle.std.specs.Prelude.{◌≡◌, refl, [], ◌+◌, replicate}
use Rattle.format.specs.Layout.Geometry.{version3}
use Rattle.format.specs.Layout.Volume.{volume}
use Rattle.format.specs.Calls.Call.{set_length}
use Rattle.format.specs.Basics.Bytes.{Bytes, put_bytes, put32}
use Rattle.format.specs.Layout.Chain.{FREE, END}
use Rattle.format.specs.Calls.Answer.{answer_in}
use Rattle.format.specs.Calls.Buffers.{edited, image_after}
use Rattle.format_tests.specs.Opened.{opened}
use Rattle.format_tests.specs.Images.{Site, log, Jets, below, bare, site, in_entry, mini_cell, mini_sector, built}

-- `site` with Jets cut to nothing
abbrev emptied : Bytes
emptied = put32 (put32 (put32 site (mini_cell 2) FREE) (in_entry 3 116) END) (in_entry 3 120) 0

-- `site` with rubbish in the upper half of log's size
abbrev unset : Bytes
unset = put32 site (in_entry 2 124) 0xEEEE_EEEE

-- ---- the upper half of the size

-- a change to another length writes all eight bytes, one to the length as read writes none
upper_half_written : edited (volume version3 unset) unset (set_length (below Site log) 65 []) ≡ put32 site (in_entry 2 120) 65
unfolding opened built
upper_half_written = refl

upper_half_left : edited (volume version3 unset) unset (set_length (below Site log) 70 []) ≡ unset
unfolding opened built
upper_half_left = refl

-- ---- shorter

same_length : edited (volume version3 site) site (set_length (below Site log) 70 []) ≡ site
unfolding opened built
same_length = refl

shorter_in_unit : edited (volume version3 site) site (set_length (below Site log) 65 []) ≡ put32 site (in_entry 2 120) 65
unfolding opened built
shorter_in_unit = refl

shorter_by_a_unit : edited (volume version3 site) site (set_length (below Site log) 64 []) ≡ put32 (put32 (put32 site (mini_cell 0) END) (mini_cell 1) FREE) (in_entry 2 120) 64
unfolding opened built
shorter_by_a_unit = refl

to_zero : edited (volume version3 site) site (set_length (below Site log) 0 []) ≡ put32 (put32 (put32 (put32 site (mini_cell 0) FREE) (mini_cell 1) FREE) (in_entry 2 116) END) (in_entry 2 120) 0
unfolding opened built
to_zero = refl

-- ---- longer

-- no unit is added, and the unit is zero from the old end to its own
longer_in_unit : edited (volume version3 site) site (set_length (below Site Jets) 20 []) ≡ put32 (put_bytes site (mini_sector 2 + 10) (replicate 54 0)) (in_entry 3 120) 20
unfolding opened built
longer_in_unit = refl

longer_by_two_units : edited (volume version3 site) site (set_length (below Site log) 200 []) ≡ put32 (put32 (put32 (put32 (put_bytes (put_bytes site (mini_sector 1 + 6) (replicate 58 0)) (mini_sector 3) (replicate 128 0)) (mini_cell 1) 3) (mini_cell 3) 4) (mini_cell 4) END) (in_entry 2 120) 200
unfolding opened built
longer_by_two_units = refl

from_zero : edited (volume version3 emptied) emptied (set_length (below Site Jets) 1 []) ≡ put32 (put32 (put32 (put_bytes emptied (mini_sector 2) (replicate 64 0)) (mini_cell 2) END) (in_entry 3 116) 2) (in_entry 3 120) 1
unfolding opened built
from_zero = refl

-- ---- when it is refused

all_free_units : answer_in version3 (volume version3 site) (set_length (below Site log) 448 []) ≡ 0
unfolding opened built
all_free_units = refl

one_too_few : answer_in version3 (volume version3 site) (set_length (below Site log) 449 []) ≡ 26
unfolding opened built
one_too_few = refl

not_a_stream : answer_in version3 (volume version3 site) (set_length Site 0 []) ≡ 23
unfolding opened built
not_a_stream = refl

refused_unchanged : image_after bare (set_length (below Site log) 64 (replicate 39 0)) ≡ bare
unfolding opened built
refused_unchanged = refl
