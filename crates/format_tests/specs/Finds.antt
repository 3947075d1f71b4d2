-- Paths and what they lead to: 20, 21, 22, and the values of a find.
use Rattle.std.specs.Prelude.{◌≡◌, refl, [], ◌∷◌, ◌++◌, replicate}
use Rattle.format.specs.Layout.Geometry.{version3}
use Rattle.format.specs.Layout.Volume.{volume}
use Rattle.format.specs.Calls.Call.{find}
use Rattle.format.specs.Calls.Answer.{answer_in}
use Rattle.format.specs.Calls.Reply.{reply, done}
use Rattle.format.specs.Calls.Buffers.{work_after}
use Rattle.format_tests.specs.Opened.{opened}
use Rattle.format_tests.specs.Images.{Site, log, LOG, gone, below, bare, site, built}

-- ---- whole calls: the reply, and the work buffer

root_found : reply bare (find [] (replicate 39 9)) ≡ record { number = 0; entry = 0; type = 5; size = 0; count = 0 }
unfolding opened built
root_found = refl

-- with other letters of its name
stream_found_lem : reply bare (find (below Site LOG) (replicate 39 0)) ≡ record { number = 0; entry = 2; type = 2; size = 0; count = 0 }
unfolding opened built
stream_found_lem = refl

not_found : reply bare (find gone (replicate 39 0)) ≡ record { number = 21; entry = 0; type = 0; size = 0; count = 0 }
unfolding opened built
not_found = refl

work_cleared_lem : work_after bare (find gone (replicate 41 9)) ≡ replicate 39 0 ++ 9 ∷ 9 ∷ []
unfolding opened built
work_cleared_lem = refl

work_untouched : work_after bare (find gone (replicate 38 9)) ≡ replicate 38 9
unfolding opened built
work_untouched = refl

-- ---- the answer of an accepted image

root_size_lem : done (volume version3 site) (find [] []) ≡ record { number = 0; entry = 0; type = 5; size = 512; count = 0 }
unfolding opened built
root_size_lem = refl

storage_found : done (volume version3 bare) (find Site []) ≡ record { number = 0; entry = 1; type = 1; size = 0; count = 0 }
unfolding opened built
storage_found = refl

first_name_missing : answer_in version3 (volume version3 bare) (find (below gone log) []) ≡ 21
unfolding opened built
first_name_missing = refl

last_name_missing : answer_in version3 (volume version3 bare) (find (below Site gone) []) ≡ 21
unfolding opened built
last_name_missing = refl

below_a_stream : answer_in version3 (volume version3 bare) (find (below (below Site log) gone) []) ≡ 22
unfolding opened built
below_a_stream = refl

missing_before_stream : answer_in version3 (volume version3 bare) (find (below gone (below log gone)) []) ≡ 21
unfolding opened built
missing_before_stream = refl

trailing_slash : answer_in version3 (volume version3 bare) (find (below Site []) []) ≡ 20
unfolding opened built
trailing_slash = refl

only_a_slash : answer_in version3 (volume version3 bare) (find (below [] []) []) ≡ 20
unfolding opened built
only_a_slash = refl

-- 20 is asked of the whole path first
colon_after_missing : answer_in version3 (volume version3 bare) (find (below gone (0x3A ∷ [])) []) ≡ 20
unfolding opened built
colon_after_missing = refl

backslash : answer_in version3 (volume version3 bare) (find (0x5C ∷ []) []) ≡ 20
unfolding opened built
backslash = refl

exclamation_mark : answer_in version3 (volume version3 bare) (find (0x53 ∷ 0x21 ∷ []) []) ≡ 20
unfolding opened built
exclamation_mark = refl

zero_unit : answer_in version3 (volume version3 bare) (find (0x53 ∷ 0 ∷ []) []) ≡ 20
unfolding opened built
zero_unit = refl

name_of_31 : answer_in version3 (volume version3 bare) (find (replicate 31 0x41) []) ≡ 21
unfolding opened built
name_of_31 = refl

name_of_32 : answer_in version3 (volume version3 bare) (find (replicate 32 0x41) []) ≡ 20
unfolding opened built
name_of_32 = refl
