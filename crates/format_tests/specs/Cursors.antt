-- Reads at a cursor (W-212): 33 before 24, the bytes, and where the cursor stands.
use Rattle.std.specs.Prelude.{◌≡◌, refl, [], ◌∷◌, ◌++◌, replicate}
use Rattle.format.specs.Layout.Geometry.{version3}
use Rattle.format.specs.Layout.Volume.{volume}
use Rattle.format.specs.Calls.Call.{read_at}
use Rattle.format.specs.Calls.Answer.{answer_in}
use Rattle.format.specs.Calls.Reply.{done}
use Rattle.format.specs.Calls.Buffers.{handed_out, out_after}
use Rattle.format.specs.Calls.CursorMoves.{cursor_after}
use Rattle.format_tests.specs.Opened.{opened}
use Rattle.format_tests.specs.Images.{bare, site, smallest, built}

-- ---- 33: the root, a storage, a blank entry, past the directory

at_the_root : answer_in version3 (volume version3 site) (read_at 0 0 [] []) ≡ 33
unfolding opened built
at_the_root = refl

at_a_storage : answer_in version3 (volume version3 site) (read_at 1 0 [] []) ≡ 33
unfolding opened built
at_a_storage = refl

at_a_blank : answer_in version3 (volume version3 smallest) (read_at 1 0 [] []) ≡ 33
unfolding opened built
at_a_blank = refl

past_the_directory : answer_in version3 (volume version3 site) (read_at 4 0 [] []) ≡ 33
unfolding opened built
past_the_directory = refl

-- 33 comes before 24
storage_and_position : answer_in version3 (volume version3 site) (read_at 1 71 [] []) ≡ 33
unfolding opened built
storage_and_position = refl

-- ---- 24, and the end

past_the_end : answer_in version3 (volume version3 site) (read_at 2 71 [] []) ≡ 24
unfolding opened built
past_the_end = refl

at_the_end : done (volume version3 site) (read_at 2 70 (1 ∷ []) []) ≡ record { number = 0; entry = 0; type = 0; size = 0; count = 0 }
unfolding opened built
at_the_end = refl

-- ---- the bytes, and the cursor

next_bytes : handed_out (volume version3 site) site (read_at 2 66 (replicate 6 1) []) ≡ replicate 4 0xA0 ++ 1 ∷ 1 ∷ []
unfolding opened built
next_bytes = refl

cursor_moved : cursor_after site (record { entry = 2; position = 66 }) (replicate 6 1) (replicate 65 0) ≡ record { entry = 2; position = 70 }
unfolding opened built
cursor_moved = refl

-- a refusal leaves the cursor, and the out buffer
cursor_left : cursor_after bare (record { entry = 2; position = 1 }) (1 ∷ []) (replicate 39 0) ≡ record { entry = 2; position = 1 }
unfolding opened built
cursor_left = refl

out_left : out_after bare (read_at 1 0 (1 ∷ []) (replicate 39 0)) ≡ 1 ∷ []
unfolding opened built
out_left = refl
