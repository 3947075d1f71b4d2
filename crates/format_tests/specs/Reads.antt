-- Reads and overwrites: 23, 24, and the bytes.
use Rattle.std.specs.Prelude.{◌≡◌, refl, [], ◌∷◌, ◌++◌, ◌+◌, replicate}
use Rattle.format.specs.Layout.Geometry.{version3}
use Rattle.format.specs.Layout.Volume.{volume}
use Rattle.format.specs.Calls.Call.{read, overwrite}
use Rattle.format.specs.Basics.Bytes.{put_bytes}
use Rattle.format.specs.Calls.Answer.{answer_in}
use Rattle.format.specs.Calls.Reply.{done}
use Rattle.format.specs.Calls.Buffers.{edited, handed_out, out_after}
use Rattle.format_tests.specs.Opened.{opened}
use Rattle.format_tests.specs.Images.{Site, log, Jets, below, bare, site, mini_sector, built}

-- ---- reads

read_across_units : out_after site (read (below Site log) 60 (replicate 12 1) (replicate 65 0)) ≡ replicate 10 0xA0 ++ 1 ∷ 1 ∷ []
unfolding opened built
read_across_units = refl

read_counts : done (volume version3 site) (read (below Site log) 60 (replicate 12 1) []) ≡ record { number = 0; entry = 0; type = 0; size = 0; count = 10 }
unfolding opened built
read_counts = refl

read_refused : out_after bare (read (below Site log) 1 (1 ∷ 2 ∷ []) (replicate 39 0)) ≡ 1 ∷ 2 ∷ []
unfolding opened built
read_refused = refl

read_part : handed_out (volume version3 site) site (read (below Site Jets) 2 (1 ∷ 1 ∷ 1 ∷ []) []) ≡ replicate 3 0xB0
unfolding opened built
read_part = refl

read_at_end : answer_in version3 (volume version3 site) (read (below Site log) 70 (1 ∷ []) []) ≡ 0
unfolding opened built
read_at_end = refl

read_nothing_at_end : handed_out (volume version3 site) site (read (below Site log) 70 (1 ∷ []) []) ≡ 1 ∷ []
unfolding opened built
read_nothing_at_end = refl

read_past_end : answer_in version3 (volume version3 site) (read (below Site log) 71 [] []) ≡ 24
unfolding opened built
read_past_end = refl

read_a_storage : answer_in version3 (volume version3 site) (read Site 0 [] []) ≡ 23
unfolding opened built
read_a_storage = refl

read_the_root : answer_in version3 (volume version3 site) (read [] 0 [] []) ≡ 23
unfolding opened built
read_the_root = refl

-- ---- overwrites

write_across_units : edited (volume version3 site) site (overwrite (below Site log) 62 (1 ∷ 2 ∷ 3 ∷ 4 ∷ []) []) ≡ put_bytes site (mini_sector 0 + 62) (1 ∷ 2 ∷ 3 ∷ 4 ∷ [])
unfolding opened built
write_across_units = refl

write_last : edited (volume version3 site) site (overwrite (below Site Jets) 9 (1 ∷ []) []) ≡ put_bytes site (mini_sector 2 + 9) (1 ∷ [])
unfolding opened built
write_last = refl

write_up_to_end : answer_in version3 (volume version3 site) (overwrite (below Site log) 66 (1 ∷ 2 ∷ 3 ∷ 4 ∷ []) []) ≡ 0
unfolding opened built
write_up_to_end = refl

write_past_end : answer_in version3 (volume version3 site) (overwrite (below Site log) 67 (1 ∷ 2 ∷ 3 ∷ 4 ∷ []) []) ≡ 24
unfolding opened built
write_past_end = refl

-- the sum is the true one
write_wrapping_sum : answer_in version3 (volume version3 site) (overwrite (below Site log) 0xFFFF_FFFF_FFFF_FFFF (1 ∷ 2 ∷ []) []) ≡ 24
unfolding opened built
write_wrapping_sum = refl

write_nothing_at_end : answer_in version3 (volume version3 site) (overwrite (below Site log) 70 [] []) ≡ 0
unfolding opened built
write_nothing_at_end = refl

write_nothing_past_end : answer_in version3 (volume version3 site) (overwrite (below Site log) 71 [] []) ≡ 24
unfolding opened built
write_nothing_past_end = refl

write_a_storage : answer_in version3 (volume version3 site) (overwrite Site 0 [] []) ≡ 23
unfolding opened built
write_a_storage = refl
