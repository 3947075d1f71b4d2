-- A change of length across the cutoff: 26, and the bytes.
use Rattle.std.specs.Prelude.{◌≡◌, refl, [], ◌++◌, replicate}
use Rattle.format.specs.Basics.Bytes.{put_bytes, put32}
use Rattle.format.specs.Layout.Chain.{END}
use Rattle.format.specs.Layout.Geometry.{version3}
use Rattle.format.specs.Layout.Volume.{volume}
use Rattle.format.specs.Calls.Call.{set_length}
use Rattle.format.specs.Calls.Answer.{answer_in}
use Rattle.format.specs.Calls.Buffers.{edited}
use Rattle.format_tests.specs.Opened.{opened}
use Rattle.format_tests.specs.Images.{Site, log, below, site, roomy, small_and_large, in_entry, mini_sector, built}

-- ---- up

eight_free : answer_in version3 (volume version3 (roomy 8)) (set_length (below Site log) 4096 []) ≡ 0
unfolding opened built
eight_free = refl

seven_free : answer_in version3 (volume version3 (roomy 7)) (set_length (below Site log) 4096 []) ≡ 26
unfolding opened built
seven_free = refl

far_up : answer_in version3 (volume version3 site) (set_length (below Site log) 18446744073709551615 []) ≡ 26
unfolding opened built
far_up = refl

-- ---- down

-- one mini sector is free
down_enough : answer_in version3 (volume version3 small_and_large) (set_length (below Site log) 64 []) ≡ 0
unfolding opened built
down_enough = refl

down_too_few : answer_in version3 (volume version3 small_and_large) (set_length (below Site log) 65 []) ≡ 26
unfolding opened built
down_too_few = refl

-- the bytes that are kept, and zeros to the end of the mini sector; the sectors are free, and their bytes stay
down :
    edited (volume version3 small_and_large) small_and_large (set_length (below Site log) 5 [])
    ≡ put_bytes (put32 (put32 (put32 (put_bytes small_and_large 528 (replicate 32 0xFF)) (in_entry 2 116) 1) (in_entry 2 120) 5) 1540 END)
    (mini_sector 1)
    (replicate 5 0xA0 ++ replicate 59 0)
unfolding opened built
down = refl
