-- The calls on pulse streams: each answer, the replies, and what they leave.
use Rattle.std.specs.Prelude.{◌≡◌, refl, [], ◌∷◌, ◌++◌, replicate}
use Rattle.format.specs.Basics.Bytes.{put_bytes}
use Rattle.format_tests.specs.Opened.{opened}
use Rattle.format_tests.specs.Images.{log, gone, built}
use Rattle.pulse_laws.specs.Calls.{record_answer, add_answer, number_alone, summary_reply, record_reply, add_reply, image_added, work_after_pulse}
use Rattle.pulse_laws.proofs.Refusals.{refusals_leave}
use Rattle.pulse_tests.specs.Opened.{opened_pulse}
use Rattle.pulse_tests.specs.Images.{two_pulses, three_pulses, seventh, still, holding, roomy, full, enough, built_pulse}

-- ---- reading

pub summary_given_lem : summary_reply roomy log enough ≡ record { number = 0; valve = 0; ticks = 0; count = 2; total = 305 }
unfolding opened built opened_pulse built_pulse
summary_given_lem = refl

record_given : record_reply roomy log 1 enough ≡ record { number = 0; valve = 2; ticks = 5; count = 0; total = 0 }
unfolding opened built opened_pulse built_pulse
record_given = refl

no_such_record : record_answer roomy log 2 enough ≡ 42
unfolding opened built opened_pulse built_pulse
no_such_record = refl

-- 40 comes before 42, and 23 before 40
broken_before_number : record_answer (holding (put_bytes two_pulses 22 (3 ∷ [])) 512) log 9 enough ≡ 40
unfolding opened built opened_pulse built_pulse
broken_before_number = refl

path_before_broken : record_answer roomy [] 9 enough ≡ 23
unfolding opened built opened_pulse built_pulse
path_before_broken = refl

-- ---- adding

pulse_added : image_added roomy log seventh enough ≡ put_bytes (holding three_pulses 512) 2090 (replicate 22 0)
unfolding opened built opened_pulse built_pulse
pulse_added = refl

-- the lower calls' refusals pass through, and come before 40 and 41
work_too_short : add_answer roomy log still (replicate 64 0) ≡ 2
unfolding opened built opened_pulse built_pulse
work_too_short = refl

no_stream : add_answer roomy gone still enough ≡ 21
unfolding opened built opened_pulse built_pulse
no_stream = refl

-- 40 comes before 41, and 41 before 26
broken_before_ticks : add_answer (holding (put_bytes two_pulses 4 (1 ∷ [])) 512) log still enough ≡ 40
unfolding opened built opened_pulse built_pulse
broken_before_ticks = refl

ticks_before_room : add_answer full log still enough ≡ 41
unfolding opened built opened_pulse built_pulse
ticks_before_room = refl

no_room : add_answer full log seventh enough ≡ 26
unfolding opened built opened_pulse built_pulse
no_room = refl

-- a refusal gives zeros and leaves the image
nothing_added : (add_reply full log seventh enough ≡ number_alone 26) × (image_added full log seventh enough ≡ full)
unfolding add_reply number_alone
nothing_added = (refusals_leave full log enough 25).of_addition seventh no_room

-- ---- the work buffer

work_cleared_lem : work_after_pulse (replicate 1536 0) 40 (replicate 40 9) ≡ replicate 39 0 ++ 9 ∷ []
unfolding opened built opened_pulse built_pulse
work_cleared_lem = refl

work_left_lem : work_after_pulse (replicate 1536 0) 2 (replicate 38 9) ≡ replicate 38 9
unfolding opened built opened_pulse built_pulse
work_left_lem = refl
