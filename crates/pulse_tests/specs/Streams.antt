-- What a pulse stream's bytes are, and what an addition makes of them.
use Rattle.std.specs.Prelude.{◌≡◌, refl, true, false, [], ◌∷◌, ◌++◌, replicate}
use Rattle.format.specs.Basics.Bytes.{put_bytes}
use Rattle.format_tests.specs.Opened.{opened}
use Rattle.pulse_laws.specs.Pulse.{is_pulse_stream, count, total, preamble, pulses_in}
use Rattle.pulse_laws.specs.Added.{with_pulse}
use Rattle.pulse_laws.specs.Claim.{but26}
use Rattle.pulse_tests.specs.Opened.{opened_pulse}
use Rattle.pulse_tests.specs.Images.{two_pulses, three_pulses, seventh, no_pulse, one_pulse, built_pulse}

-- ---- what is read

two_read : (is_pulse_stream two_pulses ≡ true) × (count two_pulses ≡ 2) × (total two_pulses ≡ 305)
unfolding opened opened_pulse built_pulse
two_read = (refl, refl, refl)

two_parts_lem : (preamble two_pulses ≡ 0x50 ∷ 0x31 ∷ []) × (pulses_in two_pulses ≡ record { valve = 1; ticks = 300 } ∷ record { valve = 2; ticks = 5 } ∷ [])
unfolding opened opened_pulse built_pulse
two_parts_lem = (refl, refl)

none_read : (is_pulse_stream no_pulse ≡ true) × (count no_pulse ≡ 0) × (total no_pulse ≡ 0) × (preamble no_pulse ≡ [])
unfolding opened opened_pulse built_pulse
none_read = (refl, refl, refl, refl)

one_read : (is_pulse_stream one_pulse ≡ true) × (preamble one_pulse ≡ []) × (pulses_in one_pulse ≡ record { valve = 0xFFFF; ticks = 0xFFFF_FFFF } ∷ [])
unfolding opened opened_pulse built_pulse
one_read = (refl, refl, refl)

-- any preamble: 40 bytes, and the bytes of another pulse stream
long_preamble : (is_pulse_stream (replicate 40 0xAA ++ two_pulses) ≡ true) × (count (replicate 40 0xAA ++ two_pulses) ≡ 2)
unfolding opened opened_pulse built_pulse
long_preamble = (refl, refl)

stream_for_preamble : (is_pulse_stream (three_pulses ++ one_pulse) ≡ true) × (preamble (three_pulses ++ one_pulse) ≡ three_pulses)
unfolding opened opened_pulse built_pulse
stream_for_preamble = (refl, refl)

-- ---- what is added

addition : with_pulse two_pulses seventh ≡ three_pulses
unfolding opened opened_pulse built_pulse
addition = refl

-- the total passes four bytes
carry : (total (with_pulse one_pulse seventh) ≡ 0x1_0000_00FF) × (is_pulse_stream (with_pulse one_pulse seventh) ≡ true)
unfolding opened opened_pulse built_pulse
carry = (refl, refl)

first : with_pulse no_pulse seventh ≡ 7 ∷ 0 ∷ 0 ∷ 0 ∷ 0 ∷ 1 ∷ 0 ∷ 0 ∷ 24 ∷ 0 ∷ 0 ∷ 0 ∷ 1 ∷ 0 ∷ 0 ∷ 0 ∷ 0 ∷ 1 ∷ replicate 6 0
unfolding opened opened_pulse built_pulse
first = refl

-- ---- 40: too short

too_short : is_pulse_stream (replicate 15 0) ≡ false
unfolding opened opened_pulse built_pulse
too_short = refl

-- ---- the trailer against itself: another distance, another count, and a count whose distance is right in four bytes alone

other_distance : is_pulse_stream (put_bytes two_pulses 18 (24 ∷ [])) ≡ false
unfolding opened opened_pulse built_pulse
other_distance = refl

other_count : is_pulse_stream (put_bytes two_pulses 22 (3 ∷ [])) ≡ false
unfolding opened opened_pulse built_pulse
other_count = refl

true_sum : is_pulse_stream (16 ∷ replicate 6 0 ++ (0x20 ∷ replicate 8 0)) ≡ false
unfolding opened opened_pulse built_pulse
true_sum = refl

all_zero_lem : is_pulse_stream (replicate 16 0) ≡ false
unfolding opened opened_pulse built_pulse
all_zero_lem = refl

-- ---- against the length

past_the_start : is_pulse_stream (24 ∷ 0 ∷ 0 ∷ 0 ∷ 1 ∷ replicate 11 0) ≡ false
unfolding opened opened_pulse built_pulse
past_the_start = refl

-- ---- against the records: a total of one more, and of one less

total_above : is_pulse_stream (put_bytes two_pulses 26 (0x32 ∷ [])) ≡ false
unfolding opened opened_pulse built_pulse
total_above = refl

total_below : is_pulse_stream (put_bytes two_pulses 26 (0x30 ∷ [])) ≡ false
unfolding opened opened_pulse built_pulse
total_below = refl

-- ---- a record with no ticks, with the total that goes with it; and a zero field that is not zero, in either byte

no_ticks : is_pulse_stream (put_bytes (put_bytes two_pulses 14 (0 ∷ [])) 26 (0x2C ∷ [])) ≡ false
unfolding opened opened_pulse built_pulse
no_ticks = refl

zero_field : (is_pulse_stream (put_bytes two_pulses 4 (1 ∷ [])) ≡ false) × (is_pulse_stream (put_bytes two_pulses 13 (1 ∷ [])) ≡ false)
unfolding opened opened_pulse built_pulse
zero_field = (refl, refl)

-- ---- the change of length's refusals pass before 40 and 41, but 26 comes last

order_of_answers : (but26 23 40 ≡ 23) × (but26 26 41 ≡ 41) × (but26 26 0 ≡ 26) × (but26 0 40 ≡ 40)
unfolding opened opened_pulse built_pulse
order_of_answers = (refl, refl, refl, refl)
