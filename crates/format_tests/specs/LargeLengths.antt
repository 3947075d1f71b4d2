-- A change of a large stream's length, and from 0 to the cutoff.
use Rattle.std.specs.Prelude.{◌≡◌, refl, [], replicate}
use Rattle.format.specs.Layout.Geometry.{version3}
use Rattle.format.specs.Layout.Volume.{volume}
use Rattle.format.specs.Calls.Call.{set_length}
use Rattle.format.specs.Basics.Bytes.{put_bytes, put32}
use Rattle.format.specs.Layout.Chain.{END}
use Rattle.format.specs.Calls.Answer.{answer_in}
use Rattle.format.specs.Calls.Buffers.{edited}
use Rattle.format.specs.Rules.Verdict.{verdict}
use Rattle.format_tests.specs.Opened.{opened}
use Rattle.format_tests.specs.Images.{log, large, hollow, in_entry, built}

-- a stream below the cutoff does not lie in sectors
small_in_sectors : verdict version3 (large 4000 0) 143 ≡ 17
unfolding opened built
small_in_sectors = refl

cutoff_accepted : verdict version3 (large 4096 0) 143 ≡ 0
unfolding opened built
cutoff_accepted = refl

large_shorter : edited (volume version3 (large 4096 0)) (large 4096 0) (set_length log 0 []) ≡ put32 (put32 (put_bytes (large 4096 0) 520 (replicate 32 0xFF)) (in_entry 1 116) END) (in_entry 1 120) 0
unfolding opened built
large_shorter = refl

large_too_few : answer_in version3 (volume version3 (large 4096 0)) (set_length log 4097 []) ≡ 26
unfolding opened built
large_too_few = refl

large_enough : answer_in version3 (volume version3 (large 4096 1)) (set_length log 4097 []) ≡ 0
unfolding opened built
large_enough = refl

to_zero_needs_no_room : answer_in version3 (volume version3 (large 4096 0)) (set_length log 0 []) ≡ 0
unfolding opened built
to_zero_needs_no_room = refl

from_zero_eight_free : answer_in version3 (volume version3 (hollow 8)) (set_length log 4096 []) ≡ 0
unfolding opened built
from_zero_eight_free = refl

from_zero_seven_free : answer_in version3 (volume version3 (hollow 7)) (set_length log 4096 []) ≡ 26
unfolding opened built
from_zero_seven_free = refl

from_zero_absurd : answer_in version3 (volume version3 (hollow 8)) (set_length log 9223372036854775808 []) ≡ 26
unfolding opened built
from_zero_absurd = refl

from_zero_no_mini_stream : answer_in version3 (volume version3 (hollow 8)) (set_length log 1 []) ≡ 26
unfolding opened built
from_zero_no_mini_stream = refl
