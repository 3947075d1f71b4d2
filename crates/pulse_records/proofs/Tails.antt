-- The last bytes of a stream as the writes build them up.
use Prim.Native.Nat.{ℕ}
use mathlib.Core.Path.{◌≡◌}
use mathlib.Core.List.{◌++◌}
use lib.ListN.{length}
use Rattle.format.specs.Basics.Bytes.{Bytes, le16, le32, le64, put_bytes, put16, put32, put64}
use Rattle.frame.proofs.MadeEntries.{sets_whole}
use Rattle.pulse_laws.specs.Pulse.{Pulse, record_of, trailer_of, distance_for}

pub tail_built : (b : Bytes) (p : Pulse) (count total : ℕ) → length b ≡ 24
    → put64 (put32 (put32 (put32 (put16 (put16 b 0 p.valve) 2 0) 4 p.ticks) 8 (distance_for count)) 12 count) 16 total
    ≡ record_of p ++ trailer_of count total
unfolding put_bytes put16 put32 put64 le16 le32 le64 record_of trailer_of
tail_built b p count total h = sets_whole b (record_of p ++ trailer_of count total) h
