-- The bytes of a pulse stream after an addition: 8 bytes longer, with a record and a new trailer from the old trailer's place on.
use Rattle.std.specs.Prelude.{ℕ, ◌+◌, ◌-◌, ◌++◌, length}
use Rattle.format.specs.Basics.Lists.{fit}
use Rattle.format.specs.Basics.Bytes.{Bytes, put_bytes}
use Rattle.pulse_laws.specs.Pulse.{Pulse, record_of, trailer_of, record_length, trailer_length, count, total}

-- the length after it
unfoldable pub longer : Bytes → ℕ
longer s = length s + record_length

-- where the old trailer stands, and the 24 bytes that are put there
unfoldable pub trailer_place : Bytes → ℕ
trailer_place s = length s - trailer_length

unfoldable pub tail : Bytes → Pulse → Bytes
tail s p = record_of p ++ trailer_of (count s + 1) (total s + p.ticks)

-- as a change of length and an overwrite leave them
unfoldable pub with_pulse : Bytes → Pulse → Bytes
with_pulse s p = put_bytes (fit (longer s) s) (trailer_place s) (tail s p)
