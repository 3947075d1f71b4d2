-- Records and a trailer in any bytes, as the code reads them.
use Rattle.std.specs.Prelude.{ℕ, ◌+◌, ◌*◌, Bool, cond, ◌&&◌, Option, Some, None, eqb, leb}
use Rattle.format.specs.Basics.Bytes.{Bytes, u16at, u32at, u64at}
use Rattle.format.specs.Basics.Lists.{all_below, list_below, sum}
use Rattle.pulse_laws.specs.Pulse.{Pulse}
use Rattle.pulse_records.specs.declared.Pulse.{Pulse as PulseRead}
use Rattle.pulse_records.specs.declared.Trailer.{Trailer}
use Rattle.pulse_records.specs.declared.TotalTicks.{TotalTicks}

-- the pulse that the code's one stands for
abbrev pub pulse_of : PulseRead → Pulse
pulse_of p = record { valve = p.valve.0; ticks = p.ticks.0 }

-- ---- the record at a place

unfoldable pub pulse_in : Bytes → (place : ℕ) → PulseRead
pulse_in b at = record { valve = record { 0 = u16at b at }; ticks = record { 0 = u32at b (at + 4) } }

unfoldable pub right_at : Bytes → (place : ℕ) → Bool
right_at b at = eqb (u16at b (at + 2)) 0 && leb 1 (u32at b (at + 4))

-- ---- records that stand one after the other from a place on

unfoldable pub right_from : Bytes → (first number : ℕ) → Bool
right_from b first k = right_at b (first + 8 * k)

unfoldable pub ticks_from : Bytes → (first number : ℕ) → ℕ
ticks_from b first k = u32at b (first + 8 * k + 4)

-- the ticks of n records on top of others, where each record is right
unfoldable pub sum_from : Bytes → (first n before : ℕ) → Option TotalTicks
sum_from b first n before =
    cond (all_below n (right_from b first)) (Some (record { 0 = before + sum (list_below n (ticks_from b first)) })) None

-- ---- a trailer of 16 bytes

unfoldable pub trailer_in : Bytes → Trailer
trailer_in b = record { distance = u32at b 0; count = record { 0 = u32at b 4 }; total = record { 0 = u64at b 8 } }
