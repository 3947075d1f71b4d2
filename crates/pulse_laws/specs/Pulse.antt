-- A pulse stream: a preamble, which may be anything, then records of 8 bytes, then a trailer of 16.
-- Ticks and numbers of records are kinds of their own in the code. Here both are ℕ, and a name says which it is: `ticks` and `total` are ticks;
-- `count` and a record's `number` are records.
use Rattle.std.specs.Prelude.{ℕ, ◌+◌, ◌-◌, ◌*◌, Bool, ◌&&◌, List, ◌++◌, eqb, leb, length, take}
use Rattle.format.specs.Basics.Lists.{all_below, list_below, sum}
use Rattle.format.specs.Basics.Bytes.{Bytes, u16at, u32at, u64at, le16, le32, le64}

pub record Pulse : Type 0 where
  pub valve : ℕ
  -- of 0.1 ms
  pub ticks : ℕ

-- ---- how records and the trailer are written

abbrev pub record_length : ℕ
record_length = 8

abbrev pub trailer_length : ℕ
trailer_length = 16

unfoldable pub record_of : Pulse → Bytes
record_of p = le16 p.valve ++ le16 0 ++ le32 p.ticks

-- from the stream's end back to the first record
unfoldable pub distance_for : (count : ℕ) → ℕ
distance_for count = trailer_length + record_length * count

unfoldable pub trailer_of : (count total : ℕ) → Bytes
trailer_of count total = le32 (distance_for count) ++ le32 count ++ le64 total

-- ---- how they are read. A stream that is too short for a trailer is refused before its fields are looked at.

unfoldable pub distance : Bytes → ℕ
distance s = u32at s (length s - trailer_length)

unfoldable pub count : Bytes → ℕ
count s = u32at s (length s - 12)

unfoldable pub total : Bytes → ℕ
total s = u64at s (length s - 8)

-- where record k starts: the first stands the distance before the end
unfoldable pub record_place : Bytes → (number : ℕ) → ℕ
record_place s k = length s - distance s + record_length * k

unfoldable pub preamble : Bytes → Bytes
preamble s = take (record_place s 0) s

unfoldable pub valve_at : Bytes → (number : ℕ) → ℕ
valve_at s k = u16at s (record_place s k)

unfoldable pub zero_at : Bytes → (number : ℕ) → ℕ
zero_at s k = u16at s (record_place s k + 2)

unfoldable pub ticks_at : Bytes → (number : ℕ) → ℕ
ticks_at s k = u32at s (record_place s k + 4)

unfoldable pub pulse_at : Bytes → (number : ℕ) → Pulse
pulse_at s k = record { valve = valve_at s k; ticks = ticks_at s k }

-- all records, first to last
unfoldable pub pulses_in : Bytes → List Pulse
pulses_in s = list_below (count s) (pulse_at s)

-- ---- what the bytes must be

-- the zero field is zero, and there is at least one tick
unfoldable pub record_right : Bytes → (number : ℕ) → Bool
record_right s k = eqb (zero_at s k) 0 && leb 1 (ticks_at s k)

-- the ticks of the first n records
unfoldable pub ticks_below : Bytes → (n : ℕ) → ℕ
ticks_below s n = sum (list_below n (ticks_at s))

-- room for a trailer; the trailer agrees with itself, with the length and with the records, and each record is right
unfoldable pub is_pulse_stream : Bytes → Bool
is_pulse_stream s =
    leb trailer_length (length s)
    && eqb (distance s) (distance_for (count s))
    && leb (distance s) (length s)
    && all_below (count s) (record_right s)
    && eqb (total s) (ticks_below s (count s))
