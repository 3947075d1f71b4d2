-- What a read hands over.
use Rattle.std.specs.Prelude.{ℕ, ◌-◌, min, ◌++◌, length, drop}
use Rattle.format.specs.Basics.Bytes.{Bytes, part}

-- as many bytes as are left of the stream, and as the out buffer holds
unfoldable pub read_count : ℕ → ℕ → ℕ → ℕ
read_count size offset capacity = min (size - offset) capacity

unfoldable pub read_bytes : Bytes → ℕ → ℕ → Bytes
read_bytes stream offset capacity = part stream offset (read_count (length stream) offset capacity)

-- bytes put at the front of an out buffer; those behind them stay
unfoldable pub over : Bytes → Bytes → Bytes
over new out = new ++ drop (length new) out
