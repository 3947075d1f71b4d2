-- What a stream's bytes are parsed to be.
use Rattle.std.specs.Prelude.{cond, Option, Some, None}
use Rattle.format.specs.Basics.Bytes.{Bytes}
use Rattle.pulse_laws.specs.Pulse.{distance, count, total, is_pulse_stream}
use Rattle.pulse_records.specs.declared.Trailer.{Trailer}

-- the trailer at their end
unfoldable pub trailer_for : Bytes → Trailer
trailer_for s = record { distance = distance s; count = record { 0 = count s }; total = record { 0 = total s } }

unfoldable pub parsed_as : Bytes → Option Trailer
parsed_as s = cond (is_pulse_stream s) (Some (trailer_for s)) None
