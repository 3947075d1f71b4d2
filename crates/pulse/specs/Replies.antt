-- The reply that an answer of the code stands for: the paper's number, and its values.
use Rattle.std.specs.Prelude.{ℕ, Result, Ok, Err}
use Rattle.kinds.specs.Numbers.{refusal_number}
use Rattle.pulse_laws.specs.Calls.{PulseReply, number_alone, summary_given, pulse_given}
use Rattle.pulse_laws.specs.Pulse.{Pulse}
use Rattle.pulse_records.specs.Records.{pulse_of}
use Rattle.pulse_records.specs.declared.Valve.{Valve}
use Rattle.pulse_records.specs.declared.Ticks.{Ticks}
use Rattle.pulse.specs.declared.answers.PulseRefusal.{PulseRefusal}
use Rattle.pulse.specs.declared.answers.PulseRefusal.TheVariants.{File, NotPulses, NoTicks, NoRecord}
use Rattle.pulse.specs.declared.answers.Totals.{Totals}
use Rattle.pulse_records.specs.declared.Pulse.{Pulse as PulseRead}

-- the pulse that is to be added
abbrev pub pulse_for : Valve → Ticks → Pulse
pulse_for valve ticks = record { valve = valve.0; ticks = ticks.0 }

abbrev pub pulse_number : PulseRefusal → ℕ
pulse_number (File a) = refusal_number a
pulse_number NotPulses = 40
pulse_number NoTicks = 41
pulse_number NoRecord = 42

abbrev pub summary_reply_of : Result Totals PulseRefusal → PulseReply
summary_reply_of (Ok t) = summary_given t.count.0 t.total.0
summary_reply_of (Err a) = number_alone (pulse_number a)

abbrev pub record_reply_of : Result PulseRead PulseRefusal → PulseReply
record_reply_of (Ok p) = pulse_given (pulse_of p)
record_reply_of (Err a) = number_alone (pulse_number a)

abbrev pub added_reply_of : Result Unit PulseRefusal → PulseReply
added_reply_of (Ok _) = number_alone 0
added_reply_of (Err a) = number_alone (pulse_number a)
