-- The three calls on a pulse stream: its summary, the record of a number, and an addition. What they answer, give and leave.
-- Each goes by the image's own version.
use Rattle.std.specs.Prelude.{ℕ, cond, ◌||◌, List, [], ◌∷◌, eqb, ltb, length}
use Rattle.format.specs.Basics.Bytes.{Bytes}
use Rattle.format.specs.Layout.Stream.{contents}
use Rattle.format.specs.Rules.Length.{work_need}
use Rattle.format.specs.Rules.Version.{version_of, own_volume}
use Rattle.format.specs.Calls.Paths.{Path}
use Rattle.format.specs.Calls.Call.{read, overwrite, set_length}
use Rattle.format.specs.Calls.Answer.{first_of, target, answer}
use Rattle.format.specs.Calls.Reply.{on_zero}
use Rattle.format.specs.Calls.Buffers.{image_after, work_cleared}
use Rattle.format.specs.History.Event.{Event, call, after}
use Rattle.pulse_laws.specs.Pulse.{Pulse, is_pulse_stream, count, total, pulse_at}
use Rattle.pulse_laws.specs.Added.{longer, trailer_place, tail}

-- the bytes of the stream that a path leads to; where it leads to none, no answer depends on them
unfoldable pub contents_at : Bytes → Path → Bytes
contents_at img path = contents (own_volume img) img (target (own_volume img) path)

-- ---- answers: in the order of the questions, and the first that is not 0 is given

-- what a reader of the stream is refused for: 1, 2, 10 to 18, 20 to 23
unfoldable pub reader_answer : Bytes → Path → List ℕ → ℕ
reader_answer img path work = answer (version_of img) img (read path 0 [] work)

unfoldable pub pulses_answer : Bytes → ℕ
pulses_answer s = cond (is_pulse_stream s) 0 40

unfoldable pub summary_answer : Bytes → Path → List ℕ → ℕ
summary_answer img path work = first_of (reader_answer img path work) (pulses_answer (contents_at img path))

-- 42 where there is no record of that number
unfoldable pub record_answer : Bytes → Path → (number : ℕ) → List ℕ → ℕ
record_answer img path k work =
    first_of (summary_answer img path work) (cond (ltb k (count (contents_at img path))) 0 42)

-- 41 where there are no ticks to add
unfoldable pub ticks_answer : Pulse → ℕ
ticks_answer p = cond (eqb p.ticks 0) 41 0

-- what a change to 8 bytes more is refused for: as a reader, and then 26
unfoldable pub grow_answer : Bytes → Path → List ℕ → ℕ
grow_answer img path work = answer (version_of img) img (set_length path (longer (contents_at img path)) work)

-- the change of length comes last: what a reader may read it can refuse by 26 alone
unfoldable pub add_answer : Bytes → Path → Pulse → List ℕ → ℕ
add_answer img path p work = first_of (summary_answer img path work) (first_of (ticks_answer p) (grow_answer img path work))

-- ---- replies: a value that a call does not give, and every value of a refusal, is 0

pub record PulseReply : Type 0 where
  pub number : ℕ
  pub valve : ℕ
  pub ticks : ℕ
  pub count : ℕ
  pub total : ℕ

-- a number alone: of a refusal, and of an addition
unfoldable pub number_alone : ℕ → PulseReply
number_alone n = record { number = n; valve = 0; ticks = 0; count = 0; total = 0 }

unfoldable pub summary_given : (count total : ℕ) → PulseReply
summary_given c t = record { number = 0; valve = 0; ticks = 0; count = c; total = t }

unfoldable pub pulse_given : Pulse → PulseReply
pulse_given p = record { number = 0; valve = p.valve; ticks = p.ticks; count = 0; total = 0 }

unfoldable pub summary_reply : Bytes → Path → List ℕ → PulseReply
summary_reply img path work =
    let s = contents_at img path in
    on_zero (summary_answer img path work) (summary_given (count s) (total s)) (number_alone (summary_answer img path work))

unfoldable pub record_reply : Bytes → Path → (number : ℕ) → List ℕ → PulseReply
record_reply img path k work =
    let s = contents_at img path in
    on_zero (record_answer img path k work) (pulse_given (pulse_at s k)) (number_alone (record_answer img path k work))

unfoldable pub add_reply : Bytes → Path → Pulse → List ℕ → PulseReply
add_reply img path p work = number_alone (add_answer img path p work)

-- ---- what an addition leaves

-- the image with the stream 8 bytes longer
unfoldable pub grown : Bytes → Path → List ℕ → Bytes
grown img path work = image_after img (set_length path (longer (contents_at img path)) work)

-- a change of length and an overwrite. Of the work buffer only its length matters, so both are written with the same.
unfoldable pub add_events : Bytes → Path → Pulse → List ℕ → List Event
add_events img path p work =
    let s = contents_at img path in
    call (set_length path (longer s) work) ∷ call (overwrite path (trailer_place s) (tail s p) work) ∷ []

-- what an addition counts as in demand 3's lists: these two, and a refused one as nothing
unfoldable pub counts_as : Bytes → Path → Pulse → List ℕ → List Event
counts_as img path p work = on_zero (add_answer img path p work) (add_events img path p work) []

unfoldable pub image_added : Bytes → Path → Pulse → List ℕ → Bytes
image_added img path p work = after img (counts_as img path p work)

-- ---- the work buffer, by the answer: 1 and 2 leave it, any other leaves W zeros and the rest

unfoldable pub work_after_pulse : Bytes → (answer : ℕ) → List ℕ → List ℕ
work_after_pulse img n work = cond (eqb n 1 || eqb n 2) work (work_cleared (work_need (length img)) work)
