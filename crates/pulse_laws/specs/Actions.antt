-- Lists of additions and other events, as lists of demand 3.
use Rattle.std.specs.Prelude.{ℕ, Bool, true, false, not, cond, ◌&&◌, List, [], ◌∷◌, ◌++◌, eqb, ltb, length}
use Rattle.format.specs.Basics.Bytes.{Bytes}
use Rattle.format.specs.Layout.PathOrder.{same_path}
use Rattle.format.specs.Rules.Version.{version_of}
use Rattle.format.specs.Calls.Paths.{Path, names}
use Rattle.format.specs.Calls.Call.{Call, validate, find, read, overwrite, set_length, create, remove, list, read_at}
use Rattle.format.specs.Calls.Answer.{answer}
use Rattle.format.specs.Fresh.Answer.{format_answer}
use Rattle.format.specs.History.Event.{Event, call, format, repair, after}
use Rattle.pulse_laws.specs.Pulse.{Pulse}
use Rattle.pulse_laws.specs.Calls.{add_answer, counts_as}

pub data Action : Type 0 where
  add : (path : Path) → (pulse : Pulse) → (work : List ℕ) → Action
  other : Event → Action

-- ---- the events of demand 3 that they are, on the image that they find

unfoldable pub events_for : Bytes → Action → List Event
events_for img (add path p work) = counts_as img path p work
events_for img (other e) = e ∷ []

unfoldable pub after_action : Bytes → Action → Bytes
after_action img a = after img (events_for img a)

unfoldable pub events_for_all : Bytes → List Action → List Event
events_for_all img [] = []
events_for_all img (a ∷ more) = events_for img a ++ events_for_all (after_action img a) more

unfoldable pub after_actions : Bytes → List Action → Bytes
after_actions img actions = after img (events_for_all img actions)

-- ---- what may stand in a list

-- valve and ticks are of two and four bytes
unfoldable pub pulse_fits : Pulse → Bool
pulse_fits p = ltb p.valve 0x1_0000 && ltb p.ticks 0x1_0000_0000

unfoldable pub action_fits : Action → Bool
action_fits (add path p work) = pulse_fits p
action_fits (other e) = true

-- ---- what edits a stream beside additions

-- an edit of the stream itself. Removing a storage above it is refused, as that is not empty.
unfoldable pub edits_path : Path → Call → Bool
edits_path to (validate work) = false
edits_path to (find path work) = false
edits_path to (read path offset out work) = false
edits_path to (overwrite path offset bytes work) = same_path (names path) (names to)
edits_path to (set_length path new work) = same_path (names path) (names to)
edits_path to (create made path work) = same_path (names path) (names to)
edits_path to (remove path work) = same_path (names path) (names to)
edits_path to (list out work) = false
edits_path to (read_at entry position out work) = false

-- a refused edit edits nothing; a fresh image has none of the old streams; a repair keeps every stream
unfoldable pub edits : Bytes → Path → Event → Bool
edits img to (call c) = edits_path to c && eqb (answer (version_of img) img c) 0
edits img to (format plan) = eqb (format_answer (length img) plan) 0
edits img to (repair spare work) = false

unfoldable pub leaves : Bytes → Path → Action → Bool
leaves img to (add path p work) = true
leaves img to (other e) = not (edits img to e)

unfoldable pub nothing_else_edits : Bytes → Path → List Action → Bool
nothing_else_edits img to [] = true
nothing_else_edits img to (a ∷ more) = leaves img to a && nothing_else_edits (after_action img a) to more

-- ---- what they add to a stream: the pulses of the accepted additions, in order

-- the addition has the stream's path and is accepted
unfoldable pub adds_to : Bytes → (to path : Path) → Pulse → List ℕ → Bool
adds_to img to path p work = same_path (names path) (names to) && eqb (add_answer img path p work) 0

unfoldable pub pulses_of : Bytes → (to : Path) → Action → List Pulse
pulses_of img to (add path p work) = cond (adds_to img to path p work) (p ∷ []) []
pulses_of img to (other e) = []

unfoldable pub pulses_added : Bytes → (to : Path) → List Action → List Pulse
pulses_added img to [] = []
pulses_added img to (a ∷ more) = pulses_of img to a ++ pulses_added (after_action img a) to more
