-- What a list of demand 3 holds: calls on the image, fresh images written in its place, and repairs.
use Rattle.std.specs.Prelude.{ℕ, List, [], ◌∷◌}
use Rattle.format.specs.Basics.Bytes.{Bytes}
use Rattle.format.specs.Calls.Call.{Call}
use Rattle.format.specs.Calls.Reply.{on_zero}
use Rattle.format.specs.Calls.Buffers.{image_after}
use Rattle.format.specs.Calls.Repair.{image_repaired}
use Rattle.format.specs.Fresh.Plan.{Plan, planned}
use Rattle.format.specs.Fresh.Image.{fresh_image}
use Rattle.format.specs.Fresh.Answer.{format_answer, formatted}
use Rattle.format.specs.History.State.{State, state_of}
use Rattle.format.specs.History.Step.{state_step}

pub data Event : Type 0 where
  call : Call → Event
  format : Plan → Event
  repair : (spare : Bytes) → (work : List ℕ) → Event

-- ---- the image, which goes from one event to the next, and nobody else writes it; each call reads its version anew

unfoldable pub image_step : Bytes → Event → Bytes
image_step img (call c) = image_after img c
image_step img (format plan) = formatted img plan
image_step img (repair spare work) = image_repaired img spare work

unfoldable pub after : Bytes → List Event → Bytes
after img [] = img
after img (e ∷ es) = after (image_step img e) es

-- ---- the state

-- a fresh image is a new first image; a repair changes nothing of which the state tells
unfoldable pub event_step : State → Event → State
event_step s (call c) = state_step s c
event_step s (format plan) =
    let first = state_of (fresh_image (planned plan) plan) in
    on_zero (format_answer s.setting.bytes plan) first s
event_step s (repair spare work) = s

unfoldable pub state_after : State → List Event → State
state_after s [] = s
state_after s (e ∷ es) = state_after (event_step s e) es
