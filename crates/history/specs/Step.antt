-- What one event of a list leaves, and the claim about the whole list.
use Rattle.std.specs.Prelude.{ℕ, ◌+◌, ◌≤◌, ◌≡◌, List, map, length}
use Rattle.format.specs.Basics.Bytes.{Bytes}
use Rattle.format.specs.Basics.Lists.{fit}
use Rattle.format.specs.Layout.Geometry.{Geometry}
use Rattle.format.specs.Layout.Need.{round_up}
use Rattle.format.specs.Layout.Space.{Space, free_units}
use Rattle.format.specs.Layout.Volume.{volume}
use Rattle.format.specs.Rules.Version.{version_of}
use Rattle.format.specs.Rules.Verdict.{Accepted}
use Rattle.format.specs.Calls.Paths.{Path}
use Rattle.format.specs.Calls.Find.{resolve_stream}
use Rattle.format.specs.Calls.Call.{Call}
use Rattle.format.specs.Calls.Buffers.{image_after_by}
use Rattle.format.specs.History.Rows.{Row, rows_of}
use Rattle.format.specs.History.Setting.{setting_of}
use Rattle.format.specs.History.State.{State, state_in, state_of}
use Rattle.format.specs.History.Step.{change, state_step}
use Rattle.format.specs.History.Event.{Event, image_step, after, event_step, state_after}
use Rattle.format.specs.History.Claim.{Holds}
use Rattle.frame.specs.Edits.{Preserved}
use Rattle.history.specs.Alike.{Alike}

-- from img to an accepted image img' of the same setting, whose rows are rows'. The system's sectors are where they were, and every path leads to
-- the stream that it led to.
pub record Step (g : Geometry) (img img' : Bytes) (rows' : List Row) : Type 0 where
  pub accepted : Accepted g img'
  pub kept : Preserved g img img'
  pub setting : setting_of g img' ≡ setting_of g img
  pub rows : rows_of g img' ≡ rows'
  pub alike : Alike (volume g img).directory (volume g img').directory
  pub found : (p : Path) → resolve_stream (volume g img').directory p ≡ resolve_stream (volume g img).directory p

-- from img to an accepted image img' in which the system's sectors are where they were, and every path leads where it led
pub record Cut (g : Geometry) (img img' : Bytes) : Type 0 where
  pub accepted : Accepted g img'
  pub kept : Preserved g img img'
  pub alike : Alike (volume g img).directory (volume g img').directory

-- from img to an accepted image img' of that state
pub record Next (g : Geometry) (img img' : Bytes) (s : State) : Type 0 where
  pub accepted : Accepted g img'
  pub kept : Preserved g img img'
  pub state : state_in g img' ≡ s

-- a call leaves the image and the state that the definitions say
abbrev pub CallStep : Geometry → Bytes → Call → Type 0
CallStep g img c = Next g img (image_after_by g img c) (state_step (state_in g img) c)

-- an event leaves an accepted image of the state that the definitions say
pub record EventStep (img : Bytes) (e : Event) : Type 0 where
  pub accepted : Accepted (version_of (image_step img e)) (image_step img e)
  pub state : state_of (image_step img e) ≡ event_step (state_of img) e

-- what an accepted change of length makes of a stream's bytes, and the rows after it
abbrev pub resized_bytes : ℕ → Bytes → Bytes
resized_bytes new old = fit new old

abbrev pub length_rows : Path → ℕ → List Row → List Row
length_rows p new rows = map (change p (resized_bytes new)) rows

-- there are units enough: the stream's own and the free ones
abbrev pub Enough : Space → List ℕ → ℕ → Type 0
Enough sp us new = round_up new sp.unit ≤ length us + length (free_units sp)

-- what holds after the whole list: demand 3 of one image
abbrev pub After : Bytes → List Event → Type 0
After img events = Holds (after img events) (state_after (state_of img) events)
