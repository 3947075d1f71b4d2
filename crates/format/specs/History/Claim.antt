-- Demand 3: one claim about a whole list of calls, fresh images and repairs.
use Rattle.std.specs.Prelude.{ℕ, ◌+◌, ◌≡◌, ◌↔◌, Bool, true, false, List}
use Rattle.format.specs.Basics.Bytes.{Bytes}
use Rattle.format.specs.Layout.Need.{mini_need, sector_need}
use Rattle.format.specs.Layout.Space.{allocated}
use Rattle.format.specs.Layout.Volume.{volume}
use Rattle.format.specs.Rules.Version.{version_of}
use Rattle.format.specs.Rules.Verdict.{Accepted}
use Rattle.format.specs.Calls.Call.{Call, validate, find, read, overwrite, set_length, create, remove, list, read_at}
use Rattle.format.specs.Calls.Answer.{answer}
use Rattle.format.specs.Calls.Repair.{repair_answer}
use Rattle.format.specs.History.Rows.{total}
use Rattle.format.specs.History.State.{State, state_of}
use Rattle.format.specs.History.Accepts.{accepts, accepts_repair, answers26}
use Rattle.format.specs.History.Event.{Event, after, state_after}

unfoldable pub is_edit : Call → Bool
is_edit (validate work) = false
is_edit (find path work) = false
is_edit (read path offset out work) = false
is_edit (overwrite path offset bytes work) = true
is_edit (set_length path new work) = true
is_edit (create made path work) = true
is_edit (remove path work) = true
is_edit (list out work) = false
is_edit (read_at entry position out work) = false

-- what holds of an image, and of the state that the history gives
pub record Holds (now : Bytes) (s : State) : Type 0 where
  pub accepted : Accepted s.setting.geometry now
  -- the image's streams have the rows' paths, lengths and bytes; its version, storages, blank entries and numbers are the state's
  pub state : state_of now ≡ s
  -- the allocated units are the system's and what the rows need
  pub sectors : allocated (volume s.setting.geometry now).sectors ≡ s.setting.fixed + total (sector_need s.setting.geometry) s.rows
  pub minis : allocated (volume s.setting.geometry now).minis ≡ total mini_need s.rows
  -- whatever call comes next: an edit answers 0, and a call answers 26, exactly if the state says so
  pub answers_zero : (c : Call) → is_edit c ≡ true → (answer s.setting.geometry now c ≡ 0) ↔ (accepts s c ≡ true)
  pub answers_full : (c : Call) → (answer s.setting.geometry now c ≡ 26) ↔ (answers26 s c ≡ true)
  -- a repair answers 0 exactly if the state says that both buffers are long enough
  pub answers_repair : (spare : Bytes) (work : List ℕ) → (repair_answer s.setting.geometry now spare work ≡ 0) ↔ (accepts_repair s spare work ≡ true)

-- DEMAND 3. It speaks of every list, and so of every beginning of a list: it holds after each event.
-- The state comes from the first image and the list alone.
abbrev pub Demand3 : Type 0
Demand3 =
    (img : Bytes) (events : List Event) → Accepted (version_of img) img
    → Holds (after img events) (state_after (state_of img) events)
