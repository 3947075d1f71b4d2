-- What is claimed of a fresh image, and of a call that writes one.
use Rattle.std.specs.Prelude.{◌≡◌, ℕ, ◌+◌, ◌-◌, ◌*◌, ◌≤◌, List, [], length}
use Rattle.format.specs.Basics.Bytes.{Bytes}
use Rattle.format.specs.Layout.Geometry.{Geometry, cells_in, entries_in}
use Rattle.format.specs.Layout.Header.{fat_count}
use Rattle.format.specs.Layout.Space.{allocated}
use Rattle.format.specs.Layout.Volume.{volume, directory}
use Rattle.format.specs.Rules.Length.{work_need}
use Rattle.format.specs.Rules.Version.{version_of}
use Rattle.format.specs.Rules.Verdict.{Accepted}
use Rattle.format.specs.Calls.Listing.{listing, first_line}
use Rattle.format.specs.Fresh.Plan.{Plan, planned, plan_bytes, fat_part, difat_part, mini_stream_part}
use Rattle.format.specs.Fresh.Image.{fresh_image}
use Rattle.format.specs.Fresh.Answer.{format_answer, formatted}
use Rattle.format.specs.History.Setting.{Setting}
use Rattle.format.specs.History.State.{State, state_of}
use Rattle.format.specs.History.Event.{Event, after, state_after}
use Rattle.format.specs.History.Claim.{Holds}

-- the system's sectors: FAT, DIFAT, directory, mini FAT and mini stream
unfoldable pub fresh_fixed : Geometry → Plan → ℕ
fresh_fixed g p = fat_part g p + difat_part g p + p.directory + p.mini_fat + mini_stream_part g p

-- what it fixes, by the plan's numbers alone
unfoldable pub fresh_setting : Geometry → Plan → Setting
fresh_setting g p =
    record {
      geometry = g;
      bytes = plan_bytes g p;
      sectors = p.sectors;
      minis = p.minis;
      fixed = fresh_fixed g p;
      work = work_need (plan_bytes g p);
    }

-- no object, and one entry that is not blank
unfoldable pub fresh_state : Geometry → Plan → State
fresh_state g p =
    record {
      setting = fresh_setting g p;
      rows = [];
      storages = [];
      blank_count = entries_in g * p.directory - 1;
    }

pub record FreshHolds (bytes : ℕ) (p : Plan) (img : Bytes) : Type 0 where
  -- it fills the buffer, and has the version asked for
  pub fills : length img ≡ bytes
  pub version : version_of img ≡ planned p
  pub accepted : Accepted (planned p) img
  -- it lists `objects 0`
  pub lists : listing (directory (planned p) img) ≡ first_line 0
  pub state : state_of img ≡ fresh_state (planned p) p
  -- nothing is allocated but the system's sectors
  pub sectors : allocated (volume (planned p) img).sectors ≡ fresh_fixed (planned p) p
  pub minis : allocated (volume (planned p) img).minis ≡ 0
  -- F is the fewest: every number of FAT sectors that covers N is as many or more; that F covers it says group 11
  pub fewest : (f : ℕ) → p.sectors ≤ cells_in (planned p) * f → fat_count img ≤ f

-- wherever a buffer of so many bytes is answered with 0
abbrev pub FreshClaim : Type 0
FreshClaim = (bytes : ℕ) (p : Plan) → format_answer bytes p ≡ 0 → FreshHolds bytes p (fresh_image (planned p) p)

-- whatever the buffer held before, demand 3 begins with what is written into it
abbrev pub FreshBegins : Type 0
FreshBegins =
    (buffer : Bytes) (p : Plan) (events : List Event) → format_answer (length buffer) p ≡ 0
    → Holds (after (formatted buffer p) events) (state_after (fresh_state (planned p) p) events)
