-- What is claimed of a repair (W-213).
use Rattle.std.specs.Prelude.{ℕ, ◌≤◌, ◌≡◌, ◌↔◌, Bool, true, ◌&&◌, List, length}
use Rattle.format.specs.Basics.Lists.{pick_below}
use Rattle.format.specs.Basics.Bytes.{Bytes, AreBytes}
use Rattle.format.specs.Layout.Directory.{Directory}
use Rattle.format.specs.Layout.Volume.{volume}
use Rattle.format.specs.Rules.Length.{length_allowed, work_need}
use Rattle.format.specs.Rules.Version.{version_of}
use Rattle.format.specs.Rules.Trees.{red}
use Rattle.format.specs.Rules.Verdict.{verdict, Accepted}
use Rattle.format.specs.Calls.Listing.{listing}
use Rattle.format.specs.Calls.Reply.{counted}
use Rattle.format.specs.Calls.RepairSteps.{has_colour, blackened, repaired}
use Rattle.format.specs.Calls.Repair.{repair_reply, image_repaired}
use Rattle.format.specs.History.State.{state_of}
use Rattle.format.specs.Claims.Listing.{directory_in}

-- ---- after a repair that answers 0

-- the image is accepted, and all else is as its directory already named it
pub record Repaired (img after : Bytes) : Type 0 where
  pub version : version_of after ≡ version_of img
  pub accepted : Accepted (version_of after) after
  pub listing : listing (directory_in after) ≡ listing (directory_in img)
  -- the streams' paths and bytes, the storages, the number of blank entries, N, K and the fixed number
  pub state : state_of after ≡ state_of img
  -- cells and entries stand where they stood, so the number given compares the same places in both
  pub sector_cells : (s : ℕ) → (volume (version_of after) after).sectors.cell_place s ≡ (volume (version_of img) img).sectors.cell_place s
  pub mini_cells : (m : ℕ) → (volume (version_of after) after).minis.cell_place m ≡ (volume (version_of img) img).minis.cell_place m
  pub entries : (i : ℕ) → (volume (version_of after) after).entry_place i ≡ (volume (version_of img) img).entry_place i

-- ---- an accepted image

-- both buffers are long enough
abbrev pub RepairBuffers : Bytes → (spare : Bytes) → (work : List ℕ) → Type 0
RepairBuffers img spare work = (work_need (length img) ≤ length work) × (length img ≤ length spare)

-- an entry of type 1, 2 or 5 that is red
unfoldable pub is_red : Directory → ℕ → Bool
is_red d i = has_colour (d.entry i) && red d i

unfoldable pub red_entries : Directory → ℕ
red_entries d = length (pick_below d.count (is_red d))

-- ---- the claim

pub record RepairHolds (img spare : Bytes) (work : List ℕ) : Type 0 where
  -- where the spare buffer is long enough, the answer is the validator's on the outcome, which has the image's version
  pub judged : length img ≤ length spare
      → (repair_reply img spare work).number ≡ verdict (version_of img) (repaired (version_of img) img) (length work)
  pub version : length_allowed (version_of img) (length img) ≡ true → version_of (repaired (version_of img) img) ≡ version_of img
  pub outcome : (repair_reply img spare work).number ≡ 0 → Repaired img (image_repaired img spare work)
  -- an accepted image is repaired exactly if both buffers are long enough. It gets black colours, and no other byte changes; the number
  -- is that of its red entries.
  pub answers : Accepted (version_of img) img → ((repair_reply img spare work).number ≡ 0) ↔ RepairBuffers img spare work
  pub exact : AreBytes img → Accepted (version_of img) img → RepairBuffers img spare work
      → image_repaired img spare work ≡ blackened (volume (version_of img) img) img
  pub counts : Accepted (version_of img) img → RepairBuffers img spare work → repair_reply img spare work ≡ counted (red_entries (directory_in img))
  -- what was repaired is repaired again with nothing to count
  pub again : (repair_reply img spare work).number ≡ 0 → (spare₂ : Bytes) (work₂ : List ℕ) → RepairBuffers img spare₂ work₂
      → repair_reply (image_repaired img spare work) spare₂ work₂ ≡ counted 0

-- of every image and every pair of buffers
abbrev pub RepairClaim : Type 0
RepairClaim = (img spare : Bytes) (work : List ℕ) → RepairHolds img spare work
