-- What a repair needs once neither 1 nor 2 is the answer.
use Rattle.std.specs.Prelude.{ℕ, ◌≤◌, ◌≡◌, true, List, length}
use Rattle.format.specs.Basics.Bytes.{Bytes}
use Rattle.format.specs.Layout.Geometry.{Geometry}
use Rattle.format.specs.Rules.Length.{length_allowed, work_need}
use Rattle.format.specs.Rules.Version.{version_of}
use Rattle.format.specs.Calls.RepairSteps.{repaired}

-- the image has an allowed length, the work buffer is long enough, and the copy's buffer is as long as the image
pub record RepairRoom (g : Geometry) (img : Bytes) (work : List ℕ) (after : Bytes) : Type 0 where
  pub own : g ≡ version_of img
  pub allowed : length_allowed g (length img) ≡ true
  pub room : work_need (length img) ≤ length work
  pub long : length after ≡ length img

-- and then the steps are done: their outcome stands in a buffer of its own
pub record Tried (img after : Bytes) (work : List ℕ) : Type 0 where
  pub allowed : length_allowed (version_of img) (length img) ≡ true
  pub room : work_need (length img) ≤ length work
  pub outcome : after ≡ repaired (version_of img) img
