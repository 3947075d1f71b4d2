-- The image after each step of a repair that takes all four; and a repair seen from a history.
use Rattle.std.specs.Prelude.{ℕ, ◌≡◌, ◌↔◌, true, List}
use Rattle.format.specs.Basics.Bytes.{Bytes}
use Rattle.format.specs.Layout.Geometry.{Geometry}
use Rattle.format.specs.Layout.Volume.{volume}
use Rattle.format.specs.Rules.Version.{version_of}
use Rattle.format.specs.Rules.Verdict.{Accepted}
use Rattle.format.specs.Calls.RepairSteps.{tables_hold, directory_holds, entries_hold, streams_hold, rest_freed, blackened, unowned_freed, repaired}
use Rattle.format.specs.Calls.Listing.{listing}
use Rattle.format.specs.Calls.Repair.{repair_answer}
use Rattle.format.specs.History.State.{state_in, state_of}
use Rattle.format.specs.History.Accepts.{accepts_repair}

module _ (g : Geometry) (img : Bytes) where
  abbrev pub after1 : Bytes
  after1 = rest_freed (volume g img).sectors img

  abbrev pub after2 : Bytes
  after2 = blackened (volume g after1) after1

  abbrev pub after3 : Bytes
  after3 = rest_freed (volume g after2).minis after2

  abbrev pub after4 : Bytes
  after4 = unowned_freed (volume g after3) after3

  pub record Taken : Type 0 where
    pub tables : tables_hold g img ≡ true
    pub directory : directory_holds (volume g after1) ≡ true
    pub entries : entries_hold (volume g after2) ≡ true
    pub streams : streams_hold g after3 ≡ true
    pub outcome : repaired g img ≡ after4

-- the image after a repair that answers 0, by a version: what `Repaired` says by the images' own
pub record RepairedBy (g : Geometry) (img after : Bytes) : Type 0 where
  pub accepted : Accepted g after
  pub listing : listing (volume g after).directory ≡ listing (volume g img).directory
  pub state : state_in g after ≡ state_in g img
  pub sector_cells : (s : ℕ) → (volume g after).sectors.cell_place s ≡ (volume g img).sectors.cell_place s
  pub mini_cells : (m : ℕ) → (volume g after).minis.cell_place m ≡ (volume g img).minis.cell_place m
  pub entries : (i : ℕ) → (volume g after).entry_place i ≡ (volume g img).entry_place i

-- a repair answers 0 exactly if both buffers are long enough, by the state
abbrev pub AnswersByState : Bytes → Type 0
AnswersByState img =
    (spare : Bytes) (work : List ℕ) → (repair_answer (version_of img) img spare work ≡ 0) ↔ (accepts_repair (state_in (version_of img) img) spare work ≡ true)

-- for a list of events nothing happened
pub record Unmoved (img after : Bytes) : Type 0 where
  pub version : version_of after ≡ version_of img
  pub accepted : Accepted (version_of after) after
  pub state : state_of after ≡ state_of img
