-- A repair of an accepted image makes its colours black, and changes no other byte.
use Prim.Native.Nat.{ℕ}
use mathlib.Core.Path.{◌≡◌, ap, ◌∙◌}
use mathlib.Core.List.{List}
use Rattle.format.specs.Basics.Bytes.{Bytes, AreBytes}
use Rattle.format.specs.Layout.Geometry.{Geometry}
use Rattle.format.specs.Layout.Volume.{Volume, volume}
use Rattle.format.specs.Rules.Owners.{owned_sectors, owned_minis}
use Rattle.format.specs.Rules.Verdict.{Accepted}
use Rattle.format.specs.Calls.Reply.{on_zero}
use Rattle.format.specs.Calls.RepairSteps.{rest_freed, blackened, unowned_freed_in, unowned_freed, repaired}
use Rattle.format.specs.Calls.Repair.{image_repaired_by}
use Rattle.format.specs.Claims.Repair.{RepairBuffers}
use Rattle.frame.specs.Kept.{Sized}
use Rattle.repair_laws.proofs.Lengths.{black_bytes}
use Rattle.repair_laws.proofs.FreeAgain.{sectors_read, minis_read, rest_again, unowned_again}
use Rattle.repair_laws.proofs.Blackened.{accepted_C}
use Rattle.repair_laws.proofs.AcceptedSteps.{sectors_rest, minis_rest, owners, sectors_room, minis_room}
use Rattle.repair_laws.proofs.Answered.{takes_all, answers_0}

-- ---- the steps that free cells find an accepted image as they leave it

module _ (g : Geometry) (z : Sized g) (img : Bytes) (bytes : AreBytes img) (acc : Accepted g img) where
  abbrev v : Volume
  v = volume g img

  first_again : rest_freed v.sectors img ≡ img
  first_again = rest_again v.sectors img bytes (sectors_read g img) (sectors_rest g z img acc)

  third_again : rest_freed v.minis img ≡ img
  third_again = rest_again v.minis img bytes (minis_read g img) (minis_rest g z img acc)

  fourth_again : unowned_freed v img ≡ img
  unfolding unowned_freed
  fourth_again =
      ap (unowned_freed_in v.minis (owned_minis v)) (unowned_again v.sectors (owned_sectors v) img bytes (sectors_read g img) (sectors_room g z img acc) (owners g z img acc).0)
      ∙ unowned_again v.minis (owned_minis v) img bytes (minis_read g img) (minis_room g z img acc) (owners g z img acc).1

-- ---- the whole

module _ (g : Geometry) (z : Sized g) (A : Bytes) (bytes : AreBytes A) (acc : Accepted g A) where
  abbrev C : Bytes
  C = blackened (volume g A) A

  bytes_C : AreBytes C
  bytes_C = black_bytes (volume g A) A bytes

  acc_C : Accepted g C
  acc_C = accepted_C g z A acc

  repaired_exact : repaired g A ≡ C
  repaired_exact = takes_all g z A acc ∙ rw (first_again g z A bytes acc, third_again g z C bytes_C acc_C) (fourth_again g z C bytes_C acc_C)

  pub exact : (spare : Bytes) (work : List ℕ) → RepairBuffers A spare work → image_repaired_by g A spare work ≡ C
  unfolding image_repaired_by on_zero
  exact spare work h = rw (answers_0 g z A acc spare work h) repaired_exact
