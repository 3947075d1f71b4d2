-- The definitions of the steps, test by test.
use mathlib.Core.Path.{◌≡◌, sym, ap, ◌∙◌}
use mathlib.Core.Bool.{true, false}
use Rattle.format.specs.Basics.Bytes.{Bytes, AreBytes}
use Rattle.format.specs.Layout.Geometry.{Geometry}
use Rattle.format.specs.Layout.Volume.{volume}
use Rattle.format.specs.Rules.Cells.{rest_free}
use Rattle.format.specs.Calls.RepairSteps.{tables_hold, directory_holds, entries_hold, rest_freed, blackened, fourth_step, third_step, second_step, repaired}
use Rattle.repair_laws.proofs.FreeAgain.{minis_read, rest_again}
use Rattle.repair_owners.specs.Streams.{streams_freed}
use Rattle.repair_owners.proofs.Asking.{streams_decide}

module _ (g : Geometry) (img : Bytes) where
  pub third_taken : entries_hold (volume g img) ≡ true → third_step g img ≡ fourth_step g (rest_freed (volume g img).minis img)
  unfolding third_step
  third_taken h = rw h

  -- the third has nothing to write: groups 10 to 16 hold
  pub third_idle : AreBytes img → tables_hold g img ≡ true → directory_holds (volume g img) ≡ true → entries_hold (volume g img) ≡ true → rest_free (volume g img).minis ≡ true
      → streams_freed (volume g img) img ≡ third_step g img
  third_idle b t d h f =
      streams_decide g img (rw (t, d, h)) f ∙ sym (third_taken h ∙ ap (fourth_step g) (rest_again (volume g img).minis img b (minis_read g img) f))

  pub third_left : entries_hold (volume g img) ≡ false → third_step g img ≡ img
  unfolding third_step
  third_left h = rw h

  pub second_taken : directory_holds (volume g img) ≡ true → second_step g img ≡ third_step g (blackened (volume g img) img)
  unfolding second_step
  second_taken h = rw h

  pub second_left : directory_holds (volume g img) ≡ false → second_step g img ≡ img
  unfolding second_step
  second_left h = rw h

  pub first_taken : tables_hold g img ≡ true → repaired g img ≡ second_step g (rest_freed (volume g img).sectors img)
  unfolding repaired
  first_taken h = rw h

  pub first_left : tables_hold g img ≡ false → repaired g img ≡ img
  unfolding repaired
  first_left h = rw h
