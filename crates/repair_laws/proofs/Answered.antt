-- A repair of an accepted image answers 0 exactly if both buffers are long enough, and leaves every cell as it reads.
use Prim.Native.Nat.{ℕ}
use mathlib.Core.Path.{◌≡◌, ◌∙◌}
use mathlib.Core.Logic.{◌↔◌}
use mathlib.Core.Bool.{◌&&◌}
use mathlib.Core.List.{List}
use native.Mathlib.Omega.{arith}
use lib.Dec.{leb}
use lib.ListN.{length}
use borrow.Author.Tests.{le-leb, leb-true}
use Rattle.format.specs.Basics.Bytes.{Bytes}
use Rattle.format.specs.Layout.Geometry.{Geometry}
use Rattle.format.specs.Layout.Volume.{Volume, volume}
use Rattle.format.specs.Rules.Length.{length_allowed, work_need}
use Rattle.format.specs.Rules.Verdict.{check, groups, Accepted}
use Rattle.format.specs.Calls.RepairSteps.{fourth_step, third_step, second_step, repaired}
use Rattle.format.specs.Calls.Repair.{repair_answer}
use Rattle.format.specs.Claims.Repair.{RepairBuffers}
use Rattle.theory.proofs.Tests.{both}
use Rattle.frame.specs.Kept.{Sized}
use Rattle.frame.specs.Redraw.{IsRedrawn}
use Rattle.frame.proofs.Accepted.{check_zero, accepted_kept}
use Rattle.repair_laws.specs.Steps.{after1, after2, after3, after4}
use Rattle.repair_laws.proofs.Taken.{passes_tables, passes_directory, passes_entries, passes_streams}
use Rattle.repair_laws.proofs.Blackened.{accepted_groups, accepted_C, redrawn_C}
use Rattle.repair_laws.proofs.AcceptedSteps.{first_redrawn, first_accepted, third_redrawn, third_accepted, fourth_redrawn, fourth_accepted}

module _ (g : Geometry) (z : Sized g) (A : Bytes) (acc : Accepted g A) where
  abbrev B : Bytes
  B = after1 g A

  abbrev C : Bytes
  C = after2 g A

  abbrev D : Bytes
  D = after3 g A

  abbrev E : Bytes
  E = after4 g A

  acc_B : Accepted g B
  acc_B = first_accepted g z A acc

  acc_c : Accepted g C
  acc_c = accepted_C g z B acc_B

  acc_D : Accepted g D
  acc_D = third_accepted g z C acc_c

  pub takes_all : repaired g A ≡ E
  unfolding repaired second_step third_step fourth_step
  takes_all =
      rw (
        passes_tables g A (accepted_groups g A acc),
        passes_directory g B (accepted_groups g B acc_B),
        passes_entries g C (accepted_groups g C acc_c),
        passes_streams g D (accepted_groups g D acc_D),
      )

  -- what no step changes
  pub through : {T : Type 0} (f : Volume → T) → ((a b : Bytes) → IsRedrawn g a b → f (volume g b) ≡ f (volume g a)) → f (volume g E) ≡ f (volume g A)
  through f h = h D E (fourth_redrawn g z D acc_D) ∙ h C D (third_redrawn g z C acc_c) ∙ h B C (redrawn_C g z B acc_B) ∙ h A B (first_redrawn g z A acc)

  -- ---- the answer

  pub answers_0 : (spare : Bytes) (work : List ℕ) → RepairBuffers A spare work → repair_answer g A spare work ≡ 0
  unfolding repair_answer check
  answers_0 spare work h =
      rw (
        (accepted_kept g A acc).allowed,
        le-leb (work_need (length A)) (length work) h.0,
        le-leb (length A) (length spare) h.1,
        takes_all,
      )
      (accepted_groups g E (fourth_accepted g z D acc_D))

  long_enough : (spare : Bytes) (work : List ℕ) → repair_answer g A spare work ≡ 0 → RepairBuffers A spare work
  unfolding repair_answer
  long_enough spare work h =
      let w = leb (work_need (length A)) (length work) in
      let s = leb (length A) (length spare) in
      let a = check_zero (length_allowed g (length A)) 1 (check (w && s) 2 (groups g (repaired g A))) (omega arith) h in
      let b = both w s (check_zero (w && s) 2 (groups g (repaired g A)) (omega arith) a.1).0 in
      (leb-true (work_need (length A)) (length work) b.0, leb-true (length A) (length spare) b.1)

  pub repair_iff : (spare : Bytes) (work : List ℕ) → (repair_answer g A spare work ≡ 0) ↔ RepairBuffers A spare work
  repair_iff spare work = (long_enough spare work, answers_0 spare work)
