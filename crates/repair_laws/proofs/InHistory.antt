-- A repair as an event of a history: an accepted image stays accepted, in its version, with the state that it had.
use Prim.Native.Nat.{ℕ, zero, suc}
use mathlib.Core.Path.{◌≡◌, refl, sym, ap, ◌∙◌, subst}
use mathlib.Core.List.{List}
use lib.Dec.{leb}
use lib.ListN.{length}
use borrow.Author.Tests.{le-leb, leb-true}
use Rattle.format.specs.Basics.Bytes.{Bytes}
use Rattle.format.specs.Layout.Geometry.{Geometry}
use Rattle.format.specs.Rules.Length.{work_need}
use Rattle.format.specs.Rules.Version.{version_of}
use Rattle.format.specs.Rules.Verdict.{Accepted}
use Rattle.format.specs.Calls.Reply.{on_zero}
use Rattle.format.specs.Calls.RepairSteps.{repaired}
use Rattle.format.specs.Calls.Repair.{repair_answer, image_repaired_by, image_repaired}
use Rattle.format.specs.History.Setting.{setting_of}
use Rattle.format.specs.History.State.{state_in, state_of}
use Rattle.format.specs.History.Accepts.{accepts_repair}
use Rattle.theory.proofs.Tests.{both, and_true_of}
use Rattle.frame.specs.Kept.{Sized}
use Rattle.frame.proofs.Accepted.{accepted_kept}
use Rattle.frame.proofs.Final.{own_sized}
use Rattle.repair_laws.specs.Steps.{RepairedBy, AnswersByState, Unmoved}
use Rattle.repair_laws.proofs.Heads.{repaired_version}
use Rattle.repair_laws.proofs.Outcome.{repair_outcome}
use Rattle.repair_laws.proofs.Answered.{repair_iff}

-- whatever the answer is
repair_kept : (g : Geometry) → Sized g → (img spare : Bytes) (work : List ℕ) → Accepted g img → let after = image_repaired_by g img spare work in
    (version_of after ≡ version_of img) × Accepted g after × (state_in g after ≡ state_in g img)
unfolding image_repaired_by on_zero
repair_kept g z img spare work acc = go (repair_answer g img spare work) refl (repair_outcome g z img spare work)
  where
    go : (n : ℕ) → repair_answer g img spare work ≡ n
        → (repair_answer g img spare work ≡ 0 → RepairedBy g img (on_zero (repair_answer g img spare work) (repaired g img) img))
        → let after = on_zero n (repaired g img) img in (version_of after ≡ version_of img) × Accepted g after × (state_in g after ≡ state_in g img)
    go zero e k =
        let p = subst (λ n. RepairedBy g img (on_zero n (repaired g img) img)) e (k e) in
        (repaired_version g z img (accepted_kept g img acc).allowed, p.accepted, p.state)
    go (suc n) e k = (refl, acc, refl)

pub repair_step : (img spare : Bytes) (work : List ℕ) → Accepted (version_of img) img → Unmoved img (image_repaired img spare work)
unfolding state_of
repair_step img spare work acc =
    let after = image_repaired img spare work in
    let k = repair_kept (version_of img) (own_sized img) img spare work acc in
    record {
      version = k.0;
      accepted = subst (λ g. Accepted g after) (sym k.0) k.1;
      state = ap (λ g. state_in g after) k.0 ∙ k.2;
    }

pub repair_answered : (img : Bytes) → Accepted (version_of img) img → AnswersByState img
unfolding accepts_repair state_in setting_of
repair_answered img acc spare work =
    let k = repair_iff (version_of img) (own_sized img) img acc spare work in
    let w = leb (work_need (length img)) (length work) in
    let s = leb (length img) (length spare) in (
      λ h. let b = k.0 h in and_true_of w s (le-leb (work_need (length img)) (length work) b.0) (le-leb (length img) (length spare) b.1),
      λ h. let b = both w s h in k.1 (leb-true (work_need (length img)) (length work) b.0, leb-true (length img) (length spare) b.1),
    )
