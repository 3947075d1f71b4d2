-- The reply and the image by the answer, and the answer by the reply. Of the two buffers only the lengths matter.
use Prim.Native.Nat.{ℕ, zero, suc, ◌≤◌}
use mathlib.Core.Path.{◌≡◌, refl, sym, ap, ◌∙◌}
use mathlib.Core.Logic.{◌≢◌}
use mathlib.Core.List.{List}
use lib.ListN.{length}
use Rattle.std.proofs.Common.{Result, Ok, Err, true, false}
use Rattle.std.specs.Result.{is_ok}
use Rattle.theory.proofs.Tests.{clash}
use Rattle.repair.specs.Replies.{repair_reply_of}
use Rattle.format.specs.Basics.Bytes.{Bytes}
use Rattle.format.specs.Layout.Geometry.{Geometry}
use Rattle.format.specs.Layout.Volume.{volume}
use Rattle.format.specs.Rules.Version.{version_of}
use Rattle.format.specs.Rules.Verdict.{verdict}
use Rattle.format.specs.Calls.Reply.{Reply, plain, counted, on_zero}
use Rattle.format.specs.Calls.RepairSteps.{repaired}
use Rattle.format.specs.Calls.Repair.{repair_answer, differences, repair_reply, repair_reply_by, image_repaired, image_repaired_by}
use Rattle.repair_laws.proofs.Lengths.{judged}
use Rattle.kinds.specs.declared.Refusal.{Refusal}
use Rattle.kinds.specs.Numbers.{refusal_number}
use Rattle.kinds.proofs.Refusals.{refusal_some}

on_some : {A : Type 0} (n : ℕ) (x y : A) → n ≢ 0 → on_zero n x y ≡ y
unfolding on_zero
on_some zero x y h = absurd (h refl)
on_some (suc n) x y h = refl

on_none : {A : Type 0} (n : ℕ) (x y : A) → n ≡ 0 → on_zero n x y ≡ x
unfolding on_zero
on_none n x y h = rw h

-- the number of a reply that is made so
number_is : (a d : ℕ) → (on_zero a (counted d) (plain a)).number ≡ a
unfolding on_zero counted plain
number_is zero d = refl
number_is (suc a) d = refl

module _ (img spare : Bytes) (work : List ℕ) where
  abbrev g : Geometry
  g = version_of img

  pub reply_number : (repair_reply img spare work).number ≡ repair_answer g img spare work
  unfolding repair_reply_by
  reply_number = number_is (repair_answer g img spare work) (differences (volume g (repaired g img)) img (repaired g img))

  -- ---- an answer other than 0

  pub refused_reply : (a : Refusal) → refusal_number a ≡ repair_answer g img spare work → plain (refusal_number a) ≡ repair_reply img spare work
  unfolding repair_reply_by
  refused_reply a e = rw (← e) (sym (on_some (refusal_number a) _ (plain (refusal_number a)) (refusal_some a)))

  pub refused_image : (a : Refusal) → refusal_number a ≡ repair_answer g img spare work → img ≡ image_repaired img spare work
  unfolding image_repaired_by
  refused_image a e = rw (← e) (sym (on_some (refusal_number a) (repaired g img) img (refusal_some a)))

  image_kept : (a : Refusal) → plain (refusal_number a) ≡ repair_reply img spare work → img ≡ image_repaired img spare work
  unfolding plain
  image_kept a e = refused_image a (ap (λ (r : Reply). r.number) e ∙ reply_number)

  -- ---- the answer 0

  pub done_reply : {n : ℕ} {h : Geometry} {after : Bytes} → repair_answer g img spare work ≡ 0 → n ≡ differences (volume h after) img after → h ≡ g → after ≡ repaired g img
      → counted n ≡ repair_reply img spare work
  unfolding repair_reply_by
  done_reply z e p q =
      rw (e, p, q)
      (sym (on_none (repair_answer g img spare work) (counted (differences (volume g (repaired g img)) img (repaired g img))) (plain (repair_answer g img spare work)) z))

  image_done : (n : ℕ) {after : Bytes} → counted n ≡ repair_reply img spare work → after ≡ repaired g img → after ≡ image_repaired img spare work
  unfolding image_repaired_by counted
  image_done n e q = q ∙ sym (on_none (repair_answer g img spare work) (repaired g img) img (sym reply_number ∙ sym (ap (λ (r : Reply). r.number) e)))

  -- ---- by the code's answer

  pub image_written : (r : Result ℕ Refusal) {after : Bytes} → repair_reply_of r ≡ repair_reply img spare work → is_ok r ≡ true → after ≡ repaired g img → after ≡ image_repaired img spare work
  image_written (Ok n) e k q = image_done n e q
  image_written (Err a) e k q = absurd (clash k refl)

  pub image_left : (r : Result ℕ Refusal) → repair_reply_of r ≡ repair_reply img spare work → is_ok r ≡ false → img ≡ image_repaired img spare work
  image_left (Ok n) e k = absurd (clash refl k)
  image_left (Err a) e k = image_kept a e

-- ---- other buffers that are long enough would do

module _ (img spare spare₂ : Bytes) (work work₂ : List ℕ) (h : length img ≤ length spare) (k : length img ≤ length spare₂) (n : length work₂ ≡ length work) where
  same_answer : repair_answer (version_of img) img spare work ≡ repair_answer (version_of img) img spare₂ work₂
  same_answer =
      judged (version_of img) img spare work h ∙ ap (verdict (version_of img) (repaired (version_of img) img)) (sym n) ∙ sym (judged (version_of img) img spare₂ work₂ k)

  pub same_reply : {r : Reply} → r ≡ repair_reply img spare work → r ≡ repair_reply img spare₂ work₂
  unfolding repair_reply_by
  same_reply e = rw (e, same_answer)

  pub same_image : {b : Bytes} → b ≡ image_repaired img spare work → b ≡ image_repaired img spare₂ work₂
  unfolding image_repaired_by
  same_image e = rw (e, same_answer)
