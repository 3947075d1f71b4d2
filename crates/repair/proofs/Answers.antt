-- Answers 1 and 2 leave every buffer; any other leaves both of the lent ones clear.
use Prim.Native.Nat.{ℕ, ◌≤◌}
use mathlib.Core.Path.{◌≡◌, sym, ◌∙◌}
use mathlib.Core.Bool.{Bool, true, false, ◌&&◌}
use mathlib.Core.Logic.{◌≢◌, ◌⊎◌, inl, inr, ⊎_elim}
use mathlib.Core.List.{List, ◌++◌}
use native.Mathlib.Decide.{ℕ_discrete}
use native.Mathlib.Omega.{arith}
use lib.Dec.{leb}
use lib.ListN.{length, take, drop}
use lib.Seq.{length-take-le, length_front, drop_at}
use borrow.Author.Tests.{leb-true, ne_eqb}
use Rattle.format.specs.Basics.Bytes.{Bytes}
use Rattle.format.specs.Layout.Geometry.{Geometry}
use Rattle.format.specs.Rules.Length.{length_allowed, work_need}
use Rattle.format.specs.Rules.Version.{version_of}
use Rattle.format.specs.Rules.Verdict.{check, groups}
use Rattle.format.specs.Calls.Reply.{plain}
use Rattle.format.specs.Calls.Buffers.{work_cleared}
use Rattle.format.specs.Calls.RepairSteps.{repaired}
use Rattle.format.specs.Calls.Repair.{repair_answer, repair_reply, image_repaired, repair_short, work_repaired, work_repaired_by, spare_repaired, spare_repaired_by}
use Rattle.theory.proofs.Tests.{both}
use Rattle.kinds.specs.declared.Refusal.{Refusal}
use Rattle.kinds.specs.Numbers.{refusal_number}
use Rattle.volume.proofs.Opening.{groups_large}
use Rattle.repair.proofs.Replies.{refused_reply, refused_image}

module _ (img spare : Bytes) (work : List ℕ) where
  abbrev g : Geometry
  g = version_of img

  -- both buffers are long enough
  abbrev pub enough : Bool
  enough = leb (work_need (length img)) (length work) && leb (length img) (length spare)

  pub length_refused : length_allowed g (length img) ≡ false → repair_answer g img spare work ≡ 1
  unfolding repair_answer check
  length_refused h = rw h

  module _ (ok : length_allowed g (length img) ≡ true) where
    pub short_refused : enough ≡ false → repair_answer g img spare work ≡ 2
    unfolding repair_answer check
    short_refused h = rw (ok, h)

    pub groups_answer : enough ≡ true → repair_answer g img spare work ≡ groups g (repaired g img)
    unfolding repair_answer check
    groups_answer h = rw (ok, h)

  pub enough_is : enough ≡ true → (work_need (length img) ≤ length work) × (length img ≤ length spare)
  enough_is h =
      let b = both (leb (work_need (length img)) (length work)) (leb (length img) (length spare)) h in
      (leb-true (work_need (length img)) (length work) b.0, leb-true (length img) (length spare) b.1)

  -- ---- answers 1 and 2

  module _ (e : (repair_answer g img spare work ≡ 1) ⊎ (repair_answer g img spare work ≡ 2)) where
    short : repair_short g img spare work ≡ true
    unfolding repair_short
    short = elim e [ inl q ↦ rw q | inr q ↦ rw q ]

    work_kept : work ≡ work_repaired img spare work
    unfolding work_repaired_by
    work_kept = sym (rw short)

    spare_kept : spare ≡ spare_repaired img spare work
    unfolding spare_repaired_by
    spare_kept = sym (rw short)

  pub early : (a : Refusal) → repair_answer g img spare work ≡ refusal_number a → (refusal_number a ≡ 1) ⊎ (refusal_number a ≡ 2)
      → (plain (refusal_number a) ≡ repair_reply img spare work)
      × ((img ≡ image_repaired img spare work) × ((work ≡ work_repaired img spare work) × (spare ≡ spare_repaired img spare work)))
  early a e h =
      let k = ⊎_elim (λ q. inl (e ∙ q)) (λ q. inr (e ∙ q)) h in
      (refused_reply img spare work a (sym e), (refused_image img spare work a (sym e), (work_kept k, spare_kept k)))

  -- ---- any other

  module _ (ok : length_allowed g (length img) ≡ true) (h : enough ≡ true) where
    late : repair_short g img spare work ≡ false
    unfolding repair_short
    late =
        let a = groups_answer ok h in
        let x = groups g (repaired g img) in
        let l : (x ≢ 1) × (x ≢ 2) =
        elim (ℕ_discrete x 0) [
          | yes q ↦ (λ z. omega arith, λ z. omega arith)
          | no q ↦ let k = groups_large g (repaired g img) q in (λ z. omega arith, λ z. omega arith)
        ] in
        rw (a, ne_eqb x 1 l.0, ne_eqb x 2 l.1)

    pub work_clear : (w : List ℕ) → w ≡ work_cleared (work_need (length img)) work → w ≡ work_repaired img spare work
    unfolding work_repaired_by
    work_clear w e = e ∙ sym (rw late)

    pub spare_clear : (s : Bytes) → s ≡ work_cleared (length img) spare → s ≡ spare_repaired img spare work
    unfolding spare_repaired_by
    spare_clear s e = e ∙ sym (rw late)

-- ---- the first n bytes of the spare buffer, lent for the copy

module _ (n : ℕ) (spare copy : Bytes) (h : n ≤ length spare) (e : length copy ≡ length (take n spare)) where
  lent : length copy ≡ n
  lent = e ∙ length-take-le n spare h

  pub lent_long : length (copy ++ drop n spare) ≡ length spare
  lent_long = length_front spare copy n e

  -- and cleared afterwards
  pub lent_clear : (s : Bytes) → s ≡ work_cleared n (copy ++ drop n spare) → s ≡ work_cleared n spare
  unfolding work_cleared
  lent_clear s q = q ∙ rw (drop_at copy (drop n spare) n lent)
