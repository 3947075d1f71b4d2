-- The outcome of a repair, validated: what is answered, and what the work buffer is then.
use Prim.Native.Nat.{ℕ, ◌≤◌}
use mathlib.Core.Path.{◌≡◌, sym, ap, ◌∙◌, subst}
use mathlib.Core.Bool.{Bool, true, false, cond, ◌||◌}
use mathlib.Core.List.{List}
use native.Mathlib.Omega.{arith}
use Rattle.std.proofs.Common.{Ok, Err}
use lib.Dec.{eqb}
use lib.ListN.{length}
use Rattle.format.specs.Basics.Bytes.{Bytes}
use Rattle.format.specs.Layout.Geometry.{Geometry}
use Rattle.format.specs.Layout.Volume.{volume}
use Rattle.format.specs.Rules.Length.{work_need}
use Rattle.format.specs.Rules.Version.{version_of}
use Rattle.format.specs.Rules.Verdict.{verdict}
use Rattle.format.specs.Calls.Reply.{plain, counted}
use Rattle.format.specs.Calls.Buffers.{work_cleared}
use Rattle.format.specs.Calls.Repair.{repair_answer, differences, repair_reply}
use Rattle.frame.proofs.Final.{own_sized}
use Rattle.repair_laws.proofs.Lengths.{repaired_length, judged}
use Rattle.repair_laws.proofs.Heads.{repaired_version}
use Rattle.kinds.specs.declared.Refusal.{Refusal}
use Rattle.kinds.specs.Sizes.{geometry_of}
use Rattle.kinds.specs.Numbers.{refusal_number}
use Rattle.tables.specs.Work.{Wrote}
use Rattle.tables.proofs.WorkLaws.{wrote_none, wrote_cleared}
use Rattle.volume.specs.Opened.{OpenedRight, work_left}
use Rattle.volume.specs.declared.Volume.{Volume}
use Rattle.repair.specs.Room.{Tried}
use Rattle.repair.proofs.Replies.{refused_reply, done_reply}

-- the part of the work buffer that is ours, after a refusal
left_wrote : (a : ℕ) (img : Bytes) (w w' : List ℕ) → work_need (length img) ≤ length w → w' ≡ work_left a img w → Wrote w w' 0 (work_need (length img))
unfolding work_left
left_wrote a img w w' h e = go (eqb a 1 || eqb a 2) e
  where
    go : (b : Bool) → w' ≡ cond b w (work_cleared (work_need (length img)) w) → Wrote w w' 0 (work_need (length img))
    go true q = subst (λ x. Wrote w x 0 (work_need (length img))) (sym q) (wrote_none w 0 (work_need (length img)))
    go false q = wrote_cleared (work_need (length img)) w w' q h

module _ {img after : Bytes} {work : List ℕ} (k : Tried img after work) where
  abbrev g : Geometry
  g = version_of img

  version_is : version_of after ≡ g
  version_is = ap version_of k.outcome ∙ repaired_version g (own_sized img) img k.allowed

  pub after_long : length after ≡ length img
  after_long = ap length k.outcome ∙ repaired_length g img

  answer_is : repair_answer g img after work ≡ verdict (version_of after) after (length work)
  answer_is = judged g img after work (omega (arith, after_long)) ∙ rw (version_is, k.outcome)

  module _ {w : List ℕ} where
    pub refused_outcome : (a : Refusal) → OpenedRight (version_of after) after work w (Err a) → (plain (refusal_number a) ≡ repair_reply img after work) × Wrote work w 0 (work_need (length img))
    refused_outcome a o = (
      refused_reply img after work a (o.0 ∙ sym answer_is),
      rw after_long at (left_wrote (verdict (version_of after) after (length work)) after work w (rw after_long k.room) o.1),
    )

    pub ready_outcome : (v : Volume) {n : ℕ} → OpenedRight (version_of after) after work w (Ok v) → n ≡ differences (volume (geometry_of v.tables.geometry) after) img after
        → (counted n ≡ repair_reply img after work) × Wrote work w 0 (work_need (length img))
    ready_outcome v o e = (done_reply img after work (answer_is ∙ o.0) e (o.1.0 ∙ version_is) k.outcome, rw after_long at o.1.1.1.1)
