-- What an opening says of its answer, its numbers and the work buffer.
use Prim.Native.Nat.{ℕ}
use mathlib.Core.Path.{◌≡◌, refl, sym, ◌∙◌, ap}
use mathlib.Core.Logic.{◌≢◌}
use mathlib.Core.List.{List, []}
use lib.ListN.{length}
use Rattle.std.proofs.Common.{Ok, Err}
use Rattle.format.specs.Basics.Bytes.{Bytes}
use Rattle.format.specs.Rules.Version.{version_of}
use Rattle.format.specs.Rules.Length.{work_need}
use Rattle.format.specs.Calls.Call.{validate}
use Rattle.format.specs.Calls.Reply.{plain, reply}
use Rattle.format.specs.Calls.Buffers.{work_after}
use Rattle.kinds.specs.Numbers.{refusal_number}
use Rattle.kinds.specs.declared.Refusal.{Refusal}
use Rattle.kinds.proofs.Refusals.{refusal_some}
use Rattle.tables.specs.Work.{Wrote}
use Rattle.volume.specs.declared.Volume.{Volume}
use Rattle.opened.specs.OpenVolume.{OpenVolume}
use Rattle.opened.specs.Opening.{OpeningRight}
use Rattle.opened.specs.Sequence.{lent}
use Rattle.opened.proofs.Validated.{reply_is}
use Rattle.opened.proofs.Sequence.{same_refused}
use Rattle.cfb_c.specs.Packed.{unpacked}

-- a volume's numbers p before, and q after
abbrev OpeningSays : Bytes → List ℕ → List ℕ → List ℕ → List ℕ → ℕ → Type 0
OpeningSays img w w₁ p q r =
    (plain r ≡ reply img (validate w))
    × ((r ≡ 0 → OpenVolume (unpacked q) img w₁)
    × ((r ≡ 0 → Wrote w w₁ 0 (work_need (length img))) × ((r ≢ 0 → w₁ ≡ work_after img (validate w)) × (r ≢ 0 → q ≡ p))))

module _ (img : Bytes) (w w₁ p : List ℕ) where
  pub refused_opening : (r : ℕ) (a : Refusal) → OpeningRight img w w₁ (Err a) → r ≡ refusal_number a → OpeningSays img w w₁ p p r
  unfolding lent
  refused_opening r a o e =
      let x = same_refused img w w₁ a o (validate []) in
      let no : r ≢ 0 = λ z. refusal_some a (sym e ∙ z) in
      (ap plain e ∙ x.number, ((λ z. absurd (no z)), ((λ z. absurd (no z)), ((λ _. x.work), (λ _. refl)))))

  pub ready_opening : (q : List ℕ) (v : Volume) → OpeningRight img w w₁ (Ok v) → unpacked q ≡ v → OpeningSays img w w₁ p q 0
  ready_opening q v o e =
      (sym (reply_is (version_of img) img w ∙ ap plain o.0), ((λ _. rw e o.1.0), ((λ _. o.1.1), ((λ n. absurd (n refl)), (λ n. absurd (n refl))))))
