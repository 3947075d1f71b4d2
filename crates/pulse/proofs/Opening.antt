-- A call is an opening, the call on the opened volume, and a closing.
use Prim.Native.Nat.{ℕ}
use mathlib.Core.Path.{◌≡◌, refl, sym, ap, ◌∙◌}
use mathlib.Core.Logic.{inl, inr, ⊎_elim}
use mathlib.Core.Bool.{cond}
use mathlib.Core.List.{List, []}
use native.Mathlib.Omega.{arith}
use lib.Dec.{eqb, ltb}
use lib.ListN.{length}
use Rattle.format.specs.Basics.Bytes.{Bytes}
use Rattle.format.specs.Rules.Length.{work_need}
use Rattle.format.specs.Rules.Version.{version_of, own_volume}
use Rattle.format.specs.Calls.Paths.{Path}
use Rattle.format.specs.Calls.Call.{Call, read, set_length, work_of}
use Rattle.format.specs.Calls.Answer.{answer}
use Rattle.format.specs.Calls.Buffers.{work_cleared}
use Rattle.kinds.specs.Numbers.{refusal_number}
use Rattle.kinds.specs.declared.Refusal.{Refusal}
use Rattle.kinds.proofs.Refusals.{first_refused}
use Rattle.tables.specs.Work.{Wrote}
use Rattle.tables.proofs.WorkLaws.{wrote_two}
use Rattle.volume.specs.Opened.{work_left}
use Rattle.volume.specs.declared.Volume.{Volume}
use Rattle.std.specs.Prelude.{Ok, Err}
use Rattle.volume.proofs.Opening.{left_cleared}
use Rattle.opened.specs.OpenVolume.{OpenVolume}
use Rattle.opened.specs.Opening.{OpeningRight}
use Rattle.opened.proofs.Inside.{Late, late_first, late_either, late, answer_in_lem}
use Rattle.opened.proofs.Calls.{opened_zero}
use Rattle.pulse_laws.specs.Pulse.{Pulse, count, is_pulse_stream}
use Rattle.pulse_laws.specs.Added.{longer}
use Rattle.pulse_laws.specs.Calls.{contents_at, reader_answer, pulses_answer, summary_answer, record_answer, ticks_answer, grow_answer, add_answer, work_after_pulse}

-- the work buffer after an answer, as validation leaves it
left_is : (img : Bytes) (n : ℕ) (w : List ℕ) → work_after_pulse img n w ≡ work_left n img w
unfolding work_after_pulse work_left
left_is img n w = refl

-- ---- what validation refuses is refused

module _ (img : Bytes) (w w₁ : List ℕ) (a : Refusal) (o : OpeningRight img w w₁ (Err a)) where
  pub summary_number : (path : Path) → summary_answer img path w ≡ refusal_number a
  unfolding summary_answer reader_answer answer work_of
  summary_number path = rw (sym o.0, first_refused a) (first_refused a _)

  pub work_refused : (n : ℕ) → n ≡ refusal_number a → w₁ ≡ work_after_pulse img n w
  work_refused n e = o.1 ∙ ap (λ m. work_left m img w) (sym o.0 ∙ sym e) ∙ sym (left_is img n w)

-- ---- no answer after it is 1 or 2

module _ {v : Volume} {img : Bytes} {w : List ℕ} (s : OpenVolume v img w) (path : Path) where
  late_call : (c : Call) → work_of c ≡ w → Late (answer (version_of img) img c)
  late_call c e =
      rw (answer_in_lem (version_of img) img c (opened_zero s (length (work_of c)) (omega (arith, ap length e, s.room)))) (late (version_of img) (own_volume img) c)

  pub late_summary : Late (summary_answer img path w)
  unfolding summary_answer reader_answer pulses_answer work_of
  late_summary =
      late_first (answer (version_of img) img (read path 0 [] w)) _ (late_call (read path 0 [] w) refl) (late_either (is_pulse_stream (contents_at img path)) 0 40 (inl refl) (inr (omega arith)))

  pub late_record : (k : ℕ) → Late (record_answer img path k w)
  unfolding record_answer
  late_record k = late_first (summary_answer img path w) _ late_summary (late_either (ltb k (count (contents_at img path))) 0 42 (inl refl) (inr (omega arith)))

  pub late_add : (p : Pulse) → Late (add_answer img path p w)
  unfolding add_answer ticks_answer grow_answer work_of
  late_add p =
      late_first (summary_answer img path w) _ late_summary
      (late_first (cond (eqb p.ticks 0) 41 0) _ (late_either (eqb p.ticks 0) 41 0 (inr (omega arith)) (inl refl))
      (late_call (set_length path (longer (contents_at img path)) w) refl))

-- so closing leaves the work buffer as the answer says
module _ {v : Volume} {img : Bytes} {w w₁ : List ℕ} (o : OpeningRight img w w₁ (Ok v)) where
  pub opened_long : length w₁ ≡ length w
  opened_long = o.1.1.long

  pub work_closed : {w₂ w₃ : List ℕ} (n : ℕ) → Late n → Wrote w₁ w₂ 0 (work_need (length img)) → w₃ ≡ work_cleared (work_need (length img)) w₂ → w₃ ≡ work_after_pulse img n w
  work_closed n l r e =
      left_cleared n img w (⊎_elim (λ z. omega arith) (λ z. omega arith) l) (⊎_elim (λ z. omega arith) (λ z. omega arith) l) (wrote_two o.1.1 r) e
      ∙ sym (left_is img n w)
