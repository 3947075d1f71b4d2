-- What the calls answer and give, question by question.
use Prim.Native.Nat.{ℕ, zero, suc, ◌≤◌}
use mathlib.Core.Path.{◌≡◌, refl, sym, ap, ◌∙◌}
use mathlib.Core.Logic.{◌≢◌}
use mathlib.Core.Bool.{Bool, true, false, cond}
use mathlib.Core.List.{List, []}
use native.Mathlib.Omega.{arith}
use lib.Dec.{ltb}
use borrow.Author.Tests.{eq-eqb, ne_eqb}
use Rattle.format.specs.Basics.Bytes.{Bytes}
use Rattle.format.specs.Calls.Paths.{Path}
use Rattle.format.specs.Calls.Call.{overwrite}
use Rattle.format.specs.Calls.Answer.{first_of}
use Rattle.format.specs.Calls.Reply.{on_zero}
use Rattle.format.specs.Calls.Buffers.{image_after, image_after_by}
use Rattle.format.specs.History.Event.{image_step, after}
use Rattle.kinds.specs.Numbers.{refusal_number}
use Rattle.kinds.specs.declared.Refusal.{Refusal}
use Rattle.kinds.proofs.Refusals.{refusal_some, else_refused}
use Rattle.pulse_laws.specs.Pulse.{Pulse, count, total, pulse_at}
use Rattle.pulse_laws.specs.Added.{trailer_place, tail}
use Rattle.pulse_laws.specs.Calls.{contents_at, summary_answer, record_answer, ticks_answer, grow_answer, add_answer, number_alone, summary_given, pulse_given, summary_reply, record_reply, add_reply, grown, add_events, counts_as, image_added}
use Rattle.pulse.specs.Replies.{pulse_number}
use Rattle.pulse.specs.declared.answers.PulseRefusal.{PulseRefusal}
use Rattle.pulse.specs.declared.answers.PulseRefusal.TheVariants.{File, NotPulses, NoTicks, NoRecord}

-- ---- a refusal's number is not 0

pulse_some : (a : PulseRefusal) → pulse_number a ≢ 0
pulse_some (File a) = refusal_some a
pulse_some NotPulses = λ z. omega arith
pulse_some NoTicks = λ z. omega arith
pulse_some NoRecord = λ z. omega arith

-- so it is the first number, and no value is given
first_some : (n m : ℕ) → n ≢ 0 → first_of n m ≡ n
unfolding first_of
first_some zero m h = absurd (h refl)
first_some (suc n) m h = refl

else_some : {A : Type 0} (n : ℕ) (x y : A) → n ≢ 0 → on_zero n x y ≡ y
unfolding on_zero
else_some zero x y h = absurd (h refl)
else_some (suc n) x y h = refl

-- ---- by the answer alone

module _ (img : Bytes) (path : Path) (w : List ℕ) where
  summary_else : (n : ℕ) → n ≢ 0 → summary_answer img path w ≡ n → number_alone n ≡ summary_reply img path w
  unfolding summary_reply
  summary_else n h e = sym (rw e (else_some n _ _ h))

  record_else : (k n : ℕ) → n ≢ 0 → record_answer img path k w ≡ n → number_alone n ≡ record_reply img path k w
  unfolding record_reply
  record_else k n h e = sym (rw e (else_some n _ _ h))

  add_number : (p : Pulse) (n : ℕ) → add_answer img path p w ≡ n → number_alone n ≡ add_reply img path p w
  unfolding add_reply
  add_number p n e = ap number_alone (sym e)

  -- a refused addition leaves the image
  add_else : (p : Pulse) (n : ℕ) → n ≢ 0 → add_answer img path p w ≡ n → img ≡ image_added img path p w
  unfolding image_added counts_as after
  add_else p n h e = sym (rw e (ap (after img) (else_some n (add_events img path p w) [] h)))

  -- ---- what is refused as a summary is

  module _ (n : ℕ) (h : n ≢ 0) (e : summary_answer img path w ≡ n) where
    pub record_number : (k : ℕ) → record_answer img path k w ≡ n
    unfolding record_answer
    record_number k = rw e (first_some n _ h)

    pub addition_number : (p : Pulse) → add_answer img path p w ≡ n
    unfolding add_answer
    addition_number p = rw e (first_some n _ h)

  module _ (a : PulseRefusal) (e : summary_answer img path w ≡ pulse_number a) where
    pub summary_refused : number_alone (pulse_number a) ≡ summary_reply img path w
    summary_refused = summary_else (pulse_number a) (pulse_some a) e

    pub record_refused : (k : ℕ) → number_alone (pulse_number a) ≡ record_reply img path k w
    record_refused k = record_else k (pulse_number a) (pulse_some a) (record_number (pulse_number a) (pulse_some a) e k)

    pub addition_refused : (p : Pulse) → (number_alone (pulse_number a) ≡ add_reply img path p w) × (img ≡ image_added img path p w)
    addition_refused p =
        let q = addition_number (pulse_number a) (pulse_some a) e p in
        (add_number p (pulse_number a) q, add_else p (pulse_number a) (pulse_some a) q)

  -- ---- a pulse stream

  module _ (z : summary_answer img path w ≡ 0) where
    abbrev s : Bytes
    s = contents_at img path

    pub summary_done : summary_given (count s) (total s) ≡ summary_reply img path w
    unfolding summary_reply on_zero
    summary_done = rw z

    record_is : (k : ℕ) (t : Bool) → ltb k (count s) ≡ t → record_answer img path k w ≡ cond t 0 42
    unfolding record_answer first_of
    record_is k t e = rw (z, e)

    pub record_none : (k : ℕ) → ltb k (count s) ≡ false → number_alone 42 ≡ record_reply img path k w
    record_none k e = record_else k 42 (λ q. omega arith) (record_is k false e)

    pub record_done : (k : ℕ) → ltb k (count s) ≡ true → pulse_given (pulse_at s k) ≡ record_reply img path k w
    unfolding record_reply on_zero
    record_done k e = rw (record_is k true e)

    add_is : (p : Pulse) → add_answer img path p w ≡ first_of (ticks_answer p) (grow_answer img path w)
    unfolding add_answer first_of
    add_is p = rw z

    pub no_ticks : (p : Pulse) → p.ticks ≡ 0 → (number_alone 41 ≡ add_reply img path p w) × (img ≡ image_added img path p w)
    unfolding ticks_answer
    no_ticks p e =
        let q : add_answer img path p w ≡ 41 = add_is p ∙ rw (eq-eqb p.ticks 0 e) (first_some 41 _ (λ i. omega arith)) in
        (add_number p 41 q, add_else p 41 (λ i. omega arith) q)

    module _ (p : Pulse) (some : 1 ≤ p.ticks) where
      grow_is : add_answer img path p w ≡ grow_answer img path w
      unfolding ticks_answer first_of
      grow_is = add_is p ∙ rw (ne_eqb p.ticks 0 (λ i. omega arith))

      -- no room: nothing has been written yet
      pub add_full : (a : Refusal) → grow_answer img path w ≡ refusal_number a
          → (number_alone (refusal_number a) ≡ add_reply img path p w) × (grown img path w ≡ image_added img path p w)
      unfolding grown image_after_by grow_answer
      add_full a e =
          let q = grow_is ∙ e in
          (add_number p (refusal_number a) q, rw e (else_refused a _ img) ∙ add_else p (refusal_number a) (refusal_some a) q)

      pub add_done : grow_answer img path w ≡ 0
          → (number_alone 0 ≡ add_reply img path p w) × (image_after (grown img path w) (overwrite path (trailer_place s) (tail s p) w) ≡ image_added img path p w)
      unfolding image_added counts_as add_events on_zero after image_step grown
      add_done e = (add_number p 0 (grow_is ∙ e), sym (rw (grow_is ∙ e)))
