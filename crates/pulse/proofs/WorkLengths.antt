-- Of a work buffer only its length matters to what a call answers and to the image that it leaves.
use Prim.Native.Nat.{ℕ, zero, suc}
use mathlib.Core.Path.{◌≡◌, refl, ap, ap₂, ◌∙◌}
use mathlib.Core.List.{List, []}
use lib.ListN.{length}
use Rattle.format.specs.Basics.Bytes.{Bytes}
use Rattle.format.specs.Rules.Version.{version_of}
use Rattle.format.specs.Calls.Paths.{Path}
use Rattle.format.specs.Calls.Call.{set_length, overwrite, work_of}
use Rattle.format.specs.Calls.Answer.{first_of, answer_in, answer}
use Rattle.format.specs.Calls.Reply.{on_zero}
use Rattle.format.specs.Calls.Buffers.{edited, image_after, image_after_by}
use Rattle.format.specs.History.Event.{image_step, after}
use Rattle.pulse_laws.specs.Pulse.{Pulse}
use Rattle.pulse_laws.specs.Added.{longer, trailer_place, tail}
use Rattle.pulse_laws.specs.Calls.{contents_at, reader_answer, summary_answer, record_answer, ticks_answer, grow_answer, add_answer, summary_reply, record_reply, add_reply, number_alone, add_events, counts_as, image_added}

module _ (w w' : List ℕ) (e : length w ≡ length w') where
  -- ---- the calls that an addition makes

  answer_long : (img : Bytes) (path : Path) (n : ℕ) → answer (version_of img) img (set_length path n w) ≡ answer (version_of img) img (set_length path n w')
  unfolding answer answer_in work_of
  answer_long img path n = rw e

  image_long : (img : Bytes) (path : Path) (n : ℕ) → image_after img (set_length path n w) ≡ image_after img (set_length path n w')
  unfolding image_after_by edited
  image_long img path n = rw (answer_long img path n)

  pub image_over : (img : Bytes) (path : Path) (at : ℕ) (bytes : Bytes) → image_after img (overwrite path at bytes w) ≡ image_after img (overwrite path at bytes w')
  unfolding image_after_by edited answer answer_in work_of
  image_over img path at bytes = rw e

  -- ---- the calls on pulse streams

  module _ (img : Bytes) (path : Path) where
    pub summary_long : summary_answer img path w ≡ summary_answer img path w'
    unfolding summary_answer reader_answer answer answer_in work_of
    summary_long = rw e

    pub summary_reply_long : summary_reply img path w ≡ summary_reply img path w'
    unfolding summary_reply
    summary_reply_long = rw summary_long

    pub record_long : (k : ℕ) → record_answer img path k w ≡ record_answer img path k w'
    unfolding record_answer
    record_long k = rw summary_long

    pub record_reply_long : (k : ℕ) → record_reply img path k w ≡ record_reply img path k w'
    unfolding record_reply
    record_reply_long k = rw (record_long k)

    grow_long : grow_answer img path w ≡ grow_answer img path w'
    unfolding grow_answer
    grow_long = answer_long img path (longer (contents_at img path))

    module _ (p : Pulse) where
      pub add_long : add_answer img path p w ≡ add_answer img path p w'
      unfolding add_answer
      add_long = ap₂ (λ a b. first_of a (first_of (ticks_answer p) b)) summary_long grow_long

      pub reply_long : add_reply img path p w ≡ add_reply img path p w'
      unfolding add_reply
      reply_long = ap number_alone add_long

      events_long : after img (add_events img path p w) ≡ after img (add_events img path p w')
      unfolding add_events after image_step
      events_long =
          let s = contents_at img path in
          image_over (image_after img (set_length path (longer s) w)) path (trailer_place s) (tail s p)
          ∙ ap (λ i. image_after i (overwrite path (trailer_place s) (tail s p) w')) (image_long img path (longer s))

      pub added_long : image_added img path p w ≡ image_added img path p w'
      unfolding image_added counts_as on_zero
      added_long = ap (λ n. after img (on_zero n (add_events img path p w) [])) add_long ∙ go (add_answer img path p w')
        where
          go : (n : ℕ) → after img (on_zero n (add_events img path p w) []) ≡ after img (on_zero n (add_events img path p w') [])
          go zero = events_long
          go (suc n) = refl
