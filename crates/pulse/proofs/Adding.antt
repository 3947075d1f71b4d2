-- An addition to a pulse stream that was found: a change of length and an overwrite.
use Prim.Native.Nat.{ℕ, ◌+◌, ◌-◌, ◌≤◌, ◌<◌}
use mathlib.Core.Path.{◌≡◌, sym, ap, ap₂, ◌∙◌}
use mathlib.Core.List.{List, ◌++◌}
use lib.ListN.{length}
use borrow.Author.Tests.{lt-ltb}
use Rattle.format.specs.Basics.Bytes.{Bytes, AreBytes}
use Rattle.format.specs.Rules.Version.{version_of}
use Rattle.format.specs.Calls.Paths.{Path}
use Rattle.format.specs.Calls.Call.{set_length, overwrite}
use Rattle.format.specs.Calls.Answer.{answer}
use Rattle.format.specs.Calls.Reply.{plain, reply}
use Rattle.format.specs.Calls.Buffers.{image_after}
use Rattle.kinds.specs.Numbers.{refusal_number}
use Rattle.kinds.specs.declared.Refusal.{Refusal}
use Rattle.volume.specs.declared.Volume.{Volume}
use Rattle.opened.proofs.Numbers.{reply_number}
use Rattle.pulse_laws.specs.Pulse.{Pulse, record_of, trailer_of, distance_for, count, total}
use Rattle.pulse_laws.specs.Added.{longer, trailer_place, tail}
use Rattle.pulse_laws.specs.Calls.{contents_at, grow_answer, number_alone, add_reply, grown, image_added}
use Rattle.pulse_laws.specs.Actions.{pulse_fits}
use Rattle.pulse_laws.proofs.Fades.{fields_hold}
use Rattle.pulse.specs.Found.{PulsesAt}
use Rattle.pulse.specs.declared.calls.PulseStream.{PulseStream}
use Rattle.pulse.proofs.PulsesAt.{at_count, at_total, at_size}
use Rattle.pulse.proofs.Outcomes.{add_full, add_done}
use Rattle.pulse.proofs.WorkLengths.{image_over}

module _ {v : Volume} {img : Bytes} {path : Path} {w : List ℕ} {s : PulseStream} (q : PulsesAt v img path w s) where
  abbrev b : Bytes
  b = contents_at img path

  -- ---- the change of length

  grow_number : (n : ℕ) → plain n ≡ reply img (set_length path (s.object.size + 8) w) → grow_answer img path w ≡ n
  unfolding grow_answer longer plain
  grow_number n e =
      ap (λ k. answer (version_of img) img (set_length path (k + 8) w)) (sym (at_size q))
      ∙ sym (reply_number (version_of img) img (set_length path (s.object.size + 8) w))
      ∙ sym (ap (λ r. r.number) e)

  grown_is : image_after img (set_length path (s.object.size + 8) w) ≡ grown img path w
  unfolding grown longer
  grown_is = ap (λ k. image_after img (set_length path (k + 8) w)) (at_size q)

  module _ (p : Pulse) (some : 1 ≤ p.ticks) where
    pub append_full : (a : Refusal) → plain (refusal_number a) ≡ reply img (set_length path (s.object.size + 8) w)
        → {img₁ : Bytes} → img₁ ≡ image_after img (set_length path (s.object.size + 8) w)
        → (number_alone (refusal_number a) ≡ add_reply img path p w) × (img₁ ≡ image_added img path p w)
    append_full a e i =
        let k = add_full img path w q.answer p some a (grow_number (refusal_number a) e) in
        (k.0, i ∙ grown_is ∙ k.1)

    -- ---- the numbers of the new trailer fit their fields

    pub append_fits : AreBytes img → p.valve < 0x1_0000 → p.ticks < 0x1_0000_0000
        → (distance_for (s.trailer.count.0 + 1) < 0x1_0000_0000)
        × (s.trailer.count.0 + 1 < 0x1_0000_0000)
        × (s.trailer.total.0 + p.ticks < 0x1_0000_0000_0000_0000)
    unfolding pulse_fits
    append_fits o h k =
        let f = fields_hold img path w p o q.answer (rw (lt-ltb p.valve 0x1_0000 h, lt-ltb p.ticks 0x1_0000_0000 k)) in
        rw (at_count q, at_total q) f

    -- ---- the overwrite

    tail_is : (c t : ℕ) → c ≡ s.trailer.count.0 + 1 → t ≡ s.trailer.total.0 + p.ticks → record_of p ++ trailer_of c t ≡ tail b p
    unfolding tail
    tail_is c t e k = ap₂ (λ x y. record_of p ++ trailer_of x y) (e ∙ ap (λ x. x + 1) (at_count q)) (k ∙ ap (λ x. x + p.ticks) (at_total q))

    pub append_done : plain 0 ≡ reply img (set_length path (s.object.size + 8) w)
        → (w₁ : List ℕ) → length w₁ ≡ length w → {img₁ img₂ bytes : Bytes} → img₁ ≡ image_after img (set_length path (s.object.size + 8) w)
        → (c t : ℕ) → c ≡ s.trailer.count.0 + 1 → t ≡ s.trailer.total.0 + p.ticks → bytes ≡ record_of p ++ trailer_of c t
        → img₂ ≡ image_after img₁ (overwrite path (s.object.size - 16) bytes w₁)
        → (number_alone 0 ≡ add_reply img path p w) × (img₂ ≡ image_added img path p w)
    unfolding trailer_place
    append_done z w₁ n i c t e k x j =
        let d = add_done img path w q.answer p some (grow_number 0 z) in (
          d.0,
          j
              ∙ ap₂ (λ a y. image_after a (overwrite path (s.object.size - 16) y w₁)) (i ∙ grown_is) (x ∙ tail_is c t e k)
              ∙ ap (λ m. image_after (grown img path w) (overwrite path (m - 16) (tail b p) w₁)) (at_size q)
              ∙ image_over w₁ w n (grown img path w) path (length b - 16) (tail b p)
              ∙ d.1,
        )
