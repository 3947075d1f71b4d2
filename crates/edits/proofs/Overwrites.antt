-- Overwrites: the steps, the answer and the image.
use Prim.Native.Nat.{ℕ, ◌+◌, ◌-◌, ◌*◌, ◌≤◌, ◌<◌}
use mathlib.Core.Path.{◌≡◌, sym, ◌∙◌, ap, ap₂, subst}
use mathlib.Core.Bool.{true, false, cond}
use mathlib.Core.List.{List, []}
use native.Mathlib.Omega.{arith}
use native.Mathlib.Decide.{dec_lt}
use borrow.Author.Tests.{lt-ltb, le-ltb}
use lib.Dec.{ltb}
use lib.ListN.{length, take}
use lib.Seq.{length-take-le}
use Rattle.format.specs.Basics.Lists.{count}
use Rattle.format.specs.Basics.Bytes.{Bytes}
use Rattle.format.specs.Layout.Geometry.{Geometry}
use Rattle.format.specs.Layout.Need.{cutoff, round_up}
use Rattle.format.specs.Layout.Chain.{chain, units}
use Rattle.format.specs.Layout.Entry.{start}
use Rattle.format.specs.Layout.Volume.{Volume}
use Rattle.format.specs.Layout.Stream.{space_for, stream_size, stream_units}
use Rattle.format.specs.Calls.Paths.{Path}
use Rattle.format.specs.Calls.Call.{Call, overwrite}
use Rattle.format.specs.Calls.Overwrite.{put_chain, overwritten}
use Rattle.format.specs.Calls.Answer.{first_of, beyond, target, target_answer, answer_in}
use Rattle.format.specs.Calls.Buffers.{edited}
use Rattle.theory.proofs.Chains.{chain_linked, linked_below}
use Rattle.theory.proofs.RoundUp.{round_enough}
use Rattle.frame.specs.Good.{space_of as side_space}
use Rattle.kinds.specs.Numbers.{refusal_number}
use Rattle.kinds.specs.declared.Refusal.{Refusal}
use Rattle.kinds.specs.declared.Refusal.TheVariants.{Beyond}
use Rattle.kinds.proofs.Refusals.{first_refused}
use Rattle.volume.specs.Opened.{Readied}
use Rattle.volume.specs.declared.Volume.{Volume as Opened}
use Rattle.spaces.specs.Spaces.{kind_for, volume_in, space_at, unit_bytes, listed_space}
use Rattle.spaces.proofs.Listed.{unit_same, units_stand}
use Rattle.writes.specs.Writable.{Writable}
use Rattle.queries.specs.Inside.{Open, image_in}
use Rattle.queries.specs.declared.find.Object.{Object}
use Rattle.queries.specs.Streams.{StreamAt}
use Rattle.edits.proofs.Streams.{kind_side, same_uncrossed, stream_chain_lem}
use Rattle.edits.proofs.Writables.{writable, put_listed}
use Rattle.edits.proofs.Targets.{image_refused, image_done}

-- a sum that is not above the size, without the sum
pub beyond_sum : (size offset n : ℕ) → offset ≤ size → ltb (size - offset) n ≡ ltb size (offset + n)
beyond_sum size offset n h =
    elim (dec_lt (size - offset) n) [
      | yes k ↦ lt-ltb (size - offset) n k ∙ sym (lt-ltb size (offset + n) (omega arith))
      | no k ↦ le-ltb (size - offset) n (omega arith) ∙ sym (le-ltb size (offset + n) (omega arith))
    ]

-- ---- the answer

module _ (g : Geometry) (v : Volume) (img : Bytes) (path : Path) (offset : ℕ) (bytes : Bytes) where
  abbrev call : Call
  call = overwrite path offset bytes []

  answer_first : (a : Refusal) → target_answer v path ≡ refusal_number a → answer_in g v call ≡ refusal_number a
  unfolding answer_in
  answer_first a e = rw e (first_refused a _)

  pub over_refused : (a : Refusal) → target_answer v path ≡ refusal_number a → (refusal_number a ≡ answer_in g v call) × (img ≡ image_in g v img call)
  over_refused a e = let h = answer_first a e in (sym h, image_refused g v img call a h)

  module _ (x size : ℕ) (e : (target_answer v path ≡ 0) × (target v path ≡ x)) (s : size ≡ stream_size v x) where
    abbrev later : ℕ
    later = cond (ltb size (offset + length bytes)) 24 0

    answer_later : answer_in g v call ≡ later
    unfolding answer_in first_of beyond
    answer_later = rw (e.0, e.1, s)

    pub over_beyond : ltb size (offset + length bytes) ≡ true → (24 ≡ answer_in g v call) × (img ≡ image_in g v img call)
    over_beyond h =
        let a : answer_in g v call ≡ 24 = answer_later ∙ ap (λ b. cond b 24 0) h in
        (sym a, image_refused g v img call Beyond a)

    pub over_done : {new : Bytes} → ltb size (offset + length bytes) ≡ false → new ≡ overwritten v img x offset bytes → (0 ≡ answer_in g v call) × (new ≡ image_in g v img call)
    unfolding edited
    over_done h n =
        let a : answer_in g v call ≡ 0 = answer_later ∙ ap (λ b. cond b 24 0) h in
        (sym a, n ∙ ap (λ y. overwritten v img y offset bytes) (sym e.1) ∙ image_done g v img call a)

-- ---- the steps

module _ {v : Opened} {img : Bytes} {w : List ℕ} (o : Open v img w) {e : Object} (s : StreamAt (volume_in v img) e) (n : ℕ)
    (many : n ≡ round_up e.size (space_at v img (kind_for e.size)).unit) where
  -- the units of the stream
  own : let sp = space_at v img (kind_for e.size) in
      (chain sp.cell sp.limit n (start ((volume_in v img).directory.entry e.id.0)) ≡ true)
      × (units sp.cell n (start ((volume_in v img).directory.entry e.id.0)) ≡ stream_units (volume_in v img) e.id.0)
  own = rw many (subst (λ m. let sp = space_at v img (kind_for m) in
      (chain sp.cell sp.limit (round_up e.size sp.unit) (start ((volume_in v img).directory.entry e.id.0)) ≡ true)
      × (units sp.cell (round_up e.size sp.unit) (start ((volume_in v img).directory.entry e.id.0)) ≡ stream_units (volume_in v img) e.id.0))
      (omega arith) (stream_chain_lem o s e.size (same_uncrossed e.size)))

  pub over_chain : let sp = space_at v img (kind_for e.size) in chain sp.cell sp.limit n (start ((volume_in v img).directory.entry e.id.0)) ≡ true
  over_chain = own.0

  pub over_units : let sp = space_at v img (kind_for e.size) in units sp.cell n (start ((volume_in v img).directory.entry e.id.0)) ≡ stream_units (volume_in v img) e.id.0
  over_units = own.1

  module _ {w₁ : List ℕ} (r : Readied v img w₁) (l : take n w₁ ≡ units (space_at v img (kind_for e.size)).cell n (start ((volume_in v img).directory.entry e.id.0))) (k : n ≤ length w₁) where
    below : (u : ℕ) → 0 < count u (take n w₁) → u < (space_at v img (kind_for e.size)).limit
    below u q =
        let sp = space_at v img (kind_for e.size) in
        linked_below sp.cell sp.limit (units sp.cell n (start ((volume_in v img).directory.entry e.id.0))) (chain_linked sp.cell sp.limit n (start ((volume_in v img).directory.entry e.id.0)) own.0).0 u (subst (λ us. 0 < count u us) l q)

    pub over_writable : Writable v w₁ (kind_for e.size) (length img) n
    over_writable = writable r (kind_for e.size) n k below

    pub over_room : (offset m : ℕ) → offset + m ≤ e.size → offset + m ≤ n * unit_bytes v (kind_for e.size)
    over_room offset m h =
        let sp = space_at v img (kind_for e.size) in
        rw (unit_same r (kind_for e.size), many) (omega (arith, h, round_enough e.size sp.unit (units_stand r (kind_for e.size)).some))

    pub over_written : (offset : ℕ) (bytes : Bytes) → offset + length bytes ≤ e.size
        → put_chain (listed_space v w₁ (kind_for e.size)) (take n w₁) img offset bytes ≡ overwritten (volume_in v img) img e.id.0 offset bytes
    unfolding overwritten space_for
    over_written offset bytes h =
        let sp = space_at v img (kind_for e.size) in
        let long : length (take n w₁) ≡ n = length-take-le n w₁ k in
        put_listed r (kind_for e.size) (take n w₁) below offset bytes (rw (long, ← unit_same r (kind_for e.size)) (over_room offset (length bytes) h))
        ∙ ap₂ (λ sp us. put_chain sp us img offset bytes) space_is (l ∙ own.1)
      where
        space_is : space_at v img (kind_for e.size) ≡ space_for (volume_in v img) (stream_size (volume_in v img) e.id.0)
        space_is = kind_side (volume_in v img) e.size ∙ ap (λ z. side_space (volume_in v img) (ltb z cutoff)) s.sized
