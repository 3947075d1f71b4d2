-- Changes of length: the answer and the image, by what the find found.
use Prim.Native.Nat.{ℕ, ◌+◌}
use mathlib.Core.Path.{◌≡◌, refl, sym, ◌∙◌, ap, ap₂}
use mathlib.Core.Bool.{true, false}
use mathlib.Core.List.{[]}
use native.Mathlib.Omega.{arith}
use lib.ListN.{length}
use borrow.Author.Tests.{eq-eqb, le-ltb}
use Rattle.format.specs.Basics.Bytes.{Bytes}
use Rattle.format.specs.Layout.Geometry.{Geometry}
use Rattle.format.specs.Layout.Need.{mini_need, sector_need}
use Rattle.format.specs.Layout.Space.{free_units}
use Rattle.format.specs.Layout.Volume.{Volume, volume}
use Rattle.format.specs.Layout.Stream.{stream_size}
use Rattle.format.specs.Calls.Paths.{Path}
use Rattle.format.specs.Calls.Call.{Call, set_length}
use Rattle.format.specs.Calls.SetLength.{crosses, too_few, resized}
use Rattle.format.specs.Calls.Move.{moved, length_changed}
use Rattle.format.specs.Calls.Answer.{first_of, target, target_answer, length_answer, answer_in}
use Rattle.format.specs.Calls.Reply.{on_zero}
use Rattle.format.specs.Calls.Buffers.{edited}
use Rattle.kinds.specs.Numbers.{refusal_number}
use Rattle.kinds.specs.declared.Refusal.{Refusal}
use Rattle.kinds.proofs.Refusals.{first_refused}
use Rattle.queries.specs.Inside.{image_in}
use Rattle.edits.proofs.Streams.{same_uncrossed}
use Rattle.edits.proofs.Targets.{image_refused}

-- a volume goes by the geometry that it was read by
pub own_geometry : (g : Geometry) (img : Bytes) → (volume g img).geometry ≡ g
unfolding volume
own_geometry g img = refl

-- the same length needs no room
same_enough : (g : Geometry) (s m n : ℕ) → too_few g s m n n ≡ false
unfolding too_few
same_enough g s m n = rw (le-ltb (sector_need g n + s) (sector_need g n) (omega arith), le-ltb (mini_need n + m) (mini_need n) (omega arith))

same_answer : (g : Geometry) (v : Volume) (n : ℕ) → length_answer g v n n ≡ 0
unfolding length_answer
same_answer g v n = rw (same_enough g (length (free_units v.sectors)) (length (free_units v.minis)) n)

module _ (g : Geometry) (v : Volume) (img : Bytes) (path : Path) (new : ℕ) where
  abbrev call : Call
  call = set_length path new []

  answer_first : (a : Refusal) → target_answer v path ≡ refusal_number a → answer_in g v call ≡ refusal_number a
  unfolding answer_in
  answer_first a e = rw e (first_refused a _)

  pub length_refused : (a : Refusal) → target_answer v path ≡ refusal_number a → (refusal_number a ≡ answer_in g v call) × (img ≡ image_in g v img call)
  length_refused a e = let h = answer_first a e in (sym h, image_refused g v img call a h)

  module _ (x size : ℕ) (e : (target_answer v path ≡ 0) × (target v path ≡ x)) (s : size ≡ stream_size v x) where
    answer_later : answer_in g v call ≡ length_answer g v size new
    unfolding answer_in first_of
    answer_later = rw (e.0, e.1, s)

    edited_is : edited v img call ≡ length_changed v img x new
    unfolding edited
    edited_is = rw e.1

    -- an answer, and the image that it leaves
    changed : {r : ℕ} {after : Bytes} → r ≡ length_answer g v size new → after ≡ on_zero r (length_changed v img x new) img → (r ≡ answer_in g v call) × (after ≡ image_in g v img call)
    unfolding image_in
    changed {r} h k = let a : r ≡ answer_in g v call = h ∙ sym answer_later in (a, k ∙ ap₂ (λ n b. on_zero n b img) a (sym edited_is))

    -- on one side of the cutoff, and across it
    pub length_within : crosses size new ≡ false → {r : ℕ} {after : Bytes} → r ≡ length_answer g v size new → after ≡ on_zero r (resized v img x new) img
        → (r ≡ answer_in g v call) × (after ≡ image_in g v img call)
    unfolding length_changed
    length_within c h k = changed h (rw (ap (λ n. crosses n new) (sym s) ∙ c) k)

    pub length_across : v.geometry ≡ g → crosses size new ≡ true → {r : ℕ} {after : Bytes} → r ≡ length_answer g v size new → after ≡ on_zero r (moved g img x new) img
        → (r ≡ answer_in g v call) × (after ≡ image_in g v img call)
    unfolding length_changed
    length_across z c h k = changed h (rw (ap (λ n. crosses n new) (sym s) ∙ c, z) k)

    pub length_same : size ≡ new → (0 ≡ answer_in g v call) × (img ≡ image_in g v img call)
    unfolding on_zero resized
    length_same z =
        length_within (ap (crosses size) (sym z) ∙ same_uncrossed size) (sym (ap (λ n. length_answer g v size n) (sym z) ∙ same_answer g v size))
        (sym (rw (eq-eqb new (stream_size v x) (sym z ∙ s))))
