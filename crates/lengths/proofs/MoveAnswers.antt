-- A change of length across the cutoff: its answer, the cells that its searches look at, and the bytes that stay.
use Prim.Native.Nat.{ℕ, ◌≤◌, min}
use mathlib.Core.Path.{◌≡◌, sym, ◌∙◌, ap}
use mathlib.Core.Bool.{Bool, true, false, not, cond}
use mathlib.Core.List.{List}
use native.Mathlib.Decide.{dec_le}
use native.Mathlib.Omega.{arith}
use lib.Dec.{ltb}
use lib.ListN.{length, take}
use lib.Seq.{take_all}
use borrow.Author.Tests.{ltb-false, not-true, not-false}
use Rattle.format.specs.Basics.Bytes.{Bytes, part}
use Rattle.format.specs.Layout.Geometry.{Geometry}
use Rattle.format.specs.Layout.Need.{round_up}
use Rattle.format.specs.Layout.Space.{free_units}
use Rattle.format.specs.Layout.Volume.{volume}
use Rattle.format.specs.Layout.Stream.{space_for, contents}
use Rattle.format.specs.Calls.SetLength.{crosses}
use Rattle.format.specs.Calls.Search.{searches_for, length_searches, cells_looked}
use Rattle.format.specs.Calls.Answer.{length_answer}
use Rattle.theory.proofs.Loops.{said_no, said_yes}
use Rattle.history.proofs.Filled.{frame_sized, length_contents}
use Rattle.history.proofs.Moving.{move_room}
use Rattle.kinds.specs.Sizes.{geometry_of}
use Rattle.volume.specs.declared.Volume.{Volume as Opened}
use Rattle.spaces.specs.Spaces.{kind_for, volume_in, space_at}
use Rattle.queries.specs.declared.find.Object.{Object}
use Rattle.queries.specs.Inside.{Open}
use Rattle.queries.specs.Streams.{StreamAt}
use Rattle.edits.proofs.Looks.{across_looked}
use Rattle.edits.proofs.Streams.{kind_side, good}
use Rattle.lengths.proofs.Opens.{open_frame, open_accepted}

module _ {v : Opened} {img : Bytes} {w : List ℕ} (o : Open v img w) {e : Object} (s : StreamAt (volume_in v img) e) (new : ℕ) (c : crosses e.size new ≡ true) where
  abbrev g : Geometry
  g = geometry_of v.tables.geometry

  -- ---- the answer

  move_answer : length_answer g (volume_in v img) e.size new ≡ cond (ltb (length (free_units (space_at v img (kind_for new)))) (round_up new (space_at v img (kind_for new)).unit)) 26 0
  unfolding length_answer
  move_answer = rw (kind_side (volume_in v img) new) (ap (λ t. cond {A = ℕ} t 26 0) (move_room g img e.size new c))

  -- what gathering answers
  module _ {b : Bool} (n : ℕ) (wants : n ≡ round_up new (space_at v img (kind_for new)).unit) (said : b ≡ not (ltb (length (free_units (space_at v img (kind_for new)))) n)) where
    abbrev lacks : Bool
    lacks = ltb (length (free_units (space_at v img (kind_for new)))) n

    answer_by : length_answer g (volume_in v img) e.size new ≡ cond lacks 26 0
    answer_by = rw wants move_answer

    pub too_few : not b ≡ true → 26 ≡ length_answer g (volume_in v img) e.size new
    too_few h = let z : lacks ≡ true = not-false lacks (said_no h said) in sym (answer_by ∙ ap (λ t. cond t 26 0) z)

    pub enough_free : not b ≡ false → (n ≤ length (free_units (space_at v img (kind_for new)))) × (0 ≡ length_answer g (volume_in v img) e.size new)
    enough_free h = let z : lacks ≡ false = not-true lacks (said_yes h said) in (ltb-false _ n z, sym (answer_by ∙ ap (λ t. cond t 26 0) z))

  -- the cells that the searches look at
  pub move_looked : (n : ℕ) → n ≡ round_up new (space_at v img (kind_for new)).unit
      → cells_looked (searches_for (space_at v img (kind_for new)) 0 n) ≡ cells_looked (length_searches (volume_in v img) e.id.0 new)
  unfolding space_for
  move_looked n wants =
      ap (λ m. cells_looked (searches_for (space_at v img (kind_for new)) 0 m)) wants
      ∙ ap (λ z. cells_looked (searches_for z 0 (round_up new z.unit))) (kind_side (volume_in v img) new)
      ∙ across_looked (volume_in v img) e.id.0 new (ap (λ k. crosses k new) (sym s.sized) ∙ c)

  -- ---- the bytes that stay

  pub kept_are : {n : ℕ} → n ≡ min e.size new → part (contents (volume_in v img) img e.id.0) 0 n ≡ take new (contents (volume_in v img) img e.id.0)
  unfolding part
  kept_are {n} k =
      let long = length_contents (volume g img) img (good o) (frame_sized (open_frame o) img (open_accepted o)) e.id.0 s.inside s.stream in
      elim (dec_le e.size new) [
        | yes h ↦ take_all n _ (omega (arith, k, long, s.sized)) ∙ sym (take_all new _ (omega (arith, long, s.sized)))
        | no h ↦ let m : n ≡ new = omega (arith, k) in ap (λ i. take i (contents (volume_in v img) img e.id.0)) m
      ]
