-- Of every change of length that answers 0: what it adds to the stream is what its searches find.
use Prim.Native.Nat.{ℕ, ◌<◌}
use mathlib.Core.Path.{◌≡◌, refl, sym, ap, ◌∙◌}
use mathlib.Core.Bool.{Bool, true, false, cond}
use mathlib.Core.List.{List}
use native.Mathlib.Omega.{arith}
use native.Mathlib.Decide.{ℕ_discrete}
use lib.ListN.{length}
use borrow.Author.Tests.{ltb-false}
use Rattle.format.specs.Basics.Bytes.{Bytes}
use Rattle.format.specs.Layout.Geometry.{Geometry}
use Rattle.format.specs.Layout.Space.{free_units}
use Rattle.format.specs.Layout.Entry.{is_stream}
use Rattle.format.specs.Layout.Tree.{Forest}
use Rattle.format.specs.Layout.Volume.{Volume, volume}
use Rattle.format.specs.Layout.Stream.{stream_units, stream_size}
use Rattle.format.specs.Rules.Version.{version_of}
use Rattle.format.specs.Rules.Verdict.{Accepted}
use Rattle.format.specs.Calls.Paths.{Path}
use Rattle.format.specs.Calls.Find.{Found, at, refused, resolve_stream, answer_of, entry_of}
use Rattle.format.specs.Calls.SetLength.{crosses, too_few, resized}
use Rattle.format.specs.Calls.Move.{moved, length_changed}
use Rattle.format.specs.Calls.Call.{set_length}
use Rattle.format.specs.Calls.Answer.{target, answer}
use Rattle.format.specs.Calls.Reply.{on_zero}
use Rattle.format.specs.Calls.Buffers.{edited, image_after_by}
use Rattle.format.specs.Claims.Search.{LengthSearched}
use Rattle.theory.proofs.Refusals.{RefusedLow, resolve_stream_low, first_zero}
use Rattle.frame.specs.Frame.{Frame}
use Rattle.frame.specs.Good.{Good}
use Rattle.frame.proofs.EntryFacts.{root_plain_lem}
use Rattle.frame.proofs.Final.{frame, own_sized}
use Rattle.frame.proofs.Good.{accepted_good}
use Rattle.history.proofs.AnswerNumbers.{cond_26_zero}
use Rattle.history.proofs.Answers.{length_answer_lem}
use Rattle.history.proofs.Filled.{Sized, frame_sized}
use Rattle.history.proofs.Finding.{is_stream_lem, is_inside}
use Rattle.history.proofs.LengthStep.{resized_same, length_may}
use Rattle.history.proofs.Moving.{move_room}
use Rattle.history.proofs.Searched.{units_after, resize_searched, same_searched, move_searched}

module _ (g : Geometry) (pos : 0 < g.sector_bytes) (fr : Frame g) (img : Bytes) (acc : Accepted g img) where
  abbrev v : Volume
  v = volume g img

  abbrev good : Good v
  good = accepted_good g img pos acc

  abbrev sized : Sized v img
  sized = frame_sized fr img acc

  root_plain : is_stream (v.directory.entry 0) ≡ false
  root_plain = root_plain_lem g img good

  -- on one side of the cutoff, or across it
  any_searched : (p : Path) (new : ℕ) {e : ℕ} {b : Forest} → resolve_stream v.directory p ≡ at e b
      → too_few g (length (free_units v.sectors)) (length (free_units v.minis)) (stream_size v e) new ≡ false
      → stream_units (volume g (length_changed v img e new)) e ≡ units_after v e new
  unfolding length_changed volume
  any_searched p new {e} h k = go (crosses (stream_size v e) new) refl
    where
      go : (t : Bool) → crosses (stream_size v e) new ≡ t → stream_units (volume g (cond t (moved g img e new) (resized v img e new))) e ≡ units_after v e new
      go true q =
          move_searched g pos fr img acc e new (is_inside v img good sized root_plain p h) (is_stream_lem v img good sized root_plain p h) q
          (ltb-false _ _ (sym (move_room g img (stream_size v e) new q) ∙ k))
      go false q =
          elim (ℕ_discrete new (stream_size v e)) [
            | yes z ↦
                ap (λ i. stream_units (volume g i) e) (resized_same v img e new z)
                ∙ same_searched g pos fr img acc e new (is_inside v img good sized root_plain p h) (is_stream_lem v img good sized root_plain p h) q z
            | no z ↦ resize_searched g pos fr img acc e new (length_may g pos fr img acc p new h q k z)
          ]

  answered_0 : (p : Path) (new : ℕ) (work : List ℕ) (f : Found) → resolve_stream v.directory p ≡ f → RefusedLow f → answer g img (set_length p new work) ≡ 0
      → stream_units (volume g (length_changed v img (entry_of f) new)) (entry_of f) ≡ units_after v (entry_of f) new
  unfolding answer_of entry_of
  answered_0 p new work (at e b) h l a =
      let r = (first_zero _ _ (first_zero _ _ (sym (length_answer_lem g pos img acc sized p new work (at e b) h) ∙ a)).1).1 in
      any_searched p new h (cond_26_zero (too_few g (length (free_units v.sectors)) (length (free_units v.minis)) (stream_size v e) new) r)
  answered_0 p new work (refused n) h l a =
      let r = (first_zero _ _ (first_zero _ _ (sym (length_answer_lem g pos img acc sized p new work (refused n) h) ∙ a)).1).0 in
      absurd (omega (arith, l.0))

  call_searched : (p : Path) (new : ℕ) (work : List ℕ) → answer g img (set_length p new work) ≡ 0
      → stream_units (volume g (image_after_by g img (set_length p new work))) (target v p) ≡ units_after v (target v p) new
  unfolding image_after_by edited target on_zero
  call_searched p new work a = rw a (answered_0 p new work (resolve_stream v.directory p) refl (resolve_stream_low v.directory p) a)

pub length_searched : LengthSearched
length_searched img acc path new work a =
    let s = own_sized img in
    call_searched (version_of img) (let w = s.wide in omega arith) (frame (version_of img) s) img acc path new work a
