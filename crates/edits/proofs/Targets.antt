-- What a find says of the answer of an edit, and of the image that it leaves.
use mathlib.Core.Path.{◌≡◌, sym}
use mathlib.Core.Logic.{◌≢◌}
use Rattle.std.specs.Prelude.{Ok, Err}
use Rattle.format.specs.Basics.Bytes.{Bytes}
use Rattle.format.specs.Layout.Geometry.{Geometry}
use Rattle.format.specs.Layout.Volume.{Volume}
use Rattle.format.specs.Calls.Paths.{Path}
use Rattle.format.specs.Calls.Call.{Call}
use Rattle.format.specs.Calls.Answer.{target, target_answer, answer_in}
use Rattle.format.specs.Calls.Reply.{on_zero}
use Rattle.format.specs.Calls.Buffers.{edited}
use Rattle.kinds.specs.Numbers.{refusal_number}
use Rattle.kinds.specs.declared.Refusal.{Refusal}
use Rattle.kinds.proofs.Refusals.{else_refused}
use Rattle.queries.specs.Inside.{FindRight, image_in}
use Rattle.queries.specs.declared.find.Object.{Object}
use Rattle.queries.proofs.ReadAnswers.{target_none, target_some, target_refused}
use Rattle.queries.proofs.Streams.{object_stream, object_other}

-- ---- any call

module _ (g : Geometry) (v : Volume) (img : Bytes) (call : Call) where
  pub image_refused : (a : Refusal) → answer_in g v call ≡ refusal_number a → img ≡ image_in g v img call
  unfolding image_in
  image_refused a e = sym (rw e (else_refused a _ _))

  pub image_done : answer_in g v call ≡ 0 → edited v img call ≡ image_in g v img call
  unfolding image_in on_zero
  image_done e = sym (rw e)

-- ---- by what the find found

module _ (v : Volume) (path : Path) where
  -- no entry
  pub find_stopped : (a : Refusal) → FindRight v path (Err a) → target_answer v path ≡ refusal_number a
  find_stopped a h = target_refused v path (refusal_number a) h

  module _ (e : Object) (h : FindRight v path (Ok e)) where
    -- a storage, or the root
    pub find_other : e.entry_type.0 ≢ 2 → target_answer v path ≡ 23
    find_other k = target_none v path e.id.0 h.0 (object_other v e h.1 k)

    module _ (k : e.entry_type.0 ≡ 2) where
      pub find_target : (target_answer v path ≡ 0) × (target v path ≡ e.id.0)
      find_target = target_some v path e.id.0 h.0 (object_stream v e h.1 k).stream
