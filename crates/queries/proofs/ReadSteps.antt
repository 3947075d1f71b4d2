-- The steps of a read, by what the find found.
use Prim.Native.Nat.{ℕ}
use mathlib.Core.Path.{◌≡◌}
use mathlib.Core.Logic.{◌≢◌}
use mathlib.Core.List.{[]}
use Rattle.std.specs.Prelude.{Ok, Err}
use Rattle.format.specs.Basics.Bytes.{Bytes}
use Rattle.format.specs.Layout.Geometry.{Geometry}
use Rattle.format.specs.Layout.Volume.{Volume}
use Rattle.format.specs.Calls.Paths.{Path}
use Rattle.format.specs.Calls.Call.{Call, read, read_at}
use Rattle.format.specs.Calls.Reply.{plain}
use Rattle.kinds.specs.Numbers.{refusal_number}
use Rattle.kinds.specs.declared.Refusal.{Refusal}
use Rattle.kinds.specs.declared.Refusal.TheVariants.{NotAStream}
use Rattle.queries.specs.Inside.{FindRight, reply_in, out_in}
use Rattle.queries.specs.Streams.{StreamAt}
use Rattle.queries.specs.declared.find.Object.{Object}
use Rattle.queries.proofs.Streams.{object_other}
use Rattle.queries.proofs.ReadAnswers.{target_none, target_some, target_refused, read_refused}
use Rattle.queries.proofs.AtEntry.{at_path}

module _ (g : Geometry) (v : Volume) (img : Bytes) (path : Path) (offset : ℕ) (out : Bytes) where
  abbrev call : Call
  call = read path offset out []

  -- no entry
  pub read_stopped : (a : Refusal) → FindRight v path (Err a) → (plain (refusal_number a) ≡ reply_in g v call) × (out ≡ out_in g v img call)
  read_stopped a h = read_refused v path g offset out img a (target_refused v path (refusal_number a) h)

  module _ (e : Object) (h : FindRight v path (Ok e)) where
    -- a storage, or the root
    pub read_not_stream : e.entry_type.0 ≢ 2 → (plain 23 ≡ reply_in g v call) × (out ≡ out_in g v img call)
    read_not_stream k = read_refused v path g offset out img NotAStream (target_none v path e.id.0 h.0 (object_other v e h.1 k))

    -- a stream: the read is that of its entry
    pub read_there : StreamAt v e → (reply_in g v (read_at e.id.0 offset out []) ≡ reply_in g v call) × (out_in g v img (read_at e.id.0 offset out []) ≡ out_in g v img call)
    read_there s = let t = target_some v path e.id.0 h.0 s.stream in at_path g v img offset out s path t.0 t.1
