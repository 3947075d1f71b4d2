-- Reads at a cursor: the reply and the out buffer by the entry of that number.
use Prim.Native.Nat.{ℕ, ◌-◌, ◌≤◌, ◌<◌, min}
use mathlib.Core.Path.{◌≡◌, ◌∙◌, ap, subst}
use mathlib.Core.Bool.{true, false}
use mathlib.Core.List.{[], ◌++◌}
use native.Mathlib.Omega.{arith}
use lib.ListN.{length, drop}
use borrow.Author.Tests.{lt-ltb, le-ltb}
use Rattle.format.specs.Basics.Bytes.{Bytes, part}
use Rattle.format.specs.Layout.Geometry.{Geometry}
use Rattle.format.specs.Layout.Entry.{is_stream}
use Rattle.format.specs.Layout.Volume.{Volume}
use Rattle.format.specs.Layout.Stream.{stream_size, contents}
use Rattle.format.specs.Calls.Paths.{Path}
use Rattle.format.specs.Calls.Read.{read_count, read_bytes, over}
use Rattle.format.specs.Calls.Call.{Call, read, read_at, out_of}
use Rattle.format.specs.Calls.Cursor.{stream_answer}
use Rattle.format.specs.Calls.Answer.{first_of, target, target_answer, beyond, answer_in}
use Rattle.format.specs.Calls.Reply.{plain, counted, done}
use Rattle.format.specs.Calls.Buffers.{handed_out}
use Rattle.kinds.specs.declared.Refusal.TheVariants.{Beyond, BadEntry}
use Rattle.queries.specs.Inside.{reply_in, out_in}
use Rattle.queries.specs.Streams.{StreamAt}
use Rattle.queries.specs.declared.find.Object.{Object}
use Rattle.queries.proofs.Answers.{refused_in, done_in}

-- ---- which entry is a stream

module _ (v : Volume) (x : ℕ) where
  entry_past : v.directory.count ≤ x → stream_answer v x ≡ 33
  unfolding stream_answer
  entry_past h = rw (le-ltb x v.directory.count h)

  entry_other : x < v.directory.count → is_stream (v.directory.entry x) ≡ false → stream_answer v x ≡ 33
  unfolding stream_answer
  entry_other h s = rw (lt-ltb x v.directory.count h, s)

  entry_stream : x < v.directory.count → is_stream (v.directory.entry x) ≡ true → stream_answer v x ≡ 0
  unfolding stream_answer
  entry_stream h s = rw (lt-ltb x v.directory.count h, s)

module _ (g : Geometry) (v : Volume) (img : Bytes) (offset : ℕ) (out : Bytes) where
  -- ---- no stream has that number

  module _ (x : ℕ) where
    refused_33 : stream_answer v x ≡ 33 → (plain 33 ≡ reply_in g v (read_at x offset out [])) × (out ≡ out_in g v img (read_at x offset out []))
    unfolding answer_in first_of out_of
    refused_33 h = refused_in g v img (read_at x offset out []) BadEntry (rw h)

    pub at_past : v.directory.count ≤ x → (plain 33 ≡ reply_in g v (read_at x offset out [])) × (out ≡ out_in g v img (read_at x offset out []))
    at_past h = refused_33 (entry_past v x h)

    pub at_other : x < v.directory.count → is_stream (v.directory.entry x) ≡ false
        → (plain 33 ≡ reply_in g v (read_at x offset out [])) × (out ≡ out_in g v img (read_at x offset out []))
    at_other h s = refused_33 (entry_other v x h s)

  -- ---- a stream

  module _ {e : Object} (s : StreamAt v e) where
    abbrev call : Call
    call = read_at e.id.0 offset out []

    there : stream_answer v e.id.0 ≡ 0
    there = entry_stream v e.id.0 s.inside s.stream

    pub at_beyond : e.size < offset → (plain 24 ≡ reply_in g v call) × (out ≡ out_in g v img call)
    unfolding answer_in first_of beyond out_of
    at_beyond h = refused_in g v img call Beyond (rw (there, lt-ltb (stream_size v e.id.0) offset (omega (arith, s.sized, h))))

    module _ (l : offset ≤ e.size) (n : ℕ) (m : n ≡ min (e.size - offset) (length out)) where
      zero : answer_in g v call ≡ 0
      unfolding answer_in first_of beyond
      zero = rw (there, le-ltb (stream_size v e.id.0) offset (omega (arith, s.sized, l)))

      pub at_count : counted n ≡ reply_in g v call
      unfolding done read_count
      at_count = ap counted (m ∙ ap (λ k. min (k - offset) (length out)) s.sized) ∙ (done_in g v img call zero).0

      bytes_are : length (contents v img e.id.0) ≡ e.size → part (contents v img e.id.0) offset n ≡ read_bytes (contents v img e.id.0) offset (length out)
      unfolding read_bytes read_count
      bytes_are c = rw c (ap (part (contents v img e.id.0) offset) m)

      pub at_whole : (new : Bytes) → length (contents v img e.id.0) ≡ e.size → length new ≡ n → new ≡ part (contents v img e.id.0) offset n → new ++ drop n out ≡ out_in g v img call
      unfolding over handed_out
      at_whole new c q p =
          let y : new ≡ read_bytes (contents v img e.id.0) offset (length out) = p ∙ bytes_are c in
          subst (λ i. new ++ drop i out ≡ out_in g v img call) q (ap (λ b. over b out) y ∙ (done_in g v img call zero).1)

    -- a read at a path that leads there
    pub at_path : (path : Path) → target_answer v path ≡ 0 → target v path ≡ e.id.0
        → (reply_in g v call ≡ reply_in g v (read path offset out [])) × (out_in g v img call ≡ out_in g v img (read path offset out []))
    unfolding reply_in out_in answer_in done handed_out out_of
    at_path path a t = (rw (a, t, there), rw (a, t, there))
