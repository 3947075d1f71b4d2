-- Reads: the answer by what the find found.
use Prim.Native.Nat.{ℕ}
use mathlib.Core.Path.{◌≡◌}
use mathlib.Core.Bool.{true, false}
use mathlib.Core.List.{[]}
use Rattle.format.specs.Basics.Bytes.{Bytes}
use Rattle.format.specs.Layout.Geometry.{Geometry}
use Rattle.format.specs.Layout.Entry.{is_stream}
use Rattle.format.specs.Layout.Volume.{Volume}
use Rattle.format.specs.Calls.Paths.{Path}
use Rattle.format.specs.Calls.Find.{refused, resolve, resolve_stream, need_stream, answer_of, entry_of}
use Rattle.format.specs.Calls.Call.{Call, read, out_of}
use Rattle.format.specs.Calls.Answer.{target, target_answer, answer_in}
use Rattle.format.specs.Calls.Reply.{plain}
use Rattle.theory.specs.TreeFind.{reached}
use Rattle.kinds.specs.Numbers.{refusal_number}
use Rattle.kinds.specs.declared.Refusal.{Refusal}
use Rattle.kinds.proofs.Refusals.{first_refused}
use Rattle.queries.specs.Inside.{reply_in, out_in}
use Rattle.queries.proofs.Answers.{refused_in}

module _ (v : Volume) (path : Path) where
  -- ---- the stream that a path leads to

  module _ (x : ℕ) (h : reached v.directory x ≡ resolve v.directory path) where
    pub target_none : is_stream (v.directory.entry x) ≡ false → target_answer v path ≡ 23
    unfolding target_answer resolve_stream need_stream answer_of
    target_none s = rw (← h, s)

    pub target_some : is_stream (v.directory.entry x) ≡ true → (target_answer v path ≡ 0) × (target v path ≡ x)
    unfolding target_answer target resolve_stream need_stream answer_of entry_of
    target_some s = (rw (← h, s), rw (← h, s))

  pub target_refused : (a : ℕ) → refused a ≡ resolve v.directory path → target_answer v path ≡ a
  unfolding target_answer resolve_stream need_stream answer_of
  target_refused a h = rw (← h)

  -- ---- a read that is refused

  module _ (g : Geometry) (offset : ℕ) (out : Bytes) where
    abbrev call : Call
    call = read path offset out []

    answer_refused : (a : Refusal) → target_answer v path ≡ refusal_number a → answer_in g v call ≡ refusal_number a
    unfolding answer_in
    answer_refused a e = rw e (first_refused a _)

    pub read_refused : (img : Bytes) (a : Refusal) → target_answer v path ≡ refusal_number a → (plain (refusal_number a) ≡ reply_in g v call) × (out ≡ out_in g v img call)
    unfolding out_of
    read_refused img a e = refused_in g v img call a (answer_refused a e)
