-- One read of an accepted image, at a stream and within it: its answer, its bytes, and where it leaves the cursor.
use Prim.Native.Nat.{ℕ, ◌+◌, ◌-◌, ◌≤◌, ◌<◌, min}
use mathlib.Core.Path.{◌≡◌, refl, sym, ap, ap₂, ◌∙◌}
use mathlib.Core.Bool.{true}
use mathlib.Core.List.{List, [], ◌∷◌, ◌++◌, append_assoc, append-nil}
use native.Mathlib.Omega.{arith}
use lib.Dec.{leb}
use lib.ListN.{length, replicate, take, drop, take-append-drop, length-take, length-drop, drop_of_length-le}
use lib.Seq.{drop-drop, take_at}
use borrow.Author.Tests.{lt-ltb, le-ltb, leb-true}
use Rattle.format.specs.Basics.Lists.{all}
use Rattle.format.specs.Basics.Bytes.{Bytes, part}
use Rattle.format.specs.Layout.Entry.{is_stream}
use Rattle.format.specs.Layout.Volume.{Volume}
use Rattle.format.specs.Layout.Stream.{stream_size, contents}
use Rattle.format.specs.Rules.Length.{work_need}
use Rattle.format.specs.Rules.Version.{version_of, own_volume}
use Rattle.format.specs.Rules.Verdict.{Accepted}
use Rattle.format.specs.Calls.Read.{read_count, read_bytes, over}
use Rattle.format.specs.Calls.Call.{read_at, work_of}
use Rattle.format.specs.Calls.Answer.{first_of, beyond, answer_in, answer}
use Rattle.format.specs.Calls.Reply.{counted, done, on_zero, reply_by, reply}
use Rattle.format.specs.Calls.Buffers.{handed_out, out_after_by, out_after}
use Rattle.format.specs.Calls.Cursor.{Cursor, moved_by, stream_answer}
use Rattle.format.specs.Calls.CursorMoves.{cursor_call, cursor_after}
use Rattle.format.specs.Claims.Cursor.{Lent, work_fits, takes_byte, room, rest_at, handed_at, handed_all, cursor_at_end, numbers_at, ReadsOn, CursorReads}
use Rattle.theory.proofs.Tests.{both}
use Rattle.frame.proofs.Final.{frame, own_sized}
use Rattle.frame.proofs.Good.{accepted_good}
use Rattle.history.proofs.Filled.{frame_sized, length_contents}
use Rattle.frame.proofs.Accepted.{verdict_accepted}

pub read_length : (s : Bytes) (p n : ℕ) → length (read_bytes s p n) ≡ read_count (length s) p n
unfolding read_bytes read_count part
read_length s p n = length-take (min (length s - p) n) (drop p s) ∙ omega (arith, length-drop p s)

-- ---- one read of an accepted image, at a stream and within it

module _ (img : Bytes) (acc : Accepted (version_of img) img) (e : ℕ) (inside : e < (own_volume img).directory.count)
    (st : is_stream ((own_volume img).directory.entry e) ≡ true) (long : length (contents (own_volume img) img e) ≡ stream_size (own_volume img) e) where
  abbrev v : Volume
  v = own_volume img

  abbrev s : Bytes
  s = contents v img e

  abbrev at : ℕ → Cursor
  at p = record { entry = e; position = p }

  read_number : (p : ℕ) (out : Bytes) (work : List ℕ) → p ≤ stream_size v e → leb (work_need (length img)) (length work) ≡ true → answer (version_of img) img (read_at e p out work) ≡ 0
  unfolding answer answer_in work_of stream_answer beyond first_of
  read_number p out work h w = rw (verdict_accepted (version_of img) img (length work) acc, w, lt-ltb e v.directory.count inside, st, le-ltb (stream_size v e) p h)

  module _ (p : ℕ) (l : Lent) (h : p ≤ stream_size v e) (f : work_fits img l ≡ true) where
    abbrev k : ℕ
    k = read_count (length s) p (length l.out)

    number_is : answer (version_of img) img (read_at e p l.out l.work) ≡ 0
    unfolding work_fits
    number_is = read_number p l.out l.work h f

    pub zero_is : (reply img (cursor_call (at p) l.out l.work)).number ≡ 0
    unfolding cursor_call reply_by on_zero done counted
    zero_is = rw number_is

    count_is : (reply img (read_at e p l.out l.work)).count ≡ k
    unfolding reply_by on_zero done counted
    count_is = rw (number_is, long)

    out_is : out_after img (read_at e p l.out l.work) ≡ over (read_bytes s p (length l.out)) l.out
    unfolding out_after_by on_zero handed_out
    out_is = rw number_is

    pub handed_is : handed_at img (at p) l ≡ read_bytes s p (length l.out)
    unfolding handed_at cursor_call over
    handed_is = ap₂ take count_is out_is ∙ take_at (read_bytes s p (length l.out)) _ k (read_length s p (length l.out))

    pub within : p + k ≤ stream_size v e
    unfolding read_count
    within = omega (arith, long)

    pub moves : cursor_after img (at p) l.out l.work ≡ at (p + k)
    unfolding cursor_after cursor_call moved_by
    moves = ap (λ n. at (p + n)) count_is
