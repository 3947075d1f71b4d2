-- Reading on in any pieces yields the rest of the stream in order.
use Prim.Native.Nat.{ℕ, ◌+◌, ◌-◌, ◌≤◌, ◌<◌, min}
use mathlib.Core.Path.{◌≡◌, refl, sym, ap, ap₂, ◌∙◌}
use mathlib.Core.Bool.{true}
use mathlib.Core.List.{List, [], ◌∷◌, ◌++◌, append_assoc, append-nil}
use native.Mathlib.Omega.{arith}
use lib.Dec.{leb}
use lib.ListN.{length, replicate, take, drop, take-append-drop, length-take, length-drop, drop_of_length-le}
use lib.Seq.{drop-drop, take_at}
use borrow.Author.Tests.{lt-ltb, le-ltb, leb-true}
use Rattle.format.specs.Basics.Lists.{all}
use Rattle.format.specs.Basics.Bytes.{Bytes, part}
use Rattle.format.specs.Layout.Entry.{is_stream}
use Rattle.format.specs.Layout.Volume.{Volume}
use Rattle.format.specs.Layout.Stream.{stream_size, contents}
use Rattle.format.specs.Rules.Length.{work_need}
use Rattle.format.specs.Rules.Version.{version_of, own_volume}
use Rattle.format.specs.Rules.Verdict.{Accepted}
use Rattle.format.specs.Calls.Read.{read_count, read_bytes, over}
use Rattle.format.specs.Calls.Call.{read_at, work_of}
use Rattle.format.specs.Calls.Answer.{first_of, beyond, answer_in, answer}
use Rattle.format.specs.Calls.Reply.{counted, done, on_zero, reply_by, reply}
use Rattle.format.specs.Calls.Buffers.{handed_out, out_after_by, out_after}
use Rattle.format.specs.Calls.Cursor.{Cursor, moved_by, stream_answer}
use Rattle.format.specs.Calls.CursorMoves.{cursor_call, cursor_after}
use Rattle.format.specs.Claims.Cursor.{Lent, work_fits, takes_byte, room, rest_at, handed_at, handed_all, cursor_at_end, numbers_at, ReadsOn, CursorReads}
use Rattle.theory.proofs.Tests.{both}
use Rattle.cursor_laws.proofs.OneRead.{read_length, zero_is, moves, handed_is, within}
use Rattle.frame.proofs.Final.{frame, own_sized}
use Rattle.frame.proofs.Good.{accepted_good}
use Rattle.history.proofs.Filled.{frame_sized, length_contents}
use Rattle.frame.proofs.Accepted.{verdict_accepted}

-- ---- on lists of bytes

-- what is read, and what is left behind it
pub read_on : (s : Bytes) (p n : ℕ) → read_bytes s p n ++ drop (p + read_count (length s) p n) s ≡ drop p s
unfolding read_bytes part
read_on s p n =
    let k = read_count (length s) p n in
    ap (λ t. take k (drop p s) ++ t) (sym (drop-drop k p s)) ∙ take-append-drop k (drop p s)

-- two reads go as far as one with the room of both
reads_add : (p a b n m : ℕ) → n ≡ m → p + read_count n p a + min b (m - (p + read_count n p a)) ≡ p + min (a + b) (m - p)
unfolding read_count
reads_add p a b n m h = omega arith

-- pieces of at least a byte have room for as many bytes as they are
pub room_enough : (ls : List Lent) → all takes_byte ls ≡ true → length ls ≤ room ls
unfolding all takes_byte room
room_enough [] f = omega arith
room_enough (l ∷ ls) f =
    let u = both (leb 1 (length l.out)) (all takes_byte ls) f in
    omega (arith, leb-true 1 (length l.out) u.0, room_enough ls u.1)

-- ---- reads one after the other

module _ (img : Bytes) (acc : Accepted (version_of img) img) (e : ℕ) (inside : e < (own_volume img).directory.count)
    (st : is_stream ((own_volume img).directory.entry e) ≡ true) (long : length (contents (own_volume img) img e) ≡ stream_size (own_volume img) e) where
  abbrev v : Volume
  v = own_volume img

  abbrev s : Bytes
  s = contents v img e

  abbrev at : ℕ → Cursor
  at p = record { entry = e; position = p }

  rest_long : (p : ℕ) → length (rest_at img (at p)) ≡ stream_size v e - p
  unfolding rest_at
  rest_long p = length-drop p s ∙ omega (arith, long)

  answers_are : (p : ℕ) (ls : List Lent) → p ≤ stream_size v e → all (work_fits img) ls ≡ true → numbers_at img (at p) ls ≡ replicate (length ls) 0
  unfolding all numbers_at
  answers_are p [] h f = refl
  answers_are p (l ∷ ls) h f =
      let u = both (work_fits img l) (all (work_fits img) ls) f in
      ap₂ ◌∷◌ (zero_is img acc e inside st long p l h u.0) (ap (λ (c : Cursor). numbers_at img c ls) (moves img acc e inside st long p l h u.0) ∙ answers_are (p + read_count (length s) p (length l.out)) ls (within img acc e inside st long p l h u.0) u.1)

  bytes_are : (p : ℕ) (ls : List Lent) → p ≤ stream_size v e → all (work_fits img) ls ≡ true →
      handed_all img (at p) ls ++ rest_at img (cursor_at_end img (at p) ls) ≡ rest_at img (at p)
  unfolding all handed_all cursor_at_end rest_at
  bytes_are p [] h f = refl
  bytes_are p (l ∷ ls) h f =
      let u = both (work_fits img l) (all (work_fits img) ls) f in
      let n = p + read_count (length s) p (length l.out) in
      let m = moves img acc e inside st long p l h u.0 in
      append_assoc (handed_at img (at p) l) _ _
      ∙ ap₂ ◌++◌ (handed_is img acc e inside st long p l h u.0) (ap (λ (c : Cursor). handed_all img c ls ++ rest_at img (cursor_at_end img c ls)) m ∙ bytes_are n ls (within img acc e inside st long p l h u.0) u.1)
      ∙ read_on s p (length l.out)

  cursor_is : (p : ℕ) (ls : List Lent) → p ≤ stream_size v e → all (work_fits img) ls ≡ true →
      cursor_at_end img (at p) ls ≡ at (p + min (room ls) (stream_size v e - p))
  unfolding all cursor_at_end room
  cursor_is p [] h f = ap at (omega arith)
  cursor_is p (l ∷ ls) h f =
      let u = both (work_fits img l) (all (work_fits img) ls) f in
      let n = p + read_count (length s) p (length l.out) in
      ap (λ (c : Cursor). cursor_at_end img c ls) (moves img acc e inside st long p l h u.0)
      ∙ cursor_is n ls (within img acc e inside st long p l h u.0) u.1
      ∙ ap at (reads_add p (length l.out) (room ls) (length s) (stream_size v e) long)

  whole_is : (p : ℕ) (ls : List Lent) → p ≤ stream_size v e → all (work_fits img) ls ≡ true → length (rest_at img (at p)) ≤ room ls →
      handed_all img (at p) ls ≡ rest_at img (at p)
  unfolding rest_at
  whole_is p ls h f m =
      let r : rest_at img (cursor_at_end img (at p) ls) ≡ [] =
      ap (rest_at img) (cursor_is p ls h f) ∙ drop_of_length-le s {i = p + min (room ls) (stream_size v e - p)} (omega (arith, long, rest_long p)) in
      sym (append-nil (handed_all img (at p) ls)) ∙ ap (λ t. handed_all img (at p) ls ++ t) (sym r) ∙ bytes_are p ls h f

  pub reads_on : (p : ℕ) (ls : List Lent) → p ≤ stream_size v e → all (work_fits img) ls ≡ true → ReadsOn img (at p) ls
  unfolding moved_by
  reads_on p ls h f =
      record {
        answers = answers_are p ls h f;
        bytes = bytes_are p ls h f;
        cursor = cursor_is p ls h f ∙ ap (λ n. at (p + min (room ls) n)) (sym (rest_long p));
        whole = whole_is p ls h f;
        pieces = λ t m. whole_is p ls h f (omega (arith, room_enough ls t));
      }

-- ---- W-212

pub cursor_reads : CursorReads
cursor_reads img c ls acc inside st h f =
    let g = version_of img in
    let z = own_sized img in
    let pos : 0 < g.sector_bytes = let w = z.wide in omega arith in
    let long = length_contents (own_volume img) img (accepted_good g img pos acc) (frame_sized (frame g z) img acc) c.entry inside st in
    reads_on img acc c.entry inside st long c.position ls h f
