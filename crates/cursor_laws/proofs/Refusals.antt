-- A refused read leaves the cursor and the out buffer; no read changes the image.
use Prim.Native.Nat.{ℕ, zero, suc, ◌+◌}
use mathlib.Core.Path.{◌≡◌, refl, ap}
use native.Mathlib.Omega.{arith}
use lib.ListN.{length}
use Rattle.format.specs.Basics.Bytes.{Bytes}
use Rattle.format.specs.Layout.Stream.{stream_size}
use Rattle.format.specs.Rules.Version.{version_of, own_volume}
use Rattle.format.specs.Calls.Read.{read_count}
use Rattle.format.specs.Calls.Call.{read_at, out_of}
use Rattle.format.specs.Calls.Answer.{answer}
use Rattle.format.specs.Calls.Reply.{plain, counted, done, on_zero, reply_by}
use Rattle.format.specs.Calls.Buffers.{edited, image_after_by, handed_out, out_after_by}
use Rattle.format.specs.Calls.Cursor.{Cursor, moved_by}
use Rattle.format.specs.Calls.CursorMoves.{cursor_call, cursor_after}
use Rattle.format.specs.Claims.Cursor.{RefusalStays, ReadingKeeps}

stays : (a n k : ℕ) (c : Cursor) (o out : Bytes) → (on_zero a (counted k) (plain a)).number ≡ suc n →
    (moved_by (on_zero a (counted k) (plain a)).count c ≡ c) × (on_zero a o out ≡ out)
unfolding on_zero counted plain moved_by
stays zero n k c o out h = absurd (omega arith)
stays (suc a) n k c o out h =
    let e : c.position + 0 ≡ c.position = omega arith in
    (ap (λ (p : ℕ). record { entry = c.entry; position = p }) e, refl)

pub refusal_stays : RefusalStays
unfolding cursor_after cursor_call reply_by out_after_by out_of done
refusal_stays img c out work n h =
    let call = read_at c.entry c.position out work in
    stays (answer (version_of img) img call) n (read_count (stream_size (own_volume img) c.entry) c.position (length out)) c (handed_out (own_volume img) img call) out h

pub reading_keeps : ReadingKeeps
unfolding cursor_call image_after_by edited on_zero
reading_keeps img c out work = go (answer (version_of img) img (read_at c.entry c.position out work))
  where
    go : (n : ℕ) → on_zero n img img ≡ img
    go zero = refl
    go (suc n) = refl
