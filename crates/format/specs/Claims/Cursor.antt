-- W-212: reading to the end in any pieces yields the rest of the stream in order; the image stays as it is.
use Rattle.std.specs.Prelude.{ℕ, suc, ◌+◌, ◌≤◌, ◌<◌, min, ◌≡◌, Bool, true, List, [], ◌∷◌, ◌++◌, leb, length, replicate, take, drop}
use Rattle.format.specs.Basics.Lists.{all}
use Rattle.format.specs.Basics.Bytes.{Bytes}
use Rattle.format.specs.Layout.Entry.{is_stream}
use Rattle.format.specs.Layout.Stream.{stream_size, contents}
use Rattle.format.specs.Rules.Length.{work_need}
use Rattle.format.specs.Rules.Version.{version_of, own_volume}
use Rattle.format.specs.Rules.Verdict.{Accepted}
use Rattle.format.specs.Calls.Reply.{reply}
use Rattle.format.specs.Calls.Buffers.{image_after, out_after}
use Rattle.format.specs.Calls.Cursor.{Cursor, moved_by}
use Rattle.format.specs.Calls.CursorMoves.{cursor_call, cursor_after}

-- ---- the buffers lent to one read

pub record Lent : Type 0 where
  pub out : Bytes
  pub work : List ℕ

unfoldable pub work_fits : Bytes → Lent → Bool
work_fits img l = leb (work_need (length img)) (length l.work)

unfoldable pub takes_byte : Lent → Bool
takes_byte l = leb 1 (length l.out)

-- the bytes that all of them have room for
unfoldable pub room : List Lent → ℕ
room [] = 0
room (l ∷ ls) = length l.out + room ls

-- ---- reads one after the other. The image is the same for all.

-- what is left of the stream at a cursor
unfoldable pub rest_at : Bytes → Cursor → Bytes
rest_at img c = drop c.position (contents (own_volume img) img c.entry)

-- the bytes that one read hands over
unfoldable pub handed_at : Bytes → Cursor → Lent → Bytes
handed_at img c l = take (reply img (cursor_call c l.out l.work)).count (out_after img (cursor_call c l.out l.work))

-- what all hand over, and where they leave the cursor
unfoldable pub handed_all : Bytes → Cursor → List Lent → Bytes
handed_all img c [] = []
handed_all img c (l ∷ ls) = handed_at img c l ++ handed_all img (cursor_after img c l.out l.work) ls

unfoldable pub cursor_at_end : Bytes → Cursor → List Lent → Cursor
cursor_at_end img c [] = c
cursor_at_end img c (l ∷ ls) = cursor_at_end img (cursor_after img c l.out l.work) ls

-- the number that each answers
unfoldable pub numbers_at : Bytes → Cursor → List Lent → List ℕ
numbers_at img c [] = []
numbers_at img c (l ∷ ls) = (reply img (cursor_call c l.out l.work)).number ∷ numbers_at img (cursor_after img c l.out l.work) ls

-- ---- the claims

pub record ReadsOn (img : Bytes) (c : Cursor) (ls : List Lent) : Type 0 where
  -- none is refused
  pub answers : numbers_at img c ls ≡ replicate (length ls) 0
  -- what is handed over and then what is left is what was left before: no byte is skipped, twice or out of order
  pub bytes : handed_all img c ls ++ rest_at img (cursor_at_end img c ls) ≡ rest_at img c
  -- as far as there is room, up to the end
  pub cursor : cursor_at_end img c ls ≡ moved_by (min (room ls) (length (rest_at img c))) c
  -- with room for the whole rest it is the whole rest, and as many pieces of at least a byte have that room
  pub whole : length (rest_at img c) ≤ room ls → handed_all img c ls ≡ rest_at img c
  pub pieces : all takes_byte ls ≡ true → length (rest_at img c) ≤ length ls → handed_all img c ls ≡ rest_at img c

-- of every accepted image, at a stream and within it
abbrev pub CursorReads : Type 0
CursorReads =
    (img : Bytes) (c : Cursor) (ls : List Lent) → Accepted (version_of img) img
    → c.entry < (own_volume img).directory.count → is_stream ((own_volume img).directory.entry c.entry) ≡ true
    → c.position ≤ stream_size (own_volume img) c.entry → all (work_fits img) ls ≡ true → ReadsOn img c ls

-- of every image and every cursor
abbrev pub RefusalStays : Type 0
RefusalStays =
    (img : Bytes) (c : Cursor) (out : Bytes) (work : List ℕ) (n : ℕ) → (reply img (cursor_call c out work)).number ≡ suc n
    → (cursor_after img c out work ≡ c) × (out_after img (cursor_call c out work) ≡ out)

-- whatever it answers
abbrev pub ReadingKeeps : Type 0
ReadingKeeps = (img : Bytes) (c : Cursor) (out : Bytes) (work : List ℕ) → image_after img (cursor_call c out work) ≡ img
