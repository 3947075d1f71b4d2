-- Reads one after the other at one cursor, by what the contract of each ensures: they hand over the bytes of which `CursorReads` speaks.
use Prim.Native.Nat.{ℕ, ◌≤◌, ◌<◌}
use mathlib.Core.Path.{◌≡◌, refl, ap, ap₂, ◌∙◌}
use mathlib.Core.Bool.{true}
use mathlib.Core.List.{List, [], ◌∷◌, ◌++◌}
use lib.ListN.{length, take}
use Rattle.std.proofs.Common.{Result}
use Rattle.format.specs.Basics.Lists.{all}
use Rattle.format.specs.Basics.Bytes.{Bytes}
use Rattle.format.specs.Layout.Entry.{is_stream}
use Rattle.format.specs.Layout.Stream.{stream_size}
use Rattle.format.specs.Rules.Version.{version_of, own_volume}
use Rattle.format.specs.Rules.Verdict.{Accepted}
use Rattle.format.specs.Calls.Call.{Call}
use Rattle.format.specs.Calls.Reply.{Reply, reply}
use Rattle.format.specs.Calls.Buffers.{out_after}
use Rattle.format.specs.Calls.Cursor.{Cursor as Place}
use Rattle.format.specs.Calls.CursorMoves.{cursor_call, cursor_after}
use Rattle.format.specs.Claims.Cursor.{Lent, work_fits, room, rest_at, handed_at, handed_all, cursor_at_end, numbers_at}
use Rattle.cursor_laws.proofs.Pieces.{cursor_reads}
use Rattle.kinds.specs.declared.Refusal.{Refusal}
use Rattle.queries.specs.Replies.{read_reply}
use Rattle.paging.specs.declared.cursor.Cursor.{Cursor}
use Rattle.paging.specs.Cursors.{cursor_of}

-- the buffers that a read is lent; what it gives, and what it leaves in the cursor and in the out buffer
pub record Piece : Type 0 where
  pub lent : Lent
  pub read : Result ℕ Refusal
  pub cursor : Cursor
  pub out : Bytes

abbrev pub call_of : Cursor → Piece → Call
call_of c p = cursor_call (cursor_of c) p.lent.out p.lent.work

-- what `read_next` and `read_on` ensure of it
pub record ReadAs (img : Bytes) (c : Cursor) (p : Piece) : Type 0 where
  pub given : read_reply p.read ≡ reply img (call_of c p)
  pub moved : cursor_of p.cursor ≡ cursor_after img (cursor_of c) p.lent.out p.lent.work
  pub filled : p.out ≡ out_after img (call_of c p)

-- each read at the cursor that the one before it left
abbrev pub Paged : Bytes → Cursor → List Piece → Type 0
Paged img c [] = Unit {0}
Paged img c (p ∷ ps) = ReadAs img c p × Paged img p.cursor ps

unfoldable pub lent_to : List Piece → List Lent
lent_to [] = []
lent_to (p ∷ ps) = p.lent ∷ lent_to ps

-- the first bytes of each out buffer, as many as were counted
unfoldable pub handed_by : List Piece → Bytes
handed_by [] = []
handed_by (p ∷ ps) = take (read_reply p.read).count p.out ++ handed_by ps

unfoldable pub numbers_of : List Piece → List ℕ
numbers_of [] = []
numbers_of (p ∷ ps) = (read_reply p.read).number ∷ numbers_of ps

unfoldable pub left_at : Cursor → List Piece → Cursor
left_at c [] = c
left_at c (p ∷ ps) = left_at p.cursor ps

-- ---- these are what the definitions say

module _ (img : Bytes) where
  pub handed_is : (c : Cursor) (ps : List Piece) → Paged img c ps → handed_by ps ≡ handed_all img (cursor_of c) (lent_to ps)
  unfolding handed_by handed_all handed_at lent_to
  handed_is c [] h = refl
  handed_is c (p ∷ ps) h =
      let r = h.0 in
      ap₂ ◌++◌ (ap₂ take (ap (λ (x : Reply). x.count) r.given) r.filled)
      (handed_is p.cursor ps h.1 ∙ ap (λ (x : Place). handed_all img x (lent_to ps)) r.moved)

  pub numbers_are : (c : Cursor) (ps : List Piece) → Paged img c ps → numbers_of ps ≡ numbers_at img (cursor_of c) (lent_to ps)
  unfolding numbers_of numbers_at lent_to
  numbers_are c [] h = refl
  numbers_are c (p ∷ ps) h =
      let r = h.0 in
      ap₂ ◌∷◌ (ap (λ (x : Reply). x.number) r.given) (numbers_are p.cursor ps h.1 ∙ ap (λ (x : Place). numbers_at img x (lent_to ps)) r.moved)

  pub left_is : (c : Cursor) (ps : List Piece) → Paged img c ps → cursor_of (left_at c ps) ≡ cursor_at_end img (cursor_of c) (lent_to ps)
  unfolding left_at cursor_at_end lent_to
  left_is c [] h = refl
  left_is c (p ∷ ps) h = left_is p.cursor ps h.1 ∙ ap (λ (x : Place). cursor_at_end img x (lent_to ps)) h.0.moved

  -- so with room for all that is left at the cursor, the bytes are all that is left
  pub paged_whole : (c : Cursor) (ps : List Piece) → Paged img c ps → Accepted (version_of img) img
      → c.entry.0 < (own_volume img).directory.count → is_stream ((own_volume img).directory.entry c.entry.0) ≡ true
      → c.position ≤ stream_size (own_volume img) c.entry.0 → all (work_fits img) (lent_to ps) ≡ true
      → length (rest_at img (cursor_of c)) ≤ room (lent_to ps) → handed_by ps ≡ rest_at img (cursor_of c)
  paged_whole c ps h acc inside st within fits long = handed_is c ps h ∙ (cursor_reads img (cursor_of c) (lent_to ps) acc inside st within fits).whole long
