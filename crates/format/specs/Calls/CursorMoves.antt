-- A read at a cursor that is lent and moved in place (W-212).
use Rattle.std.specs.Prelude.{List, ℕ}
use Rattle.format.specs.Basics.Bytes.{Bytes}
use Rattle.format.specs.Calls.Call.{Call, read_at}
use Rattle.format.specs.Calls.Reply.{reply}
use Rattle.format.specs.Calls.Cursor.{Cursor, moved_by}

unfoldable pub cursor_call : Cursor → (out : Bytes) → (work : List ℕ) → Call
cursor_call c out work = read_at c.entry c.position out work

-- it moves by the count; a refusal counts 0, and so leaves it
unfoldable pub cursor_after : Bytes → Cursor → (out : Bytes) → (work : List ℕ) → Cursor
cursor_after img c out work = moved_by (reply img (cursor_call c out work)).count c
