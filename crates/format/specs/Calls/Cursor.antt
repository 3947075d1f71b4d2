-- A cursor: an entry number and a position in that entry's stream, which reads move (W-212).
use Rattle.std.specs.Prelude.{ℕ, ◌+◌, cond, ◌&&◌, ltb}
use Rattle.format.specs.Layout.Entry.{is_stream}
use Rattle.format.specs.Layout.Volume.{Volume}

pub record Cursor : Type 0 where
  pub entry : ℕ
  pub position : ℕ

-- 33 where the entry number is past the directory, or of an entry that is no stream: a blank one, a storage, the root
unfoldable pub stream_answer : Volume → ℕ → ℕ
stream_answer v e = cond (ltb e v.directory.count && is_stream (v.directory.entry e)) 0 33

-- n bytes further on
unfoldable pub moved_by : ℕ → Cursor → Cursor
moved_by n c = record { entry = c.entry; position = c.position + n }
