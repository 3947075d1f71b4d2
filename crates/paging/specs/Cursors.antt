-- The cursor of the definitions that a cursor of the code stands for.
use Rattle.format.specs.Calls.Cursor.{Cursor as Place}
use Rattle.paging.specs.declared.cursor.Cursor.{Cursor}

abbrev pub cursor_of : Cursor → Place
cursor_of c = record { entry = c.entry.0; position = c.position }
