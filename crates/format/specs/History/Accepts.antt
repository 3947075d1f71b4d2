-- Which edits and repairs are accepted, and which calls answer 26, by the state before them. Nothing here looks at an image.
use Rattle.std.specs.Prelude.{ℕ, ◌+◌, Bool, false, not, ◌&&◌, ◌||◌, List, ltb, leb, length}
use Rattle.format.specs.Basics.Lists.{any}
use Rattle.format.specs.Basics.Bytes.{Bytes}
use Rattle.format.specs.Layout.Name.{Name}
use Rattle.format.specs.Layout.PathOrder.{is_below}
use Rattle.format.specs.Calls.Paths.{Path, names, well_formed, names_before}
use Rattle.format.specs.Calls.SetLength.{too_few}
use Rattle.format.specs.Calls.Call.{Call, validate, find, read, overwrite, set_length, create, remove, list, read_at}
use Rattle.format.specs.History.Rows.{Row, has_row, row_length}
use Rattle.format.specs.History.Setting.{Setting, free_sectors, free_minis}
use Rattle.format.specs.History.Storages.{has_storage, is_storage_or_root}
use Rattle.format.specs.History.State.{State}

-- the work buffer is long enough, and the path means a row
unfoldable pub reaches_row : Setting → List Row → Path → List ℕ → Bool
reaches_row s rows path work = leb s.work (length work) && has_row rows path

-- the occasion of 26, by the rows
unfoldable pub lacks_room : Setting → List Row → Path → ℕ → Bool
lacks_room s rows path new = too_few s.geometry (free_sectors s rows) (free_minis s rows) (row_length rows path) new

-- the names before the last are those of a storage or of the root; nothing has the path, and an entry is blank
unfoldable pub may_create : State → Path → Bool
may_create s path =
    well_formed path
    && is_storage_or_root s.storages (names_before path)
    && not (has_row s.rows path)
    && not (is_storage_or_root s.storages (names path))
    && ltb 0 s.blank_count

unfoldable pub row_below : List Name → Row → Bool
row_below ns r = is_below ns r.path

-- a stream or a storage has a path below these names
unfoldable pub some_below : State → List Name → Bool
some_below s ns = any (row_below ns) s.rows || any (is_below ns) s.storages

-- the path is a stream's, or that of a storage with nothing in it
unfoldable pub may_remove : State → Path → Bool
may_remove s path =
    well_formed path
    && (has_row s.rows path || (has_storage s.storages (names path) && not (some_below s (names path))))

-- an edit for which the state gives no occasion of a refusal
unfoldable pub accepts : State → Call → Bool
accepts s (validate work) = false
accepts s (find path work) = false
accepts s (read path offset out work) = false
accepts s (overwrite path offset bytes work) =
    reaches_row s.setting s.rows path work && leb (offset + length bytes) (row_length s.rows path)
accepts s (set_length path new work) =
    reaches_row s.setting s.rows path work && not (lacks_room s.setting s.rows path new)
accepts s (create made path work) = leb s.setting.work (length work) && may_create s path
accepts s (remove path work) = leb s.setting.work (length work) && may_remove s path
accepts s (list out work) = false
accepts s (read_at entry position out work) = false

-- a repair: its buffers are long enough
unfoldable pub accepts_repair : State → (spare : Bytes) → (work : List ℕ) → Bool
accepts_repair s spare work = leb s.setting.work (length work) && leb s.setting.bytes (length spare)

-- a change of length with no occasion of a lower number, but of 26
unfoldable pub answers26 : State → Call → Bool
answers26 s (validate work) = false
answers26 s (find path work) = false
answers26 s (read path offset out work) = false
answers26 s (overwrite path offset bytes work) = false
answers26 s (set_length path new work) =
    reaches_row s.setting s.rows path work && lacks_room s.setting s.rows path new
answers26 s (create made path work) = false
answers26 s (remove path work) = false
answers26 s (list out work) = false
answers26 s (read_at entry position out work) = false
