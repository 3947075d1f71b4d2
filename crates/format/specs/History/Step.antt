-- What a call does to the state. Nothing here looks at an image.
use Rattle.std.specs.Prelude.{ℕ, suc, ◌-◌, cond, List, [], ◌∷◌, ◌++◌, map}
use Rattle.format.specs.Basics.Lists.{fit, without}
use Rattle.format.specs.Basics.Bytes.{Bytes, put_bytes}
use Rattle.format.specs.Layout.Name.{Name}
use Rattle.format.specs.Layout.PathOrder.{insert, same_path}
use Rattle.format.specs.Calls.Paths.{Path, names, names_before, last_name}
use Rattle.format.specs.Calls.Create.{NewKind, stream, storage}
use Rattle.format.specs.Calls.Call.{Call, validate, find, read, overwrite, set_length, create, remove, list, read_at}
use Rattle.format.specs.History.Rows.{Row, means}
use Rattle.format.specs.History.Storages.{spelled}
use Rattle.format.specs.History.State.{State, with_rows}
use Rattle.format.specs.History.Accepts.{accepts}

-- ---- what an accepted edit does to a row

unfoldable pub change : Path → (Bytes → Bytes) → Row → Row
change p f r = record { path = r.path; bytes = cond (means p r) (f r.bytes) r.bytes }

-- the bytes with others put over them from an offset on
unfoldable pub put_into : ℕ → Bytes → Bytes → Bytes
put_into offset bytes old = put_bytes old offset bytes

-- ---- what a new object adds

-- the names before the last as their storages spell them, and the last as it is given
unfoldable pub new_path : State → Path → List Name
new_path s path = spelled s.storages (names_before path) ++ (last_name path ∷ [])

abbrev pub row_path : Row → List Name
row_path r = r.path

abbrev pub own_path : List Name → List Name
own_path q = q

-- a stream begins with no bytes
unfoldable pub with_object : State → NewKind → List Name → State
with_object s stream path =
    record {
      setting = s.setting;
      rows = insert row_path (record { path = path; bytes = [] }) s.rows;
      storages = s.storages;
      blank_count = s.blank_count - 1;
    }
with_object s storage path =
    record {
      setting = s.setting;
      rows = s.rows;
      storages = insert own_path path s.storages;
      blank_count = s.blank_count - 1;
    }

-- ---- what a removal takes away: of a path one row or one storage is there

unfoldable pub without_object : State → Path → State
without_object s path =
    record {
      setting = s.setting;
      rows = without (means path) s.rows;
      storages = without (same_path (names path)) s.storages;
      blank_count = suc s.blank_count;
    }

-- ---- one call

-- an overwrite puts its bytes into the row; a change of length cuts the row, or adds zeros
unfoldable pub changed : State → Call → State
changed s (validate work) = s
changed s (find path work) = s
changed s (read path offset out work) = s
changed s (overwrite path offset bytes work) = with_rows s (map (change path (put_into offset bytes)) s.rows)
changed s (set_length path new work) = with_rows s (map (change path (fit new)) s.rows)
changed s (create made path work) = with_object s made (new_path s path)
changed s (remove path work) = without_object s path
changed s (list out work) = s
changed s (read_at entry position out work) = s

unfoldable pub state_step : State → Call → State
state_step s call = cond (accepts s call) (changed s call) s
