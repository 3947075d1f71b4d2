-- Where a new object is inserted, and what its creation leaves in the image.
use Rattle.std.specs.Prelude.{ℕ, ◌+◌, get_or}
use Rattle.format.specs.Basics.Bytes.{Bytes, put_bytes, put32}
use Rattle.format.specs.Layout.Chain.{END}
use Rattle.format.specs.Layout.Name.{Name}
use Rattle.format.specs.Layout.Entry.{child_field, field_byte}
use Rattle.format.specs.Layout.NewEntry.{new_entry}
use Rattle.format.specs.Layout.Directory.{Directory, blanks}
use Rattle.format.specs.Layout.Siblings.{Slot, slot_in, goes_left}
use Rattle.format.specs.Layout.Volume.{Volume}
use Rattle.format.specs.Calls.Paths.{Path, last_name}
use Rattle.format.specs.Calls.Find.{Found, entry_of, resolve_parent, below_of}

-- ---- what can be created

pub data NewKind : Type 0 where
  stream : NewKind
  storage : NewKind

unfoldable pub kind_for : NewKind → ℕ
kind_for stream = 2
kind_for storage = 1

-- of a stream of no bytes, or of a storage
unfoldable pub start_for : NewKind → ℕ
start_for stream = END
start_for storage = 0

-- ---- the image

unfoldable pub lowest_blank : Directory → ℕ
lowest_blank d = get_or (blanks d) 0 0

-- the field that is to name the new entry
unfoldable pub slot_for : Directory → Name → Found → Slot
slot_for d n parent = slot_in (goes_left d n) (record { entry = entry_of parent; field = child_field }) (below_of parent)

-- entry x becomes an object of that name, and the slot names it
unfoldable pub entry_created : Volume → Bytes → NewKind → Name → Slot → ℕ → Bytes
entry_created v img o n h x =
    put32 (put_bytes img (v.entry_place x) (new_entry n (kind_for o) (start_for o) 0)) (v.entry_place h.entry + field_byte h.field) x

-- the lowest blank entry becomes the object's
unfoldable pub object_created : Volume → Bytes → NewKind → Path → Bytes
object_created v img o p =
    let d = v.directory in
    entry_created v img o (last_name p) (slot_for d (last_name p) (resolve_parent d p)) (lowest_blank d)
