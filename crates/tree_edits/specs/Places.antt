-- Entries that can be written, and a field of one.
use Rattle.std.specs.Prelude.{ℕ, ◌+◌, ◌≤◌, ◌<◌, cond, List, eqb, length, get_or}
use Rattle.format.specs.Basics.Bytes.{Bytes}
use Rattle.format.specs.Layout.Entry.{left_field, right_field}
use Rattle.format.specs.Layout.Directory.{entry_place}
use Rattle.format.specs.Layout.Siblings.{Slot}
use Rattle.format.specs.Layout.Volume.{directory_sectors_of}
use Rattle.frame.specs.Unlink.{link_put}
use Rattle.kinds.specs.Sizes.{geometry_of}
use Rattle.kinds.specs.declared.EntryId.{EntryId}
use Rattle.kinds.specs.declared.Link.{Link}
use Rattle.kinds.specs.Links.{link_field}
use Rattle.directory.specs.Listed.{place_of, Placed}
use Rattle.directory.specs.declared.Directory.{Directory}

abbrev pub slot_at : EntryId → Link → Slot
slot_at x f = record { entry = x.0; field = link_field f }

-- where the entries of an image start
abbrev pub places_in : Directory → Bytes → ℕ → ℕ
places_in d img = entry_place (geometry_of d.geometry) (directory_sectors_of (geometry_of d.geometry) img)

-- The heir y, which u is above, gives its old place to its own left side and gets the left side l, if it does not stand right below x.
unfoldable pub place_freed : (ℕ → ℕ) → (x u y own l : ℕ) → Bytes → Bytes
place_freed place x u y own l img =
    let freed = link_put place (record { entry = u; field = right_field }) own img in
    cond (eqb u x) img (link_put place (record { entry = y; field = left_field }) l freed)

-- the entry has a place by the list in the work buffer, and lies in an image of len bytes
pub record EntryPlaced (d : Directory) (work : List ℕ) (x len : ℕ) : Type 0 where
  pub placed : Placed d work x
  pub inside : place_of d work x + 128 ≤ len

-- so do the first n entries that stand in the work buffer
pub record EntriesPlaced (d : Directory) (work : List ℕ) (len n : ℕ) : Type 0 where
  pub room : n ≤ length work
  pub each : (j : ℕ) → j < n → EntryPlaced d work (get_or work j 0) len
