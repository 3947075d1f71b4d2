-- Where a new object goes, and where an object stands that is to go.
use Rattle.std.specs.Prelude.{ℕ, ◌<◌, ◌≡◌, ◌≢◌, true, false, List, length}
use Rattle.format.specs.Basics.Bytes.{Bytes}
use Rattle.format.specs.Layout.Geometry.{Geometry}
use Rattle.format.specs.Layout.Name.{Name, legal_name}
use Rattle.format.specs.Layout.Entry.{NOSTREAM, child_field, is_blank, is_storage, is_stream}
use Rattle.format.specs.Layout.Directory.{Directory, blanks}
use Rattle.format.specs.Layout.Tree.{Forest, empty}
use Rattle.format.specs.Layout.Siblings.{Slot, slot_in, goes_left}
use Rattle.format.specs.Layout.Volume.{volume}
use Rattle.format.specs.Layout.Stream.{stream_size}
use Rattle.format.specs.Calls.Paths.{Path, well_formed, names_before, last_name}
use Rattle.format.specs.Calls.Find.{missing, present, child_named, at as found_at, refused, descend, resolve, resolve_parent}
use Rattle.theory.specs.TreeViews.{child_of}
use Rattle.theory.specs.TreeFind.{reached}
use Rattle.frame.specs.Good.{Good}

-- ---- what an answer 0 says

-- of a create: the names before the last lead to entry s, which is no stream and has the tree b below it; the path leads to nothing
pub record MayCreate (d : Directory) (p : Path) : Type 0 where
  pub s : ℕ
  pub b : Forest
  pub formed : well_formed p ≡ true
  pub parent : resolve_parent d p ≡ found_at s b
  pub led : descend d (reached d 0) (names_before p) ≡ found_at s b
  pub plain : is_stream (d.entry s) ≡ false
  pub number : ℕ
  pub absent : resolve d p ≡ refused number
  pub some : 0 < length (blanks d)

-- of a removal: the path leads to entry x, which is not the root and, as a storage, has nothing below it
pub record MayRemove (d : Directory) (p : Path) : Type 0 where
  pub x : ℕ
  pub b : Forest
  pub formed : well_formed p ≡ true
  pub found : resolve d p ≡ found_at x b
  pub below : is_storage (d.entry x) ≡ true → b ≡ empty
  pub real : x ≢ 0

-- the storage or the root that entry x stands in, to which the path leads
pub record Parent (d : Directory) (p : Path) (x : ℕ) (b : Forest) : Type 0 where
  pub s : ℕ
  pub t : Forest
  pub led : descend d (reached d 0) (names_before p) ≡ found_at s t
  pub plain : is_stream (d.entry s) ≡ false
  pub own : child_named d (last_name p) t ≡ present x b
  pub parent : resolve_parent d p ≡ found_at s t

-- ---- what the edits need to know of a good volume

-- entry x is to become an object of the name n below entry s, to which the names ns lead and which has the tree b below it
pub record Creating (g : Geometry) (img : Bytes) (n : Name) (ns : List Name) (s : ℕ) (b : Forest) (x : ℕ) : Type 0 where
  pub good : Good (volume g img)
  -- the storage or the root below which it goes
  pub led : descend (volume g img).directory (reached (volume g img).directory 0) ns ≡ found_at s b
  pub plain : is_stream ((volume g img).directory.entry s) ≡ false
  pub free : child_named (volume g img).directory n b ≡ missing
  pub legal : legal_name n ≡ true
  -- the entry
  pub inside : x < (volume g img).directory.count
  pub blank : is_blank ((volume g img).directory.entry x) ≡ true
  pub few : (volume g img).directory.count < NOSTREAM
  pub long : (y : ℕ) → y < (volume g img).directory.count → length ((volume g img).directory.entry y) ≡ 128

-- the field that is to name it
abbrev pub hook_at : Directory → Name → ℕ → Forest → Slot
hook_at d n s b = slot_in (goes_left d n) (record { entry = s; field = child_field }) b

-- entry x, with the tree b below it, is the child of the name n of entry s, to which the names ns lead and which has the tree t below it; it is to go
pub record Erasing (g : Geometry) (img : Bytes) (n : Name) (ns : List Name) (s : ℕ) (t : Forest) (x : ℕ) (b : Forest) : Type 0 where
  pub good : Good (volume g img)
  -- the storage or the root below which it stands
  pub led : descend (volume g img).directory (reached (volume g img).directory 0) ns ≡ found_at s t
  pub plain : is_stream ((volume g img).directory.entry s) ≡ false
  pub child : child_named (volume g img).directory n t ≡ present x b
  -- nothing is below it, and it has no units
  pub childless : child_of (volume g img).directory x ≡ NOSTREAM
  pub bare : is_stream ((volume g img).directory.entry x) ≡ true → stream_size (volume g img) x ≡ 0
  pub few : (volume g img).directory.count < NOSTREAM
  pub long : (y : ℕ) → y < (volume g img).directory.count → length ((volume g img).directory.entry y) ≡ 128
