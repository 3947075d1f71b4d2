-- An edit of the directory alone: an entry becomes an object or a blank, and others get new links and colours.
use Rattle.std.specs.Prelude.{ℕ, ◌≤◌, ◌<◌, ◌≡◌, ◌≢◌, true, ◌∷◌, ◌++◌, length, get_or}
use Rattle.std.proofs.lemmas.List.Edits.{sets}
use Rattle.format.specs.Basics.Lists.{count}
use Rattle.format.specs.Basics.Bytes.{Bytes, le32}
use Rattle.format.specs.Layout.Geometry.{Geometry}
use Rattle.format.specs.Layout.Space.{block}
use Rattle.format.specs.Layout.Name.{Name}
use Rattle.format.specs.Layout.Entry.{child_field, field_byte, black, is_stream, start}
use Rattle.format.specs.Layout.NewEntry.{new_entry, blank_entry}
use Rattle.format.specs.Layout.Tree.{Forest, empty, broken, node, siblings}
use Rattle.format.specs.Layout.Siblings.{Slot, top, without_node}
use Rattle.format.specs.Layout.Volume.{Volume, volume, system_sectors}
use Rattle.format.specs.Layout.Stream.{stream_size}
use Rattle.format.specs.Layout.Chain.{END}
use Rattle.format.specs.Rules.Verdict.{Accepted}
use Rattle.format.specs.Calls.Create.{NewKind, kind_for, start_for}
use Rattle.frame.specs.Edits.{Preserved}

-- the entry b is a in all but colour and links
pub record SameBody (a b : Bytes) : Type 0 where
  pub size : length b ≡ length a
  pub front : (i : ℕ) → i < 67 → get_or b i 0 ≡ get_or a i 0
  pub back : (i : ℕ) → 80 ≤ i → get_or b i 0 ≡ get_or a i 0

-- only the directory is written: all else reads as before
pub record IsRedrawn (g : Geometry) (img img' : Bytes) : Type 0 where
  pub kept : Preserved g img img'
  pub sector_cells : (u : ℕ) → (volume g img').sectors.cell u ≡ (volume g img).sectors.cell u
  pub mini_cells : (u : ℕ) → (volume g img').minis.cell u ≡ (volume g img).minis.cell u
  pub sector_bytes : (u : ℕ) → count u (system_sectors (volume g img)) ≡ 0
      → block (volume g img').sectors img' u ≡ block (volume g img).sectors img u
  pub mini_bytes : (u : ℕ) → u < (volume g img).minis.limit → block (volume g img').minis img' u ≡ block (volume g img).minis img u

-- ---- a new object

pub record MayAdd (g : Geometry) (img : Bytes) (h : Slot) (x : ℕ) : Type 0 where
  pub accepted : Accepted g img
  pub inside : x < (volume g img).directory.count
  pub hook_inside : h.entry < (volume g img).directory.count
  pub above : 0 < x
  pub other : h.entry ≢ x

pub record IsAdded (g : Geometry) (img : Bytes) (made : NewKind) (n : Name) (h : Slot) (x : ℕ) (img' : Bytes) : Type 0 where
  pub redrawn : IsRedrawn g img img'
  pub new : (volume g img').directory.entry x ≡ new_entry n (kind_for made) (start_for made) 0
  pub hooked : (volume g img').directory.entry h.entry ≡ sets ((volume g img).directory.entry h.entry) (field_byte h.field) (le32 x)
  pub others : (y : ℕ) → y ≢ x → y ≢ h.entry → (volume g img').directory.entry y ≡ (volume g img).directory.entry y

-- ---- an object less

-- each sibling's colour, left and right, written into its entry
abbrev pub Penned : (ℕ → Bytes) → (ℕ → Bytes) → Forest → Type 0
Penned a b empty = Unit {0}
Penned a b broken = Unit {0}
Penned a b (node l e t r) = (b e ≡ sets (a e) 67 (black ∷ (le32 (top l) ++ le32 (top r)))) × Penned a b l × Penned a b r

pub record MayErase (g : Geometry) (img : Bytes) (s : ℕ) (t : Forest) (x : ℕ) : Type 0 where
  pub accepted : Accepted g img
  pub inside : x < (volume g img).directory.count
  pub slot_inside : s < (volume g img).directory.count
  pub above : 0 < x
  pub other : s ≢ x
  -- the siblings that stay
  pub once : (y : ℕ) → count y (siblings (without_node x t)) ≤ 1
  pub within : (y : ℕ) → 0 < count y (siblings (without_node x t)) → (0 < y) × (y < (volume g img).directory.count)
  pub gone : count x (siblings (without_node x t)) ≡ 0
  pub apart : count s (siblings (without_node x t)) ≡ 0

pub record IsErased (g : Geometry) (img : Bytes) (s : ℕ) (t : Forest) (x : ℕ) (img' : Bytes) : Type 0 where
  pub redrawn : IsRedrawn g img img'
  pub blank : (volume g img').directory.entry x ≡ blank_entry
  pub slot : (volume g img').directory.entry s ≡ sets ((volume g img).directory.entry s) (field_byte child_field) (le32 (top (without_node x t)))
  pub penned : Penned (volume g img).directory.entry (volume g img').directory.entry (without_node x t)
  pub others : (y : ℕ) → y ≢ x → y ≢ s → count y (siblings (without_node x t)) ≡ 0
      → (volume g img').directory.entry y ≡ (volume g img).directory.entry y

-- ---- what becomes of entry i as a stream: it is what it was, or it has no unit before and after
pub record SameStream (v w : Volume) (i : ℕ) : Type 0 where
  pub stream : is_stream (w.directory.entry i) ≡ is_stream (v.directory.entry i)
  pub start : start (w.directory.entry i) ≡ start (v.directory.entry i)
  pub size : stream_size w i ≡ stream_size v i

pub record NoUnits (v w : Volume) (i : ℕ) : Type 0 where
  pub before : is_stream (v.directory.entry i) ≡ true → stream_size v i ≡ 0
  pub after : is_stream (w.directory.entry i) ≡ true → (stream_size w i ≡ 0) × (start (w.directory.entry i) ≡ END)
