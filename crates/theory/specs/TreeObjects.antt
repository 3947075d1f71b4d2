-- The objects of a forest with their paths, in listing order, and those that a path means.
use Rattle.std.specs.Prelude.{ℕ, ◌<◌, ◌≡◌, Bool, true, false, not, cond, ◌||◌, List, [], ◌∷◌, ◌++◌, map}
use Rattle.format.specs.Basics.Bytes.{Bytes}
use Rattle.format.specs.Layout.Name.{Name}
use Rattle.format.specs.Layout.Entry.{NOSTREAM, name, is_stream, child_field, is_storage}
use Rattle.format.specs.Layout.Directory.{Directory}
use Rattle.format.specs.Layout.Tree.{Forest, empty, broken, node, entries, is_empty}
use Rattle.format.specs.Layout.Volume.{Volume}
use Rattle.format.specs.Layout.Stream.{contents}
use Rattle.format.specs.Layout.PathOrder.{same_path, is_below}
use Rattle.format.specs.Calls.Find.{Found, at, refused}
use Rattle.format.specs.History.Rows.{Row}
use Rattle.theory.specs.TreeViews.{rows, child_of, whole}
use Rattle.theory.specs.TreeOrder.{Rules}
use Rattle.theory.specs.TreeWays.{Way, here, into_left, into_child, into_right, plug, slot_field, slot_entry}

pub record Object : Type 0 where
  pub path : List Name
  pub entry : ℕ

abbrev pub entry_of : Object → ℕ
entry_of o = o.entry

abbrev pub object_path : Object → List Name
object_path o = o.path

-- an object with names put before its path
unfoldable pub prefixed : List Name → Object → Object
prefixed p o = record { path = p ++ o.path; entry = o.entry }

-- an object with one name
abbrev pub single : Directory → ℕ → Object
single d e = record { path = name (d.entry e) ∷ []; entry = e }

-- what is below an entry has its name first
unfoldable pub objects : Directory → Forest → List Object
objects d empty = []
objects d broken = []
objects d (node l e b r) = objects d l ++ (single d e ∷ (map (prefixed (name (d.entry e) ∷ [])) (objects d b) ++ objects d r))

-- what f gives for each object, laid end to end
unfoldable pub gathered : {A : Type 0} → (Object → List A) → List Object → List A
gathered f [] = []
gathered f (o ∷ os) = f o ++ gathered f os

-- the entries of the objects that names mean
abbrev pub meant : List Name → List Object → List ℕ
meant ns os = gathered (λ (o : Object). cond (same_path ns o.path) (o.entry ∷ []) []) os

-- the entry that is found, if one is
unfoldable pub found_entries : Found → List ℕ
found_entries (at e b) = e ∷ []
found_entries (refused a) = []

-- a stream has nothing below it
unfoldable pub streams_bare : Directory → Forest → ℕ → Forest → Forest → Bool
streams_bare d l e b r = not (is_stream (d.entry e)) || is_empty b

-- ---- along a way

-- the names of the storages that a way goes through
unfoldable pub way_names : Directory → Way → List Name
way_names d here = []
way_names d (into_left w e b r) = way_names d w
way_names d (into_child l e w r) = name (d.entry e) ∷ way_names d w
way_names d (into_right l e b w) = way_names d w

-- the objects before the tree at the way's end, and those after it
unfoldable pub objects_before : Directory → Way → List Object
objects_before d here = []
objects_before d (into_left w e b r) = objects_before d w
objects_before d (into_child l e w r) = objects d l ++ (single d e ∷ map (prefixed (name (d.entry e) ∷ [])) (objects_before d w))
objects_before d (into_right l e b w) = objects d l ++ (single d e ∷ (map (prefixed (name (d.entry e) ∷ [])) (objects d b) ++ objects_before d w))

unfoldable pub objects_after : Directory → Way → List Object
objects_after d here = []
objects_after d (into_left w e b r) = objects_after d w ++ (single d e ∷ (map (prefixed (name (d.entry e) ∷ [])) (objects d b) ++ objects d r))
objects_after d (into_child l e w r) = map (prefixed (name (d.entry e) ∷ [])) (objects_after d w) ++ objects d r
objects_after d (into_right l e b w) = objects_after d w

-- d₂ has one object more than d, at one place of the listing, and every other has its path in both
pub record OneMore (d d₂ : Directory) (new : Object) : Type 0 where
  pub before : List Object
  pub after : List Object
  pub less_objects : objects d (whole d) ≡ before ++ after
  pub more_objects : objects d₂ (whole d₂) ≡ before ++ (new ∷ after)

-- The names ns lead from the tree t, which the child field of entry x names, to entry s with the tree b below it: the way to b ends at the
-- child field of s, and it goes through storages of these names.
pub record PathWay (d : Directory) (x : ℕ) (t : Forest) (ns : List Name) (s : ℕ) (b : Forest) : Type 0 where
  pub way : Way
  pub tree : t ≡ plug way b
  pub ends : slot_field way child_field ≡ child_field
  pub owner : slot_entry way x ≡ s
  pub spelled : same_path ns (way_names d way) ≡ true

-- what finding by names needs to know of a directory
pub record Searched (d : Directory) : Type 0 where
  pub rules : Rules d
  -- a stream has no child, and the root is none
  pub leaves : (x : ℕ) → x < rows d → is_stream (d.entry x) ≡ true → child_of d x ≡ NOSTREAM
  pub root_plain_lem : is_stream (d.entry 0) ≡ false

-- ---- the rows of demand 3 by the objects

unfoldable pub row_of : Volume → Bytes → List Name → Object → List Row
row_of v img before o =
    cond (is_stream (v.directory.entry o.entry)) (record { path = before ++ o.path; bytes = contents v img o.entry } ∷ []) []

abbrev pub rows_from : Volume → Bytes → List Name → List Object → List Row
rows_from v img before os = gathered (row_of v img before) os

-- names mean the row
abbrev pub row_named : List Name → Row → Bool
row_named ns r = same_path ns r.path

-- ---- what stands below a path

-- the entries of the objects whose paths do
abbrev pub beneath : List Name → List Object → List ℕ
beneath ns os = gathered (λ (o : Object). cond (is_below ns o.path) (o.entry ∷ []) []) os

-- the entries of the tree below what is found
unfoldable pub found_below : Found → List ℕ
found_below (at e b) = entries b
found_below (refused a) = []

-- ---- the storages of demand 3 by the objects

unfoldable pub storage_of : Directory → List Name → Object → List (List Name)
storage_of d before o = cond (is_storage (d.entry o.entry)) ((before ++ o.path) ∷ []) []

abbrev pub storages_from : Directory → List Name → List Object → List (List Name)
storages_from d before os = gathered (storage_of d before) os

-- the paths of the objects that pass a test
abbrev pub paths_where : (Object → Bool) → List Object → List (List Name)
paths_where p os = gathered (λ (o : Object). cond (p o) (o.path ∷ []) []) os

-- one of the entries is a storage
unfoldable pub some_storage : Directory → List ℕ → Bool
some_storage d [] = false
some_storage d (e ∷ es) = is_storage (d.entry e) || some_storage d es
