-- The rows of demand 3 are gathered from the objects: so with one object more there is one row more, at the place of its path, or none.
use Prim.Native.Nat.{ℕ, ◌<◌}
use mathlib.Core.Path.{◌≡◌, refl, sym, ap, ◌∙◌}
use mathlib.Core.Logic.{◌≢◌, inl, inr}
use mathlib.Core.Bool.{Bool, true, false}
use mathlib.Core.List.{List, [], ◌∷◌, ◌++◌, map, append_assoc}
use Rattle.format.specs.Basics.Lists.{count, without}
use Rattle.format.specs.Basics.Bytes.{Bytes}
use Rattle.format.specs.Layout.Name.{Name}
use Rattle.format.specs.Layout.Entry.{name, is_stream}
use Rattle.format.specs.Layout.Directory.{Directory}
use Rattle.format.specs.Layout.Tree.{Forest, empty, broken, node, entries}
use Rattle.format.specs.Layout.Volume.{Volume}
use Rattle.format.specs.Layout.Stream.{contents}
use Rattle.format.specs.Layout.PathOrder.{insert, same_path}
use Rattle.format.specs.History.Rows.{rows_in}
use Rattle.format.specs.History.Step.{row_path}
use Rattle.format.specs.Claims.PathOrder.{rising}
use Rattle.theory.specs.TreeViews.{whole}
use Rattle.theory.specs.TreeOrder.{Rules}
use Rattle.theory.specs.TreeObjects.{Object, prefixed, single, objects, gathered, OneMore, Searched, row_of, rows_from, row_named, paths_where}
use Rattle.theory.proofs.Trees.Insert.{either}
use Rattle.theory.proofs.Trees.Objects.{gathered_append}
use Rattle.theory.proofs.Trees.Rising.{objects_rising, rising_where}
use Rattle.theory.proofs.Trees.Gathered.{one_none, one_placed, one_dropped}

-- ---- one volume

module _ (v : Volume) (img : Bytes) where
  rows_prefixed : (before p : List Name) (os : List Object) → rows_from v img before (map (prefixed p) os) ≡ rows_from v img (before ++ p) os
  unfolding gathered row_of prefixed
  rows_prefixed before p [] = refl
  rows_prefixed before p (o ∷ os) = rw (rows_prefixed before p os, append_assoc before p o.path)

  pub rows_objects : (before : List Name) (t : Forest) → rows_in v img before t ≡ rows_from v img before (objects v.directory t)
  unfolding rows_in objects gathered row_of
  rows_objects before empty = refl
  rows_objects before broken = refl
  rows_objects before (node l e b r) =
      let m = name (v.directory.entry e) in
      let d = v.directory in
      let k = map (prefixed (m ∷ [])) (objects d b) in
      rw (
        rows_objects before l,
        rows_objects (before ++ (m ∷ [])) b,
        rows_objects before r,
        gathered_append (row_of v img before) (objects d l) (single d e ∷ (k ++ objects d r)),
        gathered_append (row_of v img before) k (objects d r),
        rows_prefixed before (m ∷ []) (objects d b),
      )
      (simp append_assoc)

  pub row_stream : (o : Object) → is_stream (v.directory.entry o.entry) ≡ true
      → row_of v img [] o ≡ record { path = o.path; bytes = contents v img o.entry } ∷ []
  unfolding row_of
  row_stream o h = rw h

  pub row_none : (o : Object) → is_stream (v.directory.entry o.entry) ≡ false → row_of v img [] o ≡ []
  unfolding row_of
  row_none o h = rw h

  stream_object : Object → Bool
  stream_object o = is_stream (v.directory.entry o.entry)

  row_paths : (os : List Object) → map row_path (rows_from v img [] os) ≡ paths_where stream_object os
  unfolding gathered stream_object
  row_paths [] = refl
  row_paths (o ∷ os) =
      elim (either (is_stream (v.directory.entry o.entry))) [
        | inl s ↦ rw (row_stream o s, s, row_paths os)
        | inr s ↦ rw (row_none o s, s, row_paths os)
      ]

  rows_rising : Rules v.directory → rising (map row_path (rows_from v img [] (objects v.directory (whole v.directory)))) ≡ true
  rows_rising r =
      let d = v.directory in
      ap rising (row_paths (objects d (whole d))) ∙ rising_where stream_object (objects d (whole d)) (objects_rising d (whole d) r.sorted)

  -- a row that names do not mean stays, one that they mean goes
  row_kept : (ns : List Name) (o : Object) → same_path ns o.path ≡ false → without (row_named ns) (row_of v img [] o) ≡ row_of v img [] o
  unfolding without
  row_kept ns o h =
      elim (either (is_stream (v.directory.entry o.entry))) [ inl s ↦ rw (row_stream o s, h) | inr s ↦ rw (row_none o s) ]

  row_gone : (ns : List Name) (o : Object) → same_path ns o.path ≡ true → without (row_named ns) (row_of v img [] o) ≡ []
  unfolding without
  row_gone ns o h =
      elim (either (is_stream (v.directory.entry o.entry))) [ inl s ↦ rw (row_stream o s, h) | inr s ↦ rw (row_none o s) ]

-- ---- two volumes

-- entry y is a stream in both or in neither, with the same bytes
pub record SameRow (v v₂ : Volume) (img img₂ : Bytes) (y : ℕ) : Type 0 where
  pub stream : is_stream (v₂.directory.entry y) ≡ is_stream (v.directory.entry y)
  pub bytes : is_stream (v.directory.entry y) ≡ true → contents v₂ img₂ y ≡ contents v img y

module _ (v v₂ : Volume) (img img₂ : Bytes) (new : Object) (m : OneMore v.directory v₂.directory new) (r₂ : Rules v₂.directory)
    (same : (y : ℕ) → y ≢ new.entry → 0 < count y (entries (whole v.directory)) → SameRow v v₂ img img₂ y) where
  abbrev d : Directory
  d = v.directory

  abbrev d₂ : Directory
  d₂ = v₂.directory

  row_same : (o : Object) → o.entry ≢ new.entry → 0 < count o.entry (entries (whole d)) → row_of v₂ img₂ [] o ≡ row_of v img [] o
  unfolding row_of
  row_same o q c =
      let k = same o.entry q c in
      elim (either (is_stream (d.entry o.entry))) [ inl s ↦ rw (k.stream, s, k.bytes s) | inr s ↦ rw (k.stream, s) ]

  -- a storage has no row
  pub storage_rows : is_stream (d₂.entry new.entry) ≡ false → rows_in v₂ img₂ [] (whole d₂) ≡ rows_in v img [] (whole d)
  storage_rows h =
      rows_objects v₂ img₂ [] (whole d₂) ∙ one_none d d₂ (row_of v img []) (row_of v₂ img₂ []) new m r₂ row_same (row_none v₂ img₂ new h) ∙ sym (rows_objects v img [] (whole d))

  -- a stream's row stands at the place of its path
  pub stream_rows : is_stream (d₂.entry new.entry) ≡ true
      → rows_in v₂ img₂ [] (whole d₂) ≡ insert row_path (record { path = new.path; bytes = contents v₂ img₂ new.entry }) (rows_in v img [] (whole d))
  stream_rows h =
      rows_objects v₂ img₂ [] (whole d₂)
      ∙ one_placed d d₂ (row_of v img []) (row_of v₂ img₂ []) new m r₂ row_same row_path _ (row_stream v₂ img₂ new h) (rows_rising v₂ img₂ r₂)
      ∙ ap (insert row_path (record { path = new.path; bytes = contents v₂ img₂ new.entry })) (sym (rows_objects v img [] (whole d)))

  -- what a removal does to the rows
  pub rows_without : Searched d₂ → (ns : List Name) → same_path ns new.path ≡ true → rows_in v img [] (whole d) ≡ without (row_named ns) (rows_in v₂ img₂ [] (whole d₂))
  rows_without s₂ ns h =
      rows_objects v img [] (whole d)
      ∙ one_dropped d d₂ (row_of v img []) (row_of v₂ img₂ []) new m r₂ row_same s₂ (row_named ns) ns h (row_kept v img ns) (row_gone v₂ img₂ ns new h)
      ∙ ap (without (row_named ns)) (sym (rows_objects v₂ img₂ [] (whole d₂)))
