-- What a path finds, by the state of an accepted image: a stream by the rows, a storage or the root by the storages' paths.
use Prim.Native.Nat.{◌<◌}
use mathlib.Core.Path.{◌≡◌, refl, sym, ap, ◌∙◌}
use mathlib.Core.Bool.{Bool, true, false, not, or-false}
use mathlib.Core.List.{List, [], ◌∷◌}
use Rattle.format.specs.Basics.Bytes.{Bytes}
use Rattle.format.specs.Layout.Geometry.{Geometry}
use Rattle.format.specs.Layout.Name.{Name}
use Rattle.format.specs.Layout.Entry.{is_stream}
use Rattle.format.specs.Layout.Directory.{Directory}
use Rattle.format.specs.Layout.Tree.{forest}
use Rattle.format.specs.Layout.Volume.{Volume, volume, directory}
use Rattle.format.specs.Rules.Verdict.{Accepted}
use Rattle.format.specs.Calls.Paths.{Path}
use Rattle.format.specs.Calls.Find.{Found, at as found_at, refused, resolve, resolve_stream, need_stream, descend}
use Rattle.format.specs.History.Rows.{rows_of, rows_in, has_row}
use Rattle.format.specs.History.Storages.{storages_in, storages_of, has_storage, is_storage_or_root}
use Rattle.theory.specs.TreeViews.{whole}
use Rattle.theory.specs.TreeFind.{reached}
use Rattle.theory.specs.TreeObjects.{objects, meant, Searched, found_entries, some_storage}
use Rattle.theory.proofs.Trees.Found.{found_some, found_object}
use Rattle.theory.proofs.Trees.Storages.{storages_objects, storage_meant}
use Rattle.frame.specs.Good.{Good}
use Rattle.frame.proofs.Good.{accepted_good}
use Rattle.frame.proofs.EntryFacts.{object_kinds, root_plain_lem, good_searched}
use Rattle.history.proofs.Filled.{Sized}
use Rattle.history.proofs.Finding.{refused_has_no_row, has_row_lem}

-- a stream is found; a storage or the root is
unfoldable pub stream_found : Directory → Found → Bool
stream_found d (found_at e b) = is_stream (d.entry e)
stream_found d (refused a) = false

unfoldable pub place_found : Directory → Found → Bool
place_found d (found_at e b) = not (is_stream (d.entry e))
place_found d (refused a) = false

module _ (d : Directory) (s : Searched d) where
  pub storage_found : (ns : List Name) → has_storage (storages_in d [] (whole d)) ns ≡ some_storage d (meant ns (objects d (whole d)))
  storage_found ns = ap (λ (q : List (List Name)). has_storage q ns) (storages_objects d [] (whole d)) ∙ storage_meant d ns (objects d (whole d))

  place_is : (ns : List Name) (f : Found) → descend d (reached d 0) ns ≡ f → is_storage_or_root (storages_in d [] (whole d)) ns ≡ place_found d f
  unfolding is_storage_or_root descend place_found found_entries some_storage
  place_is [] f h = ap not (sym s.root_plain_lem) ∙ ap (place_found d) h
  place_is (n ∷ ns) (found_at e b) h =
      storage_found (n ∷ ns) ∙ ap (some_storage d) (sym (found_some d s n ns) ∙ ap found_entries h)
      ∙ rw (object_kinds (d.entry e) (found_object d s n ns e b h).0) (or-false (not (is_stream (d.entry e))))
  place_is (n ∷ ns) (refused a) h = storage_found (n ∷ ns) ∙ ap (some_storage d) (sym (found_some d s n ns) ∙ ap found_entries h)

module _ (g : Geometry) (pos : 0 < g.sector_bytes) (img : Bytes) (acc : Accepted g img) (sized : Sized (volume g img) img) where
  abbrev v : Volume
  v = volume g img

  abbrev d : Directory
  d = (volume g img).directory

  abbrev good : Good v
  good = accepted_good g img pos acc

  pub row_found : (p : Path) (r : Found) → resolve d p ≡ r → has_row (rows_of g img) p ≡ stream_found d r
  unfolding rows_of resolve_stream need_stream stream_found
  row_found p (found_at e b) h = go (is_stream (d.entry e)) refl
    where
      at_stream : is_stream (d.entry e) ≡ true → resolve_stream d p ≡ found_at e b
      at_stream st = rw (h, st)

      go : (t : Bool) → is_stream (d.entry e) ≡ t → has_row (rows_in v img [] (forest d)) p ≡ t
      go true st = has_row_lem v img good sized (root_plain_lem g img good) p (at_stream st)
      go false st = refused_has_no_row v img good sized (root_plain_lem g img good) p 23 (rw (h, st))
  row_found p (refused a) h = refused_has_no_row v img good sized (root_plain_lem g img good) p a (rw h)

  pub storages_are : storages_of g img ≡ storages_in d [] (whole d)
  unfolding storages_of forest volume
  storages_are = refl

  pub place_found_lem : (ns : List Name) (f : Found) → descend d (reached d 0) ns ≡ f → is_storage_or_root (storages_of g img) ns ≡ place_found d f
  place_found_lem ns f h = ap (λ (q : List (List Name)). is_storage_or_root q ns) storages_are ∙ place_is d (good_searched g img good) ns f h
