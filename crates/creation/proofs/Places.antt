-- The entries of an opened volume by their numbers: their places, and what the search below one of them asks.
use Prim.Native.Nat.{ℕ, ◌+◌, ◌≤◌, ◌<◌}
use mathlib.Core.Path.{◌≡◌, sym, ◌∙◌, ap, subst}
use mathlib.Core.List.{List}
use lib.ListN.{length}
use Rattle.format.specs.Basics.Bytes.{Bytes}
use Rattle.format.specs.Layout.Directory.{entry_place}
use Rattle.format.specs.Layout.Volume.{volume, directory_sectors_of}
use Rattle.theory.specs.TreeViews.{child_of}
use Rattle.theory.specs.TreeFind.{Searchable}
use Rattle.kinds.specs.Sizes.{geometry_of}
use Rattle.directory.specs.Listed.{entries_of, place_of, DirectoryListed, Placed, Ruled}
use Rattle.directory.proofs.Places.{placed, place_inside, place_is}
use Rattle.entry_rules.proofs.Ruled.{ruled}
use Rattle.paths.proofs.Steps.{searchable_below}
use Rattle.volume.specs.declared.Volume.{Volume as Opened}
use Rattle.spaces.specs.Spaces.{volume_in}
use Rattle.queries.specs.Inside.{Open}
use Rattle.queries.proofs.Finds.{same_entries, find_asks}

module _ {v : Opened} {img : Bytes} {w : List ℕ} (o : Open v img w) (x : ℕ) (h : x < (volume_in v img).directory.count) where
  listed : DirectoryListed v.directory img w
  listed = (find_asks o).0

  pub entry_inside : x < (entries_of v.directory img).count
  entry_inside = subst (λ d. x < d.count) (sym (same_entries o)) h

  pub entry_placed : Placed v.directory w x
  entry_placed = placed listed x entry_inside

  pub entry_room : place_of v.directory w x + 128 ≤ length img
  entry_room = place_inside listed x entry_inside

  pub entry_place_lem : place_of v.directory w x ≡ (volume_in v img).entry_place x
  unfolding volume
  entry_place_lem =
      sym (place_is listed x entry_inside)
      ∙ ap (λ k. entry_place (geometry_of k) (directory_sectors_of (geometry_of k) img) x) o.ready.lists.mini.same

  -- what the search for a place among its children asks
  pub slot_asks : DirectoryListed v.directory img w
      × (Ruled (entries_of v.directory img)
      × ((x < (entries_of v.directory img).count) × Searchable (entries_of v.directory img) (child_of (entries_of v.directory img) x)))
  slot_asks =
      let a = find_asks o in
      (listed, (ruled _ a.1.0, (entry_inside, searchable_below _ a.1.0 a.1.1 x entry_inside)))
