-- All writes of a removal together.
use Prim.Native.Nat.{ℕ, ◌≤◌, ◌<◌}
use mathlib.Core.Path.{◌≡◌, sym, ap, ◌∙◌, subst}
use mathlib.Core.Logic.{inl, inr}
use mathlib.Core.List.{List, []}
use native.Mathlib.Decide.{dec_lt}
use native.Mathlib.Omega.{arith}
use lib.ListN.{length, get_or, take}
use lib.Seq.{get_or-take, length-take-le}
use borrow.Author.Tests.{le-ltb}
use Rattle.format.specs.Basics.Lists.{count}
use Rattle.format.specs.Basics.Bytes.{Bytes, part, number, u16at, put_bytes}
use Rattle.format.specs.Layout.Geometry.{Geometry}
use Rattle.format.specs.Layout.Entry.{child_field, name_bytes}
use Rattle.format.specs.Layout.NewEntry.{blank_entry}
use Rattle.format.specs.Layout.Directory.{Directory, directory_of, entry_in, entry_count}
use Rattle.format.specs.Layout.Tree.{Forest, empty, node, entries, siblings}
use Rattle.format.specs.Layout.Siblings.{Slot}
use Rattle.format.specs.Layout.Volume.{volume, directory, directory_sectors_of}
use Rattle.format.specs.Calls.Remove.{entry_removed_at}
use Rattle.theory.specs.TreeViews.{child_of, left_of, right_of, at, whole, Standing}
use Rattle.theory.specs.TreeWays.{plug, onward, slot_entry}
use Rattle.theory.proofs.Counts.{bit_self, count_at}
use Rattle.theory.proofs.Trees.Grow.{count_node}
use Rattle.theory.proofs.Trees.Stand.{entry_stands}
use Rattle.theory.proofs.Trees.Nodes.{shape_sound}
use Rattle.theory.proofs.Trees.Ways.{count_plug, plug_onward, still_or_deep}
use Rattle.theory.proofs.Trees.Faces.{siblings_few}
use Rattle.theory.proofs.Trees.Parts.{part_sound, old_once}
use Rattle.frame.specs.Unlink.{owner_of, unlinked_at, blackened_at, unlinked_image}
use Rattle.frame.proofs.UnlinkedImage.{unlinked_is}
use Rattle.kinds.specs.Sizes.{geometry_of}
use Rattle.header.specs.Sized.{ImageSized}
use Rattle.directory.specs.Listed.{count_of, entries_of, place_of, DirectoryListed}
use Rattle.directory.specs.declared.Directory.{Directory as Where}
use Rattle.directory.proofs.Places.{count_is, place_is}
use Rattle.tree_edits.specs.Siblings.{SiblingTree, SiblingsListed}
use Rattle.tree_edits.specs.Places.{places_in, EntriesPlaced}
use Rattle.tree_edits.specs.Removable.{Removable}
use Rattle.tree_edits.proofs.Unlinks.{entry_placed, placed_kept}
use Rattle.tree_edits.proofs.Blackening.{blackened_places}

-- ---- names

none_short : name_bytes [] ≤ 64
unfolding name_bytes u16at number part
none_short = omega arith

outside_short : (g : Geometry) (img : Bytes) (secs : List ℕ) (y : ℕ) → entry_count g secs ≤ y → name_bytes (entry_in g img secs y) ≤ 64
unfolding entry_in
outside_short g img secs y h = rw (le-ltb y (entry_count g secs) h) none_short

-- ---- where the entry stands

module _ {d : Where} {img : Bytes} {s : ℕ} {h : Slot} {x : ℕ} (r : Removable d img s h x) where
  abbrev e : Directory
  e = entries_of d img

  abbrev g : Geometry
  g = geometry_of d.geometry

  abbrev t : Forest
  t = at e (child_of e s)

  abbrev it : Forest
  it = node (at e (left_of e x)) x empty (at e (right_of e x))

  old_way : whole e ≡ plug (onward r.way r.among) it
  old_way = r.located.old ∙ ap (plug r.way) r.located.place ∙ sym (plug_onward r.way r.among it)

  stands : (y : ℕ) → 0 < count y (entries (plug (onward r.way r.among) it)) → Standing e y
  stands y q = entry_stands e (child_of e 0) (shape_sound e r.rules.shape) y (subst (λ (i : Forest). 0 < count y (entries i)) (sym old_way) q)

  pub it_stands : Standing e x
  it_stands =
      stands x (omega (arith, count_plug x (onward r.way r.among) it, count_node x (at e (left_of e x)) x empty (at e (right_of e x)), bit_self x))

  pub owner_inside : h.entry < e.count
  owner_inside =
      rw r.entry
      (elim (still_or_deep (onward r.way r.among) child_field 0) [
        | inl q ↦ omega (arith, q.entry, it_stands.inside)
        | inr q ↦
            (stands (owner_of r.way r.among)
            (omega (arith, q.outside, count_plug (owner_of r.way r.among) (onward r.way r.among) it))).inside
      ])

  pub parent_inside : s < e.count
  parent_inside =
      rw (sym r.parent)
      (elim (still_or_deep r.way child_field 0) [
        | inl q ↦ omega (arith, q.entry, it_stands.inside)
        | inr q ↦
            (entry_stands e (child_of e 0) (shape_sound e r.rules.shape) (slot_entry r.way 0)
            (subst (λ (i : Forest). 0 < count (slot_entry r.way 0) (entries i)) (sym r.located.old) (omega (arith, q.outside, count_plug (slot_entry r.way 0) r.way t)))
            ).inside
      ])

  pub sibling_tree : SiblingTree e (child_of e s)
  sibling_tree = record {
    tree_sound = part_sound e r.way t r.located.old r.rules;
    once = λ y. omega (arith, siblings_few y t, old_once e r.way t r.located.old r.rules y, count_plug y r.way t);
  }

  -- the siblings that are listed can be written
  pub listed_placed : {work : List ℕ} {n m : ℕ} → DirectoryListed d img work → count_of d ≤ d.list → SiblingsListed e (child_of e s) work n → m ≡ length img
      → EntriesPlaced d work m n
  listed_placed {work} {n} l a q z = record {
    room = room;
    each = λ j b. placed_kept (entry_placed l (get_or work j 0) (inside j b)) z;
  }
    where
      room : n ≤ length work
      room = omega (arith, q.few, count_is l, a, l.room)

      inside : (j : ℕ) → j < n → get_or work j 0 < e.count
      inside j b =
          let y = get_or work j 0 in
          let i : 0 < count y (take n work) =
          subst (λ (k : ℕ). 0 < count k (take n work)) (get_or-take n work j 0 b) (count_at (take n work) j 0 (omega (arith, b, length-take-le n work room))) in
          (entry_stands e (child_of e s) sibling_tree.tree_sound y (omega (arith, i, q.each y, siblings_few y t))).inside

  names : (y : ℕ) → 0 < y → name_bytes (e.entry y) ≤ 64
  unfolding directory directory_of
  names y p =
      elim (dec_lt y e.count) [
        | yes q ↦ (r.names.names y p q).named.most
        | no q ↦ outside_short g img (directory_sectors_of g img) y (omega arith)
      ]

  -- ---- the image

  module _ (z : ImageSized g img) (before : (i : ℕ) → get_or img i 0 < 256) (ys : List ℕ) (each : (y : ℕ) → count y ys ≡ count y (siblings t)) where
    pub removed_whole : (new : Bytes)
        → new ≡ put_bytes (blackened_at (places_in d img) ys (unlinked_at (places_in d img) e h x img)) (places_in d img x) blank_entry
        → ((i : ℕ) → get_or new i 0 < 256) → new ≡ entry_removed_at (volume g img) img s t x
    unfolding directory unlinked_image
    removed_whole new q after =
        q
        ∙ unlinked_is g (record { wide = z.wide; even = z.even }) img r.accepted r.way r.among t (at e (left_of e x)) x (at e (right_of e x)) r.located r.rules
        names before ys each h r.entry r.field (subst (λ (b : Bytes). (i : ℕ) → get_or b i 0 < 256) q after)
        ∙ ap (λ (i : ℕ). entry_removed_at (volume g img) img i t x) r.parent

  -- the same by the places that the code writes at
  module _ (z : ImageSized g img) (before : (i : ℕ) → get_or img i 0 < 256) {work : List ℕ} {n : ℕ} (l : DirectoryListed d img work)
      (q : SiblingsListed e (child_of e s) work n) where
    pub removed_listed : {i₁ i₂ new : Bytes} {p : ℕ} → i₁ ≡ unlinked_at (places_in d img) e h x img → i₂ ≡ blackened_at (place_of d work) (take n work) i₁
        → p ≡ place_of d work x → new ≡ put_bytes i₂ p blank_entry → ((i : ℕ) → get_or new i 0 < 256) → new ≡ entry_removed_at (volume g img) img s t x
    removed_listed {i₁} {i₂} {new} {p} a b c f after =
        removed_whole z before (take n work) q.each new
        (f
        ∙ ap (λ (i : ℕ). put_bytes i₂ i blank_entry) (c ∙ sym (place_is l x it_stands.inside))
        ∙ ap (λ (i : Bytes). put_bytes i (places_in d img x) blank_entry)
        (b ∙ blackened_places (place_of d work) (places_in d img) (take n work) i₁ same ∙ ap (blackened_at (places_in d img) (take n work)) a))
        after
      where
        same : (y : ℕ) → 0 < count y (take n work) → place_of d work y ≡ places_in d img y
        same y i =
            sym (place_is l y (entry_stands e (child_of e s) sibling_tree.tree_sound y (omega (arith, i, q.each y, siblings_few y t))).inside)
