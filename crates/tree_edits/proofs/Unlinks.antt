-- The links of a removal, at the places of the entries.
use Prim.Native.Nat.{ℕ, ◌≤◌, ◌<◌}
use mathlib.Core.Path.{◌≡◌, refl, sym, ap, ◌∙◌, subst, subst₂}
use mathlib.Core.Logic.{◌≢◌}
use mathlib.Core.List.{List}
use native.Mathlib.Omega.{arith}
use lib.ListN.{length}
use borrow.Author.Tests.{eq-eqb, ne_eqb}
use Rattle.format.specs.Basics.Bytes.{Bytes}
use Rattle.format.specs.Layout.Entry.{NOSTREAM}
use Rattle.format.specs.Layout.Directory.{Directory}
use Rattle.format.specs.Layout.Siblings.{Slot}
use Rattle.theory.specs.TreeViews.{left_of, right_of}
use Rattle.theory.specs.TreeHeir.{HeirIs}
use Rattle.frame.specs.Unlink.{link_put, heir_put, heir_in, unlinked_at}
use Rattle.tables.specs.Work.{Wrote}
use Rattle.directory.specs.Listed.{count_of, entries_of, place_of, DirectoryListed}
use Rattle.directory.specs.declared.Directory.{Directory as Where}
use Rattle.directory.proofs.Places.{placed, place_inside, place_is, directory_kept}
use Rattle.tree_edits.specs.Places.{places_in, EntryPlaced}

-- an entry of the directory can be written
pub entry_placed : {d : Where} {img : Bytes} {work : List ℕ} → DirectoryListed d img work → (x : ℕ) → x < (entries_of d img).count → EntryPlaced d work x (length img)
entry_placed l x h = record { placed = placed l x h; inside = place_inside l x h }

-- ---- other places that are the same for the entries written

pub link_places : (p q : ℕ → ℕ) (h : Slot) (y : ℕ) (img : Bytes) → p h.entry ≡ q h.entry → link_put p h y img ≡ link_put q h y img
unfolding link_put
link_places p q h y img e = rw e

pub heir_places : (p q : ℕ → ℕ) (h : Slot) (x u y own l r : ℕ) (img : Bytes) → p h.entry ≡ q h.entry → p u ≡ q u → p y ≡ q y
    → heir_put p h x u y own l r img ≡ heir_put q h x u y own l r img
unfolding heir_put link_put
heir_places p q h x u y own l r img e f g = rw (e, f, g)

-- ---- by the fields of the entry

module _ (p : ℕ → ℕ) (d : Directory) (h : Slot) (x : ℕ) (img : Bytes) where
  pub unlinked_left : left_of d x ≡ NOSTREAM → link_put p h (right_of d x) img ≡ unlinked_at p d h x img
  unfolding unlinked_at
  unlinked_left e = rw (eq-eqb (left_of d x) NOSTREAM e)

  pub unlinked_right : left_of d x ≢ NOSTREAM → right_of d x ≡ NOSTREAM → link_put p h (left_of d x) img ≡ unlinked_at p d h x img
  unfolding unlinked_at
  unlinked_right n e = rw (ne_eqb (left_of d x) NOSTREAM n, eq-eqb (right_of d x) NOSTREAM e)

  pub unlinked_heir : left_of d x ≢ NOSTREAM → right_of d x ≢ NOSTREAM → (u y : ℕ) → HeirIs d x (left_of d x) u y → heir_in p d h x u y img ≡ unlinked_at p d h x img
  unfolding unlinked_at
  unlinked_heir n m u y i =
      rw (ne_eqb (left_of d x) NOSTREAM n, ne_eqb (right_of d x) NOSTREAM m)
      (subst₂ (λ (a b : ℕ). heir_in p d h x u y img ≡ heir_in p d h x a b img) i.above i.last refl)

-- ---- as the code writes them

pub placed_kept : {d : Where} {work : List ℕ} {x n m : ℕ} → EntryPlaced d work x n → m ≡ n → EntryPlaced d work x m
placed_kept {d} {work} {x} p e = subst (EntryPlaced d work x) (sym e) p

module _ {d : Where} {img : Bytes} {work : List ℕ} (k : DirectoryListed d img work) (h : Slot) (x : ℕ) (inside : h.entry < (entries_of d img).count) where
  abbrev e : Directory
  e = entries_of d img

  same_place : (y : ℕ) → y < e.count → place_of d work y ≡ places_in d img y
  same_place y q = sym (place_is k y q)

  pub by_right : {y : ℕ} {new : Bytes} → y ≡ right_of e x → left_of e x ≡ NOSTREAM → new ≡ link_put (place_of d work) h y img
      → new ≡ unlinked_at (places_in d img) e h x img
  by_right {y} a n q =
      q ∙ link_places (place_of d work) (places_in d img) h y img (same_place h.entry inside)
      ∙ ap (λ (i : ℕ). link_put (places_in d img) h i img) a ∙ unlinked_left (places_in d img) e h x img n

  pub by_left : {y : ℕ} {new : Bytes} → y ≡ left_of e x → left_of e x ≢ NOSTREAM → right_of e x ≡ NOSTREAM → new ≡ link_put (place_of d work) h y img
      → new ≡ unlinked_at (places_in d img) e h x img
  by_left {y} a m n q =
      q ∙ link_places (place_of d work) (places_in d img) h y img (same_place h.entry inside)
      ∙ ap (λ (i : ℕ). link_put (places_in d img) h i img) a ∙ unlinked_right (places_in d img) e h x img m n

  pub by_heir : {u y own l r : ℕ} {new : Bytes} → HeirIs e x l u y → l ≡ left_of e x → r ≡ right_of e x → own ≡ left_of e y
      → left_of e x ≢ NOSTREAM → right_of e x ≢ NOSTREAM → new ≡ heir_put (place_of d work) h x u y own l r img → new ≡ unlinked_at (places_in d img) e h x img
  by_heir {u} {y} {own} {l} {r} i a b c m n q =
      q
      ∙ heir_places (place_of d work) (places_in d img) h x u y own l r img (same_place h.entry inside) (same_place u i.inside) (same_place y i.stands.inside)
      ∙ rw (c, a, b) (unlinked_heir (places_in d img) e h x img m n u y (subst (λ (j : ℕ). HeirIs e x j u y) a i))

-- the directory's list stays where the siblings are listed before it
pub list_stays : {d : Where} {img : Bytes} {w w' : List ℕ} → DirectoryListed d img w → Wrote w w' 0 (count_of d) → count_of d ≤ d.list → DirectoryListed d img w'
list_stays l r a = directory_kept l r (omega (arith, a))
