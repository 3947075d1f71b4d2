-- The new object's entry and the field that names it, as they are written.
use Prim.Native.Nat.{ℕ, ◌+◌, ◌<◌}
use mathlib.Core.Path.{◌≡◌, refl, sym}
use mathlib.Core.Bool.{cond}
use mathlib.Core.List.{List, []}
use native.Mathlib.Omega.{arith}
use borrow.Author.Tests.{ne_eqb}
use lib.Dec.{eqb}
use lib.ListN.{length}
use Rattle.format.specs.Basics.Bytes.{Bytes, put_bytes, put32}
use Rattle.format.specs.Layout.Name.{Name}
use Rattle.format.specs.Layout.Entry.{field_byte}
use Rattle.format.specs.Layout.NewEntry.{new_entry}
use Rattle.format.specs.Layout.Directory.{Directory, blanks}
use Rattle.format.specs.Layout.Siblings.{Slot}
use Rattle.format.specs.Calls.Create.{NewKind, kind_for, start_for, lowest_blank, entry_created}
use Rattle.format.specs.Calls.Reply.{on_zero}
use Rattle.volume.specs.declared.Volume.{Volume as Opened}
use Rattle.directory.specs.Listed.{place_of}
use Rattle.spaces.specs.Spaces.{volume_in}
use Rattle.queries.specs.Inside.{Open}
use Rattle.creation.proofs.Places.{entry_place_lem}

module _ (d : Directory) (img created : Bytes) where
  -- none is left
  pub none_blank : blanks d ≡ [] → (◌≡◌ {A = ℕ} 30 (cond (eqb (length (blanks d)) 0) 30 0)) × (img ≡ on_zero 30 created img)
  unfolding on_zero
  none_blank e = (sym (rw e), refl)

  pub some_blank : (after : Bytes) → 0 < length (blanks d) → after ≡ created → (◌≡◌ {A = ℕ} 0 (cond (eqb (length (blanks d)) 0) 30 0)) × (after ≡ on_zero 0 created img)
  unfolding on_zero
  some_blank after h e = (sym (rw (ne_eqb (length (blanks d)) 0 (λ z. omega arith))), e)

-- both writes
module _ {v : Opened} {img : Bytes} {w : List ℕ} (o : Open v img w) (kind : NewKind) (n : Name) (h : Slot) (x : ℕ) where
  pub created_is : h.entry < (volume_in v img).directory.count → x < (volume_in v img).directory.count → x ≡ lowest_blank (volume_in v img).directory
      → put32 (put_bytes img (place_of v.directory w x) (new_entry n (kind_for kind) (start_for kind) 0)) (place_of v.directory w h.entry + field_byte h.field) x
      ≡ entry_created (volume_in v img) img kind n h (lowest_blank (volume_in v img).directory)
  unfolding entry_created
  created_is i j e = rw (← e, entry_place_lem o x j, entry_place_lem o h.entry i)
