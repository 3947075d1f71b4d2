-- A new object's entry, and the field that names it.
use mathlib.Core.Path.{◌≡◌, refl, sym, ap, ◌∙◌, subst}
use mathlib.Core.Logic.{◌≢◌}
use mathlib.Core.List.{List}
use Prim.Native.Nat.{ℕ, ◌+◌, ◌≤◌, ◌<◌}
use native.Mathlib.Nat.{add-zero}
use native.Mathlib.Omega.{arith}
use native.Mathlib.Decide.{ℕ_discrete}
use lib.ListN.{length}
use lib.Seq.{sets}
use Rattle.format.specs.Basics.Bytes.{Bytes, le32, put_bytes, put32}
use Rattle.format.specs.Layout.Geometry.{Geometry, size_width}
use Rattle.format.specs.Layout.Name.{Name}
use Rattle.format.specs.Layout.Entry.{field_byte, start, size}
use Rattle.format.specs.Layout.NewEntry.{new_entry}
use Rattle.format.specs.Layout.Directory.{entry_place, entry_count, entry_in}
use Rattle.format.specs.Layout.Siblings.{Slot}
use Rattle.format.specs.Layout.Volume.{volume, directory_sectors_of}
use Rattle.format.specs.Calls.Create.{NewKind, kind_for, start_for, entry_created}
use Rattle.theory.proofs.Bytes.{length_le32}
use Rattle.frame.specs.Kept.{Sized, Kept, Off, Table}
use Rattle.frame.specs.Redraw.{MayAdd, IsAdded}
use Rattle.frame.proofs.Kept.{kept_trans}
use Rattle.frame.proofs.Parts.{RootKept, root_kept, entry_is}
use Rattle.frame.proofs.Entry.{entry_length}
use Rattle.frame.proofs.EntryPuts.{put_kept_lem, put_other, put_same}
use Rattle.frame.proofs.Redrawing.{start_off, size_off, field_low, dirs_table, redrawn, entry_now, entry_inside}
use Rattle.frame.proofs.MadeEntries.{new_long, sets_whole}

module _ (g : Geometry) (z : Sized g) (img : Bytes) (made : NewKind) (n : Name) (h : Slot) (x : ℕ) (m : MayAdd g img h x) where
  abbrev dirs : List ℕ
  dirs = directory_sectors_of g img

  abbrev e : Bytes
  e = new_entry n (kind_for made) (start_for made) 0

  abbrev i1 : Bytes
  i1 = put_bytes img (entry_place g dirs x + 0) e

  abbrev i2 : Bytes
  i2 = put_bytes i1 (entry_place g dirs h.entry + field_byte h.field) (le32 x)

  abbrev hx : x < entry_count g dirs
  hx = entry_inside g z img m.accepted x m.inside

  abbrev hh : h.entry < entry_count g dirs
  hh = entry_inside g z img m.accepted h.entry m.hook_inside

  long1 : 0 + length e ≤ 128
  long1 = omega (arith, new_long n (kind_for made) (start_for made) 0)

  long2 : field_byte h.field + length (le32 x) ≤ 128
  long2 = omega (arith, (field_low h.field).1, length_le32 x)

  added_is : entry_created (volume g img) img made n h x ≡ i2
  unfolding entry_created put32 volume
  added_is = ap (λ (k : ℕ). put_bytes (put_bytes img k e) (entry_place g dirs h.entry + field_byte h.field) (le32 x)) (sym (add-zero _))

  abbrev tb : Table g (length img) dirs
  tb = dirs_table g z img m.accepted

  kept : Kept g (Off dirs) img i2
  kept = kept_trans g (Off dirs) img i1 i2 (put_kept_lem g z (length img) dirs tb img x 0 e hx long1) (put_kept_lem g z (length img) dirs tb i1 h.entry (field_byte h.field) (le32 x) hh long2)

  at_other : (y : ℕ) → y ≢ x → y ≢ h.entry → entry_in g i2 dirs y ≡ entry_in g img dirs y
  at_other y p q =
      put_other g z (length img) dirs tb i1 h.entry (field_byte h.field) (le32 x) hh long2 y q ∙ put_other g z (length img) dirs tb img x 0 e hx long1 y p

  at_hook : entry_in g i2 dirs h.entry ≡ sets (entry_in g img dirs h.entry) (field_byte h.field) (le32 x)
  at_hook =
      put_same g z (length img) dirs tb i1 h.entry (field_byte h.field) (le32 x) hh long2
      ∙ ap (λ (b : Bytes). sets b (field_byte h.field) (le32 x)) (put_other g z (length img) dirs tb img x 0 e hx long1 h.entry m.other)

  at_new : entry_in g i2 dirs x ≡ e
  at_new =
      put_other g z (length img) dirs tb i1 h.entry (field_byte h.field) (le32 x) hh long2 x (λ q. m.other (sym q))
      ∙ put_same g z (length img) dirs tb img x 0 e hx long1
      ∙ sets_whole (entry_in g img dirs x) e (entry_length g z (length img) dirs tb img x 0 0 hx refl ∙ sym (new_long n (kind_for made) (start_for made) 0))

  root : RootKept g img i2
  root =
      elim (ℕ_discrete h.entry 0) [
        | yes q ↦
            let k = subst (λ (y : ℕ). entry_in g i2 dirs y ≡ sets (entry_in g img dirs y) (field_byte h.field) (le32 x)) q at_hook in
            let l = (field_low h.field).1 in (
              ap start k ∙ start_off (entry_in g img dirs 0) (field_byte h.field) (le32 x) (omega (arith, length_le32 x)),
              ap (size (size_width g)) k ∙ size_off (size_width g) (entry_in g img dirs 0) (field_byte h.field) (le32 x) (omega (arith, length_le32 x)),
            )
        | no q ↦ root_kept g img i2 (at_other 0 (λ k. omega (arith, m.above, k)) (λ k. q (sym k)))
      ]

  abbrev now : (i : ℕ) → (volume g i2).directory.entry i ≡ entry_in g i2 dirs i
  now = entry_now g z img m.accepted i2 kept root

  added_at : IsAdded g img made n h x i2
  added_at =
      record {
        redrawn = redrawn g z img m.accepted i2 kept root;
        new = now x ∙ at_new;
        hooked = now h.entry ∙ at_hook ∙ ap (λ (b : Bytes). sets b (field_byte h.field) (le32 x)) (sym (entry_is g img h.entry));
        others = λ y p q. now y ∙ at_other y p q ∙ sym (entry_is g img y);
      }

  pub adding : IsAdded g img made n h x (entry_created (volume g img) img made n h x)
  adding = subst (λ (w : Bytes). IsAdded g img made n h x w) (sym added_is) added_at
