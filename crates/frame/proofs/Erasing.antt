-- An object less: its siblings drawn anew, and its entry blank.
use mathlib.Core.Path.{◌≡◌, refl, sym, ap, ◌∙◌, subst}
use mathlib.Core.Logic.{◌≢◌}
use mathlib.Core.List.{List}
use Prim.Native.Nat.{ℕ, ◌+◌, ◌≤◌, ◌<◌}
use native.Mathlib.Nat.{add-zero}
use native.Mathlib.Omega.{arith}
use native.Mathlib.Decide.{dec_lt, ℕ_discrete}
use lib.ListN.{length}
use lib.Seq.{sets}
use Rattle.format.specs.Basics.Lists.{count}
use Rattle.format.specs.Basics.Bytes.{Bytes, le32, put_bytes, put32}
use Rattle.format.specs.Layout.Geometry.{Geometry, size_width}
use Rattle.format.specs.Layout.Entry.{start, size}
use Rattle.format.specs.Layout.NewEntry.{blank_entry}
use Rattle.format.specs.Layout.Directory.{entry_place, entry_count, entry_in}
use Rattle.format.specs.Layout.Tree.{Forest, siblings}
use Rattle.format.specs.Layout.Siblings.{top, without_node}
use Rattle.format.specs.Layout.Volume.{volume, directory_sectors_of}
use Rattle.format.specs.Calls.Remove.{siblings_written, entry_removed_at}
use Rattle.theory.proofs.Bytes.{length_le32}
use Rattle.frame.specs.Kept.{Sized, Kept, Off, Table}
use Rattle.frame.specs.Redraw.{MayErase, IsErased, Penned}
use Rattle.frame.proofs.Kept.{kept_trans}
use Rattle.frame.proofs.Parts.{RootKept, root_kept, entry_is}
use Rattle.frame.proofs.Entry.{entry_length}
use Rattle.frame.proofs.EntryPuts.{put_kept_lem, put_other, put_same, drawn_kept, drawn_out, drawn_penned, penned_same}
use Rattle.frame.proofs.Redrawing.{entry_place_is, start_off, size_off, dirs_table, redrawn, entry_now, entry_inside}
use Rattle.frame.proofs.MadeEntries.{blank_long, sets_whole}

module _ (g : Geometry) (z : Sized g) (img : Bytes) (s : ℕ) (t : Forest) (x : ℕ) (m : MayErase g img s t x) where
  abbrev dirs : List ℕ
  dirs = directory_sectors_of g img

  abbrev f : Forest
  f = without_node x t

  abbrev i1 : Bytes
  i1 = siblings_written (volume g img) f img

  abbrev i2 : Bytes
  i2 = put_bytes i1 (entry_place g dirs s + 76) (le32 (top f))

  abbrev pub i3 : Bytes
  i3 = put_bytes i2 (entry_place g dirs x + 0) blank_entry

  abbrev tb : Table g (length img) dirs
  tb = dirs_table g z img m.accepted

  abbrev hx : x < entry_count g dirs
  hx = entry_inside g z img m.accepted x m.inside

  abbrev hs : s < entry_count g dirs
  hs = entry_inside g z img m.accepted s m.slot_inside

  hf : (y : ℕ) → 0 < count y (siblings f) → y < entry_count g dirs
  hf y c = entry_inside g z img m.accepted y (m.within y c).1

  long2 : 76 + length (le32 (top f)) ≤ 128
  long2 = omega (arith, length_le32 (top f))

  long3 : 0 + length blank_entry ≤ 128
  long3 = omega (arith, blank_long)

  pub erased_is : entry_removed_at (volume g img) img s t x ≡ i3
  unfolding entry_removed_at put32 volume
  erased_is = ap (λ (k : ℕ). put_bytes i2 k blank_entry) (sym (add-zero _))

  pub kept : Kept g (Off dirs) img i3
  kept =
      kept_trans g (Off dirs) img i1 i3 (drawn_kept g z (length img) dirs tb (volume g img) (entry_place_is g img) f img hf)
      (kept_trans g (Off dirs) i1 i2 i3 (put_kept_lem g z (length img) dirs tb i1 s 76 (le32 (top f)) hs long2) (put_kept_lem g z (length img) dirs tb i2 x 0 blank_entry hx long3))

  at_pen : (y : ℕ) → y ≢ x → y ≢ s → entry_in g i3 dirs y ≡ entry_in g i1 dirs y
  at_pen y p q =
      put_other g z (length img) dirs tb i2 x 0 blank_entry hx long3 y p ∙ put_other g z (length img) dirs tb i1 s 76 (le32 (top f)) hs long2 y q

  out1 : (y : ℕ) → count y (siblings f) ≡ 0 → entry_in g i1 dirs y ≡ entry_in g img dirs y
  out1 = drawn_out g z (length img) dirs tb (volume g img) (entry_place_is g img) f img hf

  pub at_other : (y : ℕ) → y ≢ x → y ≢ s → count y (siblings f) ≡ 0 → entry_in g i3 dirs y ≡ entry_in g img dirs y
  at_other y p q c = at_pen y p q ∙ out1 y c

  pub at_slot : entry_in g i3 dirs s ≡ sets (entry_in g img dirs s) 76 (le32 (top f))
  at_slot =
      put_other g z (length img) dirs tb i2 x 0 blank_entry hx long3 s m.other
      ∙ put_same g z (length img) dirs tb i1 s 76 (le32 (top f)) hs long2
      ∙ ap (λ (b : Bytes). sets b 76 (le32 (top f))) (out1 s m.apart)

  pub at_blank : entry_in g i3 dirs x ≡ blank_entry
  at_blank =
      put_same g z (length img) dirs tb i2 x 0 blank_entry hx long3
      ∙ sets_whole (entry_in g i2 dirs x) blank_entry (ap length (before) ∙ entry_length g z (length img) dirs tb img x 0 0 hx refl ∙ sym blank_long)
    where
      before : entry_in g i2 dirs x ≡ entry_in g img dirs x
      before = put_other g z (length img) dirs tb i1 s 76 (le32 (top f)) hs long2 x (λ q. m.other (sym q)) ∙ out1 x m.gone

  pub at_penned : Penned (entry_in g img dirs) (entry_in g i3 dirs) f
  at_penned =
      penned_same g z (length img) dirs tb (entry_in g img dirs) (entry_in g i1 dirs) (entry_in g img dirs) (entry_in g i3 dirs) f
      (λ y c. (refl, at_pen y (λ q. omega (arith, m.gone, c, ap (λ (i : ℕ). count i (siblings f)) q)) (λ q. omega (arith, m.apart, c, ap (λ (i : ℕ). count i (siblings f)) q))))
      (drawn_penned g z (length img) dirs tb (volume g img) (entry_place_is g img) f img hf m.once)

  zero_out : count 0 (siblings f) ≡ 0
  zero_out = elim (dec_lt 0 (count 0 (siblings f))) [ yes k ↦ absurd (omega (arith, (m.within 0 k).0)) | no k ↦ omega arith ]

  root : RootKept g img i3
  root =
      elim (ℕ_discrete s 0) [
        | yes q ↦
            let k = subst (λ (y : ℕ). entry_in g i3 dirs y ≡ sets (entry_in g img dirs y) 76 (le32 (top f))) q at_slot in (
              ap start k ∙ start_off (entry_in g img dirs 0) 76 (le32 (top f)) (omega (arith, length_le32 (top f))),
              ap (size (size_width g)) k ∙ size_off (size_width g) (entry_in g img dirs 0) 76 (le32 (top f)) (omega (arith, length_le32 (top f))),
            )
        | no q ↦ root_kept g img i3 (at_other 0 (λ k. omega (arith, m.above, k)) (λ k. q (sym k)) zero_out)
      ]

  abbrev now : (i : ℕ) → (volume g i3).directory.entry i ≡ entry_in g i3 dirs i
  now = entry_now g z img m.accepted i3 kept root

  erased_at : IsErased g img s t x i3
  erased_at =
      record {
        redrawn = redrawn g z img m.accepted i3 kept root;
        blank = now x ∙ at_blank;
        slot = now s ∙ at_slot ∙ ap (λ (b : Bytes). sets b 76 (le32 (top f))) (sym (entry_is g img s));
        penned =
            penned_same g z (length img) dirs tb (entry_in g img dirs) (entry_in g i3 dirs) (volume g img).directory.entry (volume g i3).directory.entry f
            (λ y c. (entry_is g img y, now y)) at_penned;
        others = λ y p q c. now y ∙ at_other y p q c ∙ sym (entry_is g img y);
      }

  pub erasing : IsErased g img s t x (entry_removed_at (volume g img) img s t x)
  erasing = subst (λ (w : Bytes). IsErased g img s t x w) (sym erased_is) erased_at
