-- The cells of the table sectors against the marks.
use Prim.Native.Nat.{ℕ, ◌+◌, ◌-◌, ◌*◌, ◌≤◌, ◌<◌}
use mathlib.Core.Path.{◌≡◌, refl, sym, ◌∙◌}
use mathlib.Core.Bool.{Bool, ◌&&◌}
use mathlib.Core.List.{List}
use native.Mathlib.Decide.{dec_lt}
use native.Mathlib.Omega.{arith}
use lib.Dec.{eqb, ltb}
use lib.ListN.{length, get_or, take, drop}
use lib.Seq.{get_or-take, get_or-drop}
use borrow.Author.Tests.{lt-ltb, le-ltb, eq-eqb, ne_eqb}
use Rattle.format.specs.Basics.Lists.{all_below, member}
use Rattle.format.specs.Basics.Bytes.{Bytes}
use Rattle.format.specs.Layout.Geometry.{Geometry, sector_count}
use Rattle.format.specs.Layout.Tables.{fat_cell, fat_sectors, difat_sectors}
use Rattle.format.specs.Rules.Tables.{mark_right, table_marks}
use Rattle.theory.specs.Marks.{marks}
use Rattle.cells.specs.Cells.{cell_of, mark_agrees}
use Rattle.cells.proofs.Turns.{Passed, passed_block}
use Rattle.tables.specs.Stages.{TableMarked}
use Rattle.tables.specs.declared.Block.{Block}
use Rattle.tables.proofs.Blocks.{BlockOf, cut_length, slice, slice_cell}

pub marks_are : (g : Geometry) (img : Bytes) → table_marks g img ≡ all_below (sector_count g img) (mark_right g img)
unfolding table_marks
marks_are g img = refl

fat_mark : (x y m : ℕ) → m ≡ x + 2 * y → x + y ≤ 1 → ltb 0 x ≡ eqb m 1
fat_mark x y m e h =
    elim (dec_lt 0 x) [
      | yes p ↦ rw (lt-ltb 0 x p) (sym (eq-eqb m 1 (omega arith)))
      | no p ↦ rw (le-ltb 0 x (omega arith)) (sym (ne_eqb m 1 (omega arith)))
    ]

difat_mark : (x y m : ℕ) → m ≡ x + 2 * y → x + y ≤ 1 → ltb 0 y ≡ eqb m 2
difat_mark x y m e h =
    elim (dec_lt 0 y) [
      | yes p ↦ rw (lt-ltb 0 y p) (sym (eq-eqb m 2 (omega arith)))
      | no p ↦ rw (le-ltb 0 y (omega arith)) (sym (ne_eqb m 2 (omega arith)))
    ]

module _ {g : Geometry} {img : Bytes} {w : List ℕ} (t : TableMarked g img w) (s : ℕ) (l : s < sector_count g img) where
  mark_fat : member s (fat_sectors g img) ≡ eqb (get_or w s 0) 1
  unfolding member
  mark_fat = fat_mark _ _ (get_or w s 0) (t.mark s l) (t.single s)

  mark_difat : member s (difat_sectors g img) ≡ eqb (get_or w s 0) 2
  unfolding member
  mark_difat = difat_mark _ _ (get_or w s 0) (t.mark s l) (t.single s)

  agrees : (cell mark : ℕ → ℕ) (i : ℕ) → cell i ≡ fat_cell g img s → mark i ≡ get_or w s 0 → mark_agrees cell mark i ≡ mark_right g img s
  unfolding mark_agrees mark_right
  agrees cell mark i e d = rw (e, d, mark_fat, mark_difat)

-- the cells of a block against the marks of as many sectors
pub agree_block : {g : Geometry} {img : Bytes} {w : List ℕ} (cell : ℕ → ℕ) {n i : ℕ} {b : Block} {ok r : Bool} → TableMarked g img w → n ≡ sector_count g img → n ≤ length w
    → ((s : ℕ) → s < n → cell s ≡ fat_cell g img s) → Passed (mark_right g img) n ok i → (o : BlockOf img cell i n b)
    → let m = take (i + b.cells - i) (drop i w) in r ≡ all_below (length m) (mark_agrees (cell_of (slice o)) (marks m)) → Passed (mark_right g img) n (ok && r) (i + b.cells)
unfolding marks
agree_block {w = w} cell {n} {i} {b} t z l f a o e =
    let k : i + b.cells - i ≡ b.cells = omega arith in
    passed_block a _ o.to (rw (cut_length w i b.cells (omega (arith, o.to)), k) at e)
    (λ j h.
    let q : i + j < n = omega (arith, o.to) in
    agrees t (i + j) (omega arith) _ _ j (slice_cell o j h ∙ f (i + j) q) (get_or-take b.cells (drop i w) j 0 h ∙ get_or-drop i w j 0))
