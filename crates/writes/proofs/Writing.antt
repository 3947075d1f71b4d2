-- Cells of listed units, written one after the other: what is left to write, written into the image as it is, gives what is wanted.
use Prim.Native.Nat.{ℕ, ◌+◌, ◌≤◌, ◌<◌}
use mathlib.Core.Path.{◌≡◌, refl, sym, ◌∙◌, ap}
use mathlib.Core.List.{List, [], ◌∷◌}
use native.Mathlib.Numerals.{add-one}
use native.Mathlib.Omega.{arith}
use lib.ListN.{length, get_or, take, drop, drop_of_length-le}
use lib.Seq.{slice-cons, length-take-le}
use Rattle.format.specs.Basics.Bytes.{Bytes}
use Rattle.format.specs.Layout.Chain.{END, start_of}
use Rattle.format.specs.Layout.Space.{Space}
use Rattle.format.specs.Calls.SetLength.{put_cell, release, link}
use Rattle.writes.specs.Puts.{cell_value, cells_put}
use Rattle.writes.specs.declared.Cells.{Cells}
use Rattle.writes.specs.declared.Cells.TheVariants.{Freed, Linked}

-- ---- free or a chain

cells_next : (cells : Cells) (sp : Space) (u : ℕ) (us : List ℕ) (img : Bytes) → cells_put cells sp (u ∷ us) img ≡ cells_put cells sp us (put_cell sp img u (cell_value cells us))
unfolding release link
cells_next Freed sp u us img = refl
cells_next Linked sp u us img = refl

cells_none : (cells : Cells) (sp : Space) (img : Bytes) → cells_put cells sp [] img ≡ img
unfolding release link
cells_none Freed sp img = refl
cells_none Linked sp img = refl

-- ---- the walk: the units before number j of the list are done

pub record Writing (cells : Cells) (sp : Space) (work : List ℕ) (from to : ℕ) (img₀ img : Bytes) (j : ℕ) : Type 0 where
  pub some : j ≤ to
  pub long : length img ≡ length img₀
  pub left : cells_put cells sp (drop j (take to work)) img ≡ cells_put cells sp (drop from (take to work)) img₀

module _ (cells : Cells) (sp : Space) (work : List ℕ) (from to : ℕ) (room : to ≤ length work) (img₀ : Bytes) where
  pub writing_start : from ≤ to → Writing cells sp work from to img₀ img₀ from
  writing_start h = record { some = h; long = refl; left = refl }

  module _ {img : Bytes} {j : ℕ} (a : Writing cells sp work from to img₀ img j) where
    pub writing_step : j < to → (next : Bytes) → length next ≡ length img → next ≡ put_cell sp img (get_or work j 0) (cell_value cells (drop (j + 1) (take to work)))
        → Writing cells sp work from to img₀ next (j + 1)
    writing_step h next l e =
        let rest = drop (j + 1) (take to work) in
        let s : drop j (take to work) ≡ get_or work j 0 ∷ drop (j + 1) (take to work) = rw add-one (slice-cons j to work 0 h room) in
        record {
          some = omega arith;
          long = l ∙ a.long;
          left = ap (cells_put cells sp rest) e ∙ sym (cells_next cells sp (get_or work j 0) rest img) ∙ ap (λ us. cells_put cells sp us img) (sym s) ∙ a.left;
        }

    pub writing_done : to ≤ j → img ≡ cells_put cells sp (drop from (take to work)) img₀
    writing_done h =
        let l = length-take-le to work room in
        sym (cells_none cells sp img) ∙ ap (λ us. cells_put cells sp us img) (sym (drop_of_length-le (take to work) {i = j} (omega arith))) ∙ a.left

-- ---- the start of a chain of the listed units from number j to before number n

module _ (work : List ℕ) (n j : ℕ) (room : n ≤ length work) where
  pub start_unit : j < n → get_or work j 0 ≡ start_of (drop j (take n work))
  start_unit h = ap start_of (sym (slice-cons j n work 0 h room))

  pub start_end : n ≤ j → END ≡ start_of (drop j (take n work))
  start_end h = let l = length-take-le n work room in ap start_of (sym (drop_of_length-le (take n work) {i = j} (omega arith)))
