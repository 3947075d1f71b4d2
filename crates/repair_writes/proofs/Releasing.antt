-- Cells that become free one after the other, from the lowest on.
use Prim.Native.Nat.{ℕ, ◌+◌, ◌-◌, ◌≤◌, ◌<◌}
use mathlib.Core.Path.{◌≡◌, refl, sym, ap, ◌∙◌}
use mathlib.Core.Logic.{◌≢◌}
use mathlib.Core.Bool.{Bool, true, false, not, ◌&&◌}
use mathlib.Core.List.{List, [], ◌∷◌, ◌++◌}
use native.Mathlib.Numerals.{add-one}
use native.Mathlib.Omega.{arith}
use lib.ListN.{length}
use lib.Seq.{length-sets}
use Rattle.format.specs.Basics.Lists.{list_below, pick_below}
use Rattle.format.specs.Basics.Bytes.{Bytes, u32at, le32, put32, put_bytes}
use Rattle.format.specs.Layout.Geometry.{Geometry}
use Rattle.format.specs.Layout.Chain.{FREE}
use Rattle.format.specs.Layout.Space.{Space}
use Rattle.format.specs.Rules.Cells.{table_mark}
use Rattle.format.specs.Calls.SetLength.{put_cell, release}
use Rattle.format.specs.Calls.RepairSteps.{rest_unit, rest_units, rest_freed}
use Rattle.theory.specs.Marks.{unmarked, marks_at}
use Rattle.theory.proofs.Bytes.{number_same, length_le32}
use Rattle.theory.proofs.Sets.{get_or_sets_out}
use Rattle.theory.proofs.Picks.{pick_more, pick_skip}
use Rattle.repair_writes.specs.Cells.{cell_byte, table_in, CellsApart, may_free}

release_none : (sp : Space) (img : Bytes) → release sp [] img ≡ img
unfolding release
release_none sp img = refl

-- one more at the end
release_last : (sp : Space) (us : List ℕ) (u : ℕ) (img : Bytes) → release sp (us ++ (u ∷ [])) img ≡ put_cell sp (release sp us img) u FREE
unfolding release
release_last sp [] u img = refl
release_last sp (x ∷ us) u img = release_last sp us u (put_cell sp img x FREE)

put_long : (img : Bytes) (p c : ℕ) → length (put32 img p c) ≡ length img
unfolding put32 put_bytes
put_long img p c = length-sets img p (le32 c)

put_is : (sp : Space) (img : Bytes) (u : ℕ) → put_cell sp img u FREE ≡ put32 img (sp.cell_place u) FREE
unfolding put_cell
put_is sp img u = refl

-- ---- the cells from the limit on

-- those below number u are free
pub record RestFreeing (sp : Space) (img₀ img : Bytes) (u : ℕ) : Type 0 where
  pub from : sp.limit ≤ u
  pub within : u ≤ sp.cells
  pub long : length img ≡ length img₀
  pub done : img ≡ release sp (list_below (u - sp.limit) (rest_unit sp)) img₀

module _ (sp : Space) (img₀ : Bytes) where
  pub rest_start : sp.limit ≤ sp.cells → RestFreeing sp img₀ img₀ sp.limit
  unfolding list_below
  rest_start h =
      let z : sp.limit - sp.limit ≡ 0 = omega arith in
      record { from = omega arith; within = h; long = refl; done = rw z (sym (release_none sp img₀)) }

  module _ {img : Bytes} {u : ℕ} (a : RestFreeing sp img₀ img u) where
    one_more : list_below (u + 1 - sp.limit) (rest_unit sp) ≡ list_below (u - sp.limit) (rest_unit sp) ++ (u ∷ [])
    unfolding list_below rest_unit
    one_more =
        let f = a.from in
        let e : u + 1 - sp.limit ≡ (u - sp.limit) + 1 = omega arith in
        let k : sp.limit + (u - sp.limit) ≡ u = omega arith in
        rw (e, add-one, k)

    pub rest_step : u < sp.cells → (next : Bytes) → next ≡ put32 img (sp.cell_place u) FREE → RestFreeing sp img₀ next (u + 1)
    rest_step h next e =
        let f = a.from in
        record {
          from = omega arith;
          within = omega arith;
          long = ap length e ∙ put_long img (sp.cell_place u) FREE ∙ a.long;
          done =
              e ∙ sym (put_is sp img u) ∙ ap (λ (x : Bytes). put_cell sp x u FREE) a.done
              ∙ sym (release_last sp (list_below (u - sp.limit) (rest_unit sp)) u img₀)
              ∙ ap (λ (us : List ℕ). release sp us img₀) (sym one_more);
        }

    pub rest_end : sp.cells ≤ u → img ≡ rest_freed sp img₀
    unfolding rest_freed rest_units
    rest_end h = let w = a.within in let e : u ≡ sp.cells = omega arith in rw e at a.done

-- ---- the cells that pass a test

-- a cell that shares no byte with the one that became free
other_read : (img : Bytes) (p q c : ℕ) → ((i j : ℕ) → i < 4 → j < 4 → q + i ≢ p + j) → u32at (put32 img p c) q ≡ u32at img q
unfolding u32at put32 put_bytes
other_read img p q c h =
    number_same _ img q q 4 (λ i l. get_or_sets_out img p (le32 c) (q + i) 0 (λ j k. h i j l (omega (arith, length_le32 c))))

module _ (g : Geometry) (work : List ℕ) (list at n : ℕ) (img₀ : Bytes) where
  abbrev sp : Space
  sp = table_in g work list n n

  abbrev free : ℕ → Bool
  free = may_free g work list at img₀

  -- those below number u are done; the others read as before
  pub record PickFreeing (img : Bytes) (u : ℕ) : Type 0 where
    pub within : u ≤ n
    pub long : length img ≡ length img₀
    pub done : img ≡ release sp (pick_below u free) img₀
    pub later : (x : ℕ) → u ≤ x → x < n → u32at img (cell_byte g work list x) ≡ u32at img₀ (cell_byte g work list x)

  pub pick_start : PickFreeing img₀ 0
  pick_start = record { within = omega arith; long = refl; done = sym (release_none sp img₀); later = λ x a b. refl }

  module _ {img : Bytes} {u : ℕ} (a : PickFreeing img u) where
    -- what the test says of the cell as it is now, it says of the cell at first
    module _ (h : u < n) {r : Bool} (t : r ≡ may_free g work list at img u) where
      asked : r ≡ free u
      unfolding may_free
      asked = t ∙ ap (λ c. unmarked (marks_at at work) u && not (table_mark c)) (a.later u (omega arith) h)

      pub pick_freed : r ≡ true → CellsApart g work list n → (next : Bytes) → next ≡ put32 img (cell_byte g work list u) FREE → PickFreeing next (u + 1)
      pick_freed y far next e =
          let p = cell_byte g work list u in
          record {
            within = omega arith;
            long = ap length e ∙ put_long img p FREE ∙ a.long;
            done =
                e ∙ sym (put_is sp img u) ∙ ap (λ (x : Bytes). put_cell sp x u FREE) a.done ∙ sym (release_last sp (pick_below u free) u img₀)
                ∙ ap (λ (us : List ℕ). release sp us img₀) (sym (pick_more free u (sym asked ∙ y)));
            later = λ x k l.
                ap (λ (b : Bytes). u32at b (cell_byte g work list x)) e
                ∙ other_read img p (cell_byte g work list x) FREE (λ i j s r. far x u i j (omega arith) l h s r) ∙ a.later x (omega arith) l;
          }

      pub pick_left : r ≡ false → PickFreeing img (u + 1)
      pick_left y =
          record {
            within = omega arith;
            long = a.long;
            done =
                a.done
                ∙ ap (λ (us : List ℕ). release sp us img₀)
                (sym (pick_skip free u (u + 1) (omega arith) (λ x k l. let e : x ≡ u = omega arith in ap free e ∙ sym asked ∙ y)));
            later = λ x k l. a.later x (omega arith) l;
          }

    pub pick_end : n ≤ u → img ≡ release sp (pick_below n free) img₀
    pick_end h = let w = a.within in let e : u ≡ n = omega arith in rw e at a.done
