-- The rules on cells in any space, by the tests over the cells of its table.
use Prim.Native.Nat.{ℕ, ◌+◌, ◌-◌, ◌<◌}
use mathlib.Core.Path.{◌≡◌, refl, sym, ◌∙◌, ap₂}
use mathlib.Core.Logic.{inl, inr}
use mathlib.Core.Bool.{Bool, true, false, ◌||◌, or_assoc, or-true}
use native.Mathlib.Decide.{dec_lt}
use native.Mathlib.Omega.{arith}
use lib.Dec.{eqb, ltb, leb}
use borrow.Author.Tests.{le-leb, lt-leb}
use Rattle.format.specs.Basics.Lists.{all_below}
use Rattle.format.specs.Layout.Chain.{END, FREE, FATSECT, DIFSECT}
use Rattle.format.specs.Layout.Space.{Space}
use Rattle.format.specs.Rules.Cells.{plain_cell, table_mark, fat_cell_right, spare_cell_free, rest_free}
use Rattle.theory.proofs.Counts.{eqb_cases}
use Rattle.theory.proofs.Tests.{below_ext}
use Rattle.cells.specs.Cells.{cell_right}
use Rattle.tables.specs.Words.{free_from}

-- ---- the special values are those from the least of them on

module _ (v : ℕ) (h : v < 0x1_0000_0000) where
  plain_special : leb END v ≡ (eqb v END || eqb v FREE)
  plain_special =
      elim (eqb_cases v END) [
        | inl a ↦ rw a.1 (le-leb END v (omega (arith, a.0)))
        | inr a ↦
            rw a.1
            (elim (eqb_cases v FREE) [
              | inl b ↦ rw b.1 (le-leb END v (omega (arith, b.0)))
              | inr b ↦ rw b.1 (lt-leb END v (omega (arith, a.0, b.0)))
            ])
      ]

  all_special : leb DIFSECT v ≡ ((eqb v FATSECT || eqb v DIFSECT) || (eqb v END || eqb v FREE))
  all_special =
      rw (← plain_special)
      (elim (eqb_cases v FATSECT) [
        | inl a ↦ rw a.1 (le-leb DIFSECT v (omega (arith, a.0)))
        | inr a ↦
            rw a.1
            (elim (eqb_cases v DIFSECT) [
              | inl b ↦ rw b.1 (le-leb DIFSECT v (omega (arith, b.0)))
              | inr b ↦
                  rw b.1
                  (elim (dec_lt v DIFSECT) [
                    | yes c ↦ lt-leb DIFSECT v c ∙ sym (lt-leb END v (omega arith))
                    | no c ↦ le-leb DIFSECT v (omega arith) ∙ sym (le-leb END v (omega (arith, a.0, b.0)))
                  ])
            ])
      ])

swap : (l m e f : Bool) → (l || (m || (e || f))) ≡ (m || ((l || e) || f))
swap true m e f = sym (or-true m)
swap false m e f = refl

-- ---- the tests over a table of cells that are those of a space

module _ (sp : Space) (cell : ℕ → ℕ) {n : ℕ} (z : n ≡ sp.limit) where
  module _ (small : (s : ℕ) → cell s < 0x1_0000_0000) where
    pub plain_is : (s : ℕ) → cell s ≡ sp.cell s → cell_right n END cell s ≡ plain_cell sp (sp.cell s)
    unfolding cell_right plain_cell
    plain_is s e = rw (plain_special (cell s) (small s), z, e) (sym (or_assoc (ltb (sp.cell s) sp.limit) (eqb (sp.cell s) END) (eqb (sp.cell s) FREE)))

    fat_is : (s : ℕ) → cell s ≡ sp.cell s → cell_right n DIFSECT cell s ≡ fat_cell_right sp s
    unfolding cell_right fat_cell_right table_mark plain_cell
    fat_is s e = rw (all_special (cell s) (small s), z, e) (swap (ltb (sp.cell s) sp.limit) (eqb (sp.cell s) FATSECT || eqb (sp.cell s) DIFSECT) (eqb (sp.cell s) END) (eqb (sp.cell s) FREE))

    pub fat_right : ((s : ℕ) → s < n → cell s ≡ sp.cell s) → all_below n (cell_right n DIFSECT cell) ≡ all_below n (fat_cell_right sp)
    fat_right same = below_ext n (fat_cell_right sp) (cell_right n DIFSECT cell) (λ s h. fat_is s (same s h))

  pub rest_free_lem : {end : ℕ} → end ≡ sp.cells → ((s : ℕ) → s < end → cell s ≡ sp.cell s) → all_below (end - n) (free_from cell n) ≡ rest_free sp
  unfolding rest_free free_from spare_cell_free
  rest_free_lem {end} k same =
      below_ext (end - n) (spare_cell_free sp) (free_from cell n) (λ i h. rw (same (n + i) (omega arith), z)) ∙ ap₂ (λ a b. all_below (b - a) (spare_cell_free sp)) z k
