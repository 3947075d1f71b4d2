-- The test of one unit that group 18 has nothing against, by the number that stands for it.
use Prim.Native.Nat.{ℕ, ◌+◌, ◌<◌}
use mathlib.Core.Path.{◌≡◌, refl, sym, ◌∙◌}
use mathlib.Core.Logic.{inl, inr}
use mathlib.Core.Bool.{Bool, true, false, not, ◌&&◌, ◌||◌, or-true, or-false}
use mathlib.Core.List.{List, [], ◌++◌}
use native.Mathlib.Omega.{arith}
use lib.Dec.{eqb, ltb, leb}
use lib.ListN.{length, get_or, take, drop, length-drop}
use lib.Seq.{length-take-le, get_or-take, get_or-drop}
use borrow.Author.Tests.{lt-ltb, le-ltb, le-leb, lt-leb, ne_eqb, ltb-true}
use Rattle.format.specs.Basics.Bytes.{Bytes}
use Rattle.format.specs.Basics.Lists.{all_below, member}
use Rattle.format.specs.Layout.Chain.{FREE, END, FATSECT, DIFSECT}
use Rattle.format.specs.Layout.Geometry.{Geometry, sector_count}
use Rattle.format.specs.Layout.Space.{Space}
use Rattle.format.specs.Layout.Tables.{fat_cell, fat_sectors, difat_sectors, sector_space}
use Rattle.format.specs.Rules.Tables.{table_rules}
use Rattle.format.specs.Rules.Cells.{plain_cell, table_mark, fat_cell_right, cell_rules}
use Rattle.format.specs.Rules.Mini.{mini_cell_right}
use Rattle.theory.specs.Marks.{covered, MARK, is_mark, marks_at}
use Rattle.theory.proofs.Counts.{eqb_cases}
use Rattle.theory.proofs.OwnerMarks.{member_append}
use Rattle.theory.proofs.Tests.{clash, below_at, below_ext, both}
use Rattle.cells.specs.Cells.{covered_at}
use Rattle.chains.specs.Answers.{Markable}
use Rattle.chains.proofs.Walks.{mark_none, mark_some}
use Rattle.header.specs.Sized.{ImageSized}
use Rattle.directory.proofs.Room.{marks_at_lem}

-- ---- one number

-- a right cell: it is a special value other than the end, or names a unit
by_cell : (c limit : ℕ) → limit < 0x1000_0000 → ((eqb c FATSECT || eqb c DIFSECT) || (ltb c limit || eqb c END || eqb c FREE)) ≡ true
    → (leb MARK c && not (eqb c END)) ≡ (eqb c FREE || (eqb c FATSECT || eqb c DIFSECT))
by_cell c limit f h =
    elim (eqb_cases c FREE) [
      | inl a ↦ rw a.0
      | inr a ↦
          elim (eqb_cases c END) [
            | inl b ↦ rw b.0
            | inr b ↦
                elim (eqb_cases c FATSECT) [
                  | inl d ↦ rw d.0
                  | inr d ↦
                      elim (eqb_cases c DIFSECT) [
                        | inl e ↦ rw e.0
                        | inr e ↦
                            let l = ltb-true c limit (rw (a.1, b.1, d.1, e.1, or-false, or-false) at h) in
                            rw (a.1, d.1, e.1, lt-leb MARK c (omega arith))
                      ]
                ]
          ]
    ]

no_table : (c limit : ℕ) → limit < 0x1000_0000 → (ltb c limit || eqb c END || eqb c FREE) ≡ true → (eqb c FATSECT || eqb c DIFSECT) ≡ false
no_table c limit f h =
    elim (eqb_cases c FATSECT) [
      | inl a ↦ absurd (clash h (rw (a.0, le-ltb FATSECT limit (omega arith))))
      | inr a ↦
          elim (eqb_cases c DIFSECT) [
            | inl b ↦ absurd (clash h (rw (b.0, le-ltb DIFSECT limit (omega arith))))
            | inr b ↦ rw (a.1, b.1)
          ]
    ]

module _ (sp : Space) (at : ℕ) {w : List ℕ} (z : Markable sp at w) (u : ℕ) (l : u < sp.limit) (others : List ℕ) where
  abbrev v : ℕ
  v = get_or w (at + u) 0

  -- what stands for a unit: its mark, or its cell, by which `others` are known
  by_number : ((eqb (sp.cell u) FATSECT || eqb (sp.cell u) DIFSECT) || (ltb (sp.cell u) sp.limit || eqb (sp.cell u) END || eqb (sp.cell u) FREE)) ≡ true
      → member u others ≡ (eqb (sp.cell u) FATSECT || eqb (sp.cell u) DIFSECT) → (leb MARK v && not (eqb v END)) ≡ covered sp.cell (marks_at at w) others u
  unfolding covered is_mark
  by_number h m = go (is_mark v) refl
    where
      go : (b : Bool) → is_mark v ≡ b → (leb MARK v && not (eqb v END)) ≡ covered sp.cell (marks_at at w) others u
      go true e =
          let k = mark_some v e in
          let j = ltb-true v DIFSECT (both (ltb MARK v) (ltb v DIFSECT) e).1 in
          rw (le-leb MARK v (omega (arith, k.1)), ne_eqb v END (omega arith), lt-ltb 0 (marks_at at w u) (omega (arith, k.0, k.1)))
      go false e =
          let k = mark_none v e in
          let j : v ≡ sp.cell u = z.place.stands u l k in
          rw (k, m, j) (by_cell (sp.cell u) sp.limit z.few h)

-- ---- all of them

module _ (sp : Space) (at : ℕ) {w : List ℕ} (z : Markable sp at w) (others : List ℕ)
    (right : (u : ℕ) → u < sp.limit → ((eqb (sp.cell u) FATSECT || eqb (sp.cell u) DIFSECT) || (ltb (sp.cell u) sp.limit || eqb (sp.cell u) END || eqb (sp.cell u) FREE)) ≡ true)
    (told : (u : ℕ) → u < sp.limit → member u others ≡ (eqb (sp.cell u) FATSECT || eqb (sp.cell u) DIFSECT)) where
  -- in the part of the work buffer where they stand
  all_covered_lem : (n : ℕ) → n ≡ sp.limit → all_below (length (take n (drop at w))) (covered_at (take n (drop at w))) ≡ all_below sp.limit (covered sp.cell (marks_at at w) others)
  unfolding covered_at
  all_covered_lem n e =
      let k : length (take n (drop at w)) ≡ sp.limit = length-take-le n (drop at w) (omega (arith, length-drop at w, z.room)) ∙ e in
      rw k
      (below_ext sp.limit (covered sp.cell (marks_at at w) others) (covered_at (take n (drop at w)))
      (λ u l. rw (get_or-take n (drop at w) u 0 (omega (arith, e)) ∙ get_or-drop at w u 0) (by_number sp at z u l others (right u l) (told u l))))

module _ (g : Geometry) (img : Bytes) (z : ImageSized g img) (t : table_rules g img ≡ true) (c : cell_rules (sector_space g img) ≡ true) {w : List ℕ} (m : Markable (sector_space g img) 0 w) where
  -- the sectors: group 11 says by the cell which are the tables' own
  pub sectors_covered : (n : ℕ) → n ≡ sector_count g img → all_below (length (take n (drop 0 w))) (covered_at (take n (drop 0 w)))
      ≡ all_below (sector_count g img) (covered (fat_cell g img) (marks_at 0 w) (fat_sectors g img ++ difat_sectors g img))
  unfolding sector_space cell_rules fat_cell_right table_mark plain_cell
  sectors_covered n e =
      all_covered_lem (sector_space g img) 0 m (fat_sectors g img ++ difat_sectors g img)
      (λ u l. below_at (sector_count g img) (fat_cell_right (sector_space g img)) (both _ _ c).0 u l)
      (λ u l. let k = marks_at_lem g img z t u l in member_append u (fat_sectors g img) (difat_sectors g img) ∙ sym (rw (k.0, k.1)))
      n e

-- the mini sectors: no cell is a table sector's
pub minis_covered : (sp : Space) (at : ℕ) {w : List ℕ} → Markable sp at w → all_below sp.limit (mini_cell_right sp) ≡ true → (n : ℕ) → n ≡ sp.limit
    → all_below (length (take n (drop at w))) (covered_at (take n (drop at w))) ≡ all_below sp.limit (covered sp.cell (marks_at at w) [])
unfolding mini_cell_right plain_cell member
minis_covered sp at m c n e =
    let plain : (u : ℕ) → u < sp.limit → (ltb (sp.cell u) sp.limit || eqb (sp.cell u) END || eqb (sp.cell u) FREE) ≡ true = λ u l. below_at sp.limit (mini_cell_right sp) c u l in
    all_covered_lem sp at m []
    (λ u l. rw (plain u l, or-true))
    (λ u l. sym (no_table (sp.cell u) sp.limit m.few (plain u l)))
    n e
