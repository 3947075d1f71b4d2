-- The FAT of a fresh image, cell by cell, and groups 11 and 12.
use Prim.Native.Nat.{ℕ, ◌+◌, ◌-◌, ◌*◌, ◌≤◌, ◌<◌}
use mathlib.Core.Path.{◌≡◌, refl, sym, ap, ◌∙◌}
use mathlib.Core.Logic.{◌≢◌, ◌⊎◌, inl, inr}
use mathlib.Core.Bool.{true, false, ◌||◌, beq, or-true}
use mathlib.Core.List.{◌++◌}
use native.Mathlib.Nat.{zero-add}
use native.Mathlib.Omega.{arith}
use native.Mathlib.Decide.{dec_lt}
use lib.Dec.{eqb, ltb}
use borrow.Author.Tests.{lt-ltb, le-ltb, le-leb, eq-eqb, ne_eqb}
use Rattle.format.specs.Basics.Lists.{all, member, distinct}
use Rattle.format.specs.Basics.Bytes.{Bytes}
use Rattle.format.specs.Layout.Geometry.{Geometry, header_difat, cells_in, difat_in, sector_count}
use Rattle.format.specs.Layout.Chain.{FREE, END, FATSECT, DIFSECT}
use Rattle.format.specs.Layout.Header.{difat_count}
use Rattle.format.specs.Layout.Tables.{fat_sectors, difat_sectors, difat_entry, difat_sector, cell_in, fat_cells, fat_cell, sector_space}
use Rattle.format.specs.Rules.Tables.{difat_need, table_counts, difat_ends, difat_rest, spare_entry_free, is_sector, table_sectors, mark_right, table_marks, table_rules}
use Rattle.format.specs.Rules.Cells.{plain_cell, spare_cell_free, rest_free, table_mark, fat_cell_right, cell_rules}
use Rattle.theory.proofs.Tests.{and_true_of, below_of, beq_self}
use Rattle.frame.specs.Kept.{Sized}
use Rattle.format.specs.Fresh.Plan.{Plan, fat_part, difat_part, directory_from}
use Rattle.format.specs.Fresh.Cells.{fresh_cell, fresh_difat}
use Rattle.format.specs.Fresh.Image.{fat_number, fat_block, fresh_sector, fresh_image}
use Rattle.fresh.specs.Facts.{Headed, Planned}
use Rattle.fresh.specs.Run.{run}
use Rattle.fresh.proofs.Runs.{run_append, run_all, run_distinct, run_none, run_once, run_past}
use Rattle.fresh.proofs.Numbers.{Order, order, cells_enough, fat_some}
use Rattle.fresh.proofs.Blocks.{fat_sector}
use Rattle.fresh.proofs.Header.{sector_count_lem, fat_count_lem, difat_count_lem}
use Rattle.fresh.proofs.Cells.{cell_fat, cell_difat, cell_free, cell_plain, cell_small}
use Rattle.fresh.proofs.Difat.{difat_ends_at, difat_sectors_are, difat_entry_is, fat_sectors_are}
use Rattle.fresh.proofs.Places.{cell_read}

module _ (g : Geometry) (p : Plan) (h : Headed g) (q : Planned g p) where
  abbrev z : Sized g
  z = h.sized

  abbrev img : Bytes
  img = fresh_image g p

  abbrev o : Order g p z q
  o = order g p z q

  abbrev F : ℕ
  F = fat_part g p

  abbrev D : ℕ
  D = difat_part g p

  -- ---- the FAT

  pub fat_cells_lem : fat_cells g img ≡ cells_in g * F
  unfolding fat_cells
  fat_cells_lem = ap (λ n. cells_in g * n) (fat_count_lem g p h q)

  -- FIRST LAW: what is read of the FAT is what was laid
  pub fat_cell_is : (s : ℕ) → fat_cell g img s ≡ fresh_cell g p s
  unfolding fat_cell cell_in fat_block fat_number
  fat_cell_is s =
      rw (fat_cells_lem, fat_sectors_are g p h q)
      (elim (dec_lt s (cells_in g * F)) [
        | yes a ↦
            rw (lt-ltb s (cells_in g * F) a)
            (cell_read g p z (fresh_cell g p) 0 F s blocks (omega (arith, o)) a (cell_small g p z q s))
        | no a ↦
            let e = cells_enough g p z q in
            rw (le-ltb s (cells_in g * F) (omega arith)) (sym (cell_free g p z q s (omega (arith, o, e))))
      ])
    where
      blocks : (j : ℕ) → j < F → fresh_sector g p (0 + j) ≡ fat_block g p j
      blocks j l = rw zero-add (fat_sector g p z q j l)

  -- ---- GROUP 11

  counts_rule : table_counts g img ≡ true
  unfolding table_counts difat_part
  counts_rule =
      rw (
        fat_cells_lem,
        fat_count_lem g p h q,
        sector_count_lem g p h q,
        difat_count_lem g p h q,
        le-leb 1 F (fat_some g p z q),
        le-leb p.sectors (cells_in g * F) (cells_enough g p z q),
      )
      (eq-eqb (difat_need g F) (difat_need g F) refl)

  ends_rule : difat_ends g img ≡ true
  unfolding difat_ends
  ends_rule = eq-eqb (difat_sector g img (difat_count img)) END (ap (difat_sector g img) (difat_count_lem g p h q) ∙ difat_ends_at g p h q)

  rest_rule : difat_rest g img ≡ true
  unfolding difat_rest spare_entry_free header_difat fresh_difat
  rest_rule =
      rw (difat_count_lem g p h q, fat_count_lem g p h q)
      (below_of (109 + difat_in g * D - F) (spare_entry_free g img)
      (λ i l. rw (fat_count_lem g p h q)
      (eq-eqb (difat_entry g img (F + i)) FREE (difat_entry_is g p h q (F + i) (omega arith) ∙ rw (le-ltb (F + i) F (omega arith))))))

  -- FAT and DIFAT sectors are one run
  tables_run : fat_sectors g img ++ difat_sectors g img ≡ run 0 (F + D)
  tables_run = rw (fat_sectors_are g p h q, difat_sectors_are g p h q) (ap (λ s. run 0 F ++ run s D) (sym (zero-add F)) ∙ run_append 0 F D)

  sectors_rule : table_sectors g img ≡ true
  unfolding table_sectors is_sector
  sectors_rule =
      rw (tables_run)
      (and_true_of (all (is_sector g img) (run 0 (F + D))) (distinct (run 0 (F + D)))
      (run_all (is_sector g img) 0 (F + D) (λ u a b. rw (sector_count_lem g p h q) (lt-ltb u p.sectors (omega (arith, o)))))
      (run_distinct 0 (F + D)))

  -- the sectors of a table, as members of its run
  member_in : (s n u : ℕ) → s ≤ u → u < s + n → member u (run s n) ≡ true
  unfolding member
  member_in s n u a b = rw (run_once s n u a b) (lt-ltb 0 1 (omega arith))

  member_before : (s n u : ℕ) → u < s → member u (run s n) ≡ false
  unfolding member
  member_before s n u a = rw (run_none s n u a) (le-ltb 0 0 (omega arith))

  member_behind : (s n u : ℕ) → s + n ≤ u → member u (run s n) ≡ false
  unfolding member
  member_behind s n u a = rw (run_past s n u a) (le-ltb 0 0 (omega arith))

  plain_unmarked : (c : ℕ) → (c < p.sectors) ⊎ ((c ≡ END) ⊎ (c ≡ FREE)) → (c ≢ FATSECT) × (c ≢ DIFSECT)
  plain_unmarked c (inl a) = (omega (arith, o.few), omega (arith, o.few))
  plain_unmarked c (inr (inl a)) = (omega arith, omega arith)
  plain_unmarked c (inr (inr a)) = (omega arith, omega arith)

  abbrev marked : ℕ → Type 0
  marked s = (eqb (fresh_cell g p s) FATSECT ≡ member s (run 0 F)) × (eqb (fresh_cell g p s) DIFSECT ≡ member s (run F D))

  marks : (s : ℕ) → marked s
  marks s =
      elim (dec_lt s F) [
        | yes a ↦
            let e = cell_fat g p z q s a in (
              eq-eqb (fresh_cell g p s) FATSECT e ∙ sym (member_in 0 F s (omega arith) (omega arith)),
              ne_eqb (fresh_cell g p s) DIFSECT (omega (arith, e)) ∙ sym (member_before F D s a),
            )
        | no a ↦
            elim (dec_lt s (F + D)) [
              | yes b ↦
                  let e = cell_difat g p z q s (omega arith) (omega (arith, o)) in (
                    ne_eqb (fresh_cell g p s) FATSECT (omega (arith, e)) ∙ sym (member_behind 0 F s (omega arith)),
                    eq-eqb (fresh_cell g p s) DIFSECT e ∙ sym (member_in F D s (omega arith) b),
                  )
              | no b ↦
                  let e = plain_unmarked (fresh_cell g p s) (cell_plain g p z q s (omega (arith, o))) in (
                    ne_eqb (fresh_cell g p s) FATSECT e.0 ∙ sym (member_behind 0 F s (omega arith)),
                    ne_eqb (fresh_cell g p s) DIFSECT e.1 ∙ sym (member_behind F D s (omega arith)),
                  )
            ]
      ]

  marks_rule : table_marks g img ≡ true
  unfolding table_marks mark_right
  marks_rule =
      below_of (sector_count g img) (mark_right g img)
      (λ s l. rw (fat_cell_is s, fat_sectors_are g p h q, difat_sectors_are g p h q, (marks s).0, (marks s).1)
      (and_true_of (beq (member s (run 0 F)) (member s (run 0 F))) (beq (member s (run F D)) (member s (run F D)))
      (beq_self (member s (run 0 F))) (beq_self (member s (run F D)))))

  pub table_rule : table_rules g img ≡ true
  unfolding table_rules
  table_rule = rw (counts_rule, ends_rule, rest_rule, sectors_rule) marks_rule

  -- ---- GROUP 12

  plain_test : (c : ℕ) → (c < p.sectors) ⊎ ((c ≡ END) ⊎ (c ≡ FREE)) → (ltb c p.sectors || eqb c END || eqb c FREE) ≡ true
  plain_test c (inl a) = rw (lt-ltb c p.sectors a)
  plain_test c (inr (inl a)) = rw (eq-eqb c END a, or-true (ltb c p.sectors))
  plain_test c (inr (inr a)) = rw (eq-eqb c FREE a) (or-true (ltb c p.sectors || eqb c END))

  cell_test : (s : ℕ) → (table_mark (fresh_cell g p s) || (ltb (fresh_cell g p s) p.sectors || eqb (fresh_cell g p s) END || eqb (fresh_cell g p s) FREE)) ≡ true
  unfolding table_mark
  cell_test s =
      elim (dec_lt s F) [
        | yes a ↦ rw (eq-eqb (fresh_cell g p s) FATSECT (cell_fat g p z q s a))
        | no a ↦
            elim (dec_lt s (directory_from g p)) [
              | yes b ↦
                  rw (eq-eqb (fresh_cell g p s) DIFSECT (cell_difat g p z q s (omega arith) b), or-true (eqb (fresh_cell g p s) FATSECT))
              | no b ↦
                  rw (plain_test (fresh_cell g p s) (cell_plain g p z q s (omega arith)))
                  (or-true (eqb (fresh_cell g p s) FATSECT || eqb (fresh_cell g p s) DIFSECT))
            ]
      ]

  pub cell_rule : cell_rules (sector_space g img) ≡ true
  unfolding cell_rules rest_free fat_cell_right plain_cell spare_cell_free sector_space
  cell_rule =
      rw (sector_count_lem g p h q)
      (and_true_of _ _
      (below_of p.sectors _ (λ s l. rw (fat_cell_is s) (cell_test s)))
      (below_of (fat_cells g img - p.sectors) _ (λ i l. rw (fat_cell_is (p.sectors + i))
      (eq-eqb (fresh_cell g p (p.sectors + i)) FREE (cell_free g p z q (p.sectors + i) (omega (arith, o)))))))
