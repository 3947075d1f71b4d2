-- The sectors of the tables and of the directory are different ones, so that the walk over the trees has room in the work buffer.
use Prim.Native.Nat.{ℕ, ◌+◌, ◌*◌, ◌≤◌, ◌<◌}
use mathlib.Core.Path.{◌≡◌, sym, ◌∙◌, ap}
use mathlib.Core.Logic.{◌≢◌, ◌⊎◌, inl, inr, ⊎_elim}
use mathlib.Core.Bool.{true, ◌&&◌, beq}
use mathlib.Core.List.{List, [], ◌∷◌, ◌++◌}
use native.Mathlib.Decide.{dec_lt}
use native.Mathlib.Omega.{arith}
use lib.Dec.{eqb}
use lib.ListN.{length, length-append}
use borrow.Author.Tests.{ltb-true, ltb-false, ne_eqb}
use Rattle.format.specs.Basics.Bytes.{Bytes}
use Rattle.format.specs.Basics.Lists.{all, bit, count, member, distinct}
use Rattle.format.specs.Layout.Geometry.{Geometry, sector_count, entries_in}
use Rattle.format.specs.Layout.Chain.{END, FATSECT, DIFSECT, start_of}
use Rattle.format.specs.Layout.Header.{fat_count, difat_count}
use Rattle.format.specs.Layout.Tables.{difat_sector, difat_entry, fat_sectors, difat_sectors, fat_cell}
use Rattle.format.specs.Layout.Volume.{directory_sectors_of, volume}
use Rattle.format.specs.Rules.Tables.{table_rules, table_counts, difat_ends, difat_rest, table_sectors, table_marks, is_sector, mark_right}
use Rattle.format.specs.Rules.Directory.{directory_rules}
use Rattle.theory.specs.Links.{Linked}
use Rattle.theory.proofs.Below.{length_below}
use Rattle.theory.proofs.Chains.{linked_below, linked_once}
use Rattle.theory.proofs.Counts.{eqb_cases, count_append, pigeonhole}
use Rattle.theory.proofs.Loops.{distinct_once}
use Rattle.theory.proofs.Tests.{both, below_at, all_at, beq_equal}
use Rattle.header.specs.Sized.{ImageSized, F, D}
use Rattle.tables.specs.Listed.{list_place}
use Rattle.directory.proofs.Places.{entries_few_lem}
use Rattle.directory.proofs.Sectors.{directory_linked}

-- ---- the cells of a chain

head_cell : (f : ℕ → ℕ) (N : ℕ) (us : List ℕ) → Linked f N us → (start_of us ≡ END) ⊎ (start_of us < N)
head_cell f N [] h = inl (omega arith)
head_cell f N (u ∷ us) h = inr h.0

-- each ends the chain, or names a sector
chain_cell : (f : ℕ → ℕ) (N : ℕ) (us : List ℕ) → Linked f N us → (s : ℕ) → 0 < count s us → (f s ≡ END) ⊎ (f s < N)
chain_cell f N [] h s q = absurd (omega arith)
chain_cell f N (u ∷ us) h s q =
    elim (eqb_cases s u) [
      | inl e ↦ rw (e.0, h.1) (head_cell f N us h.2)
      | inr e ↦ chain_cell f N us h.2 s (omega (arith, ap bit e.1))
    ]

module _ (g : Geometry) (img : Bytes) where
  -- ---- the sectors of the tables

  abbrev tables : List ℕ
  tables = fat_sectors g img ++ difat_sectors g img

  tables_long : length tables ≡ F img + D img
  unfolding fat_sectors difat_sectors fat_count difat_count
  tables_long =
      omega (arith, length-append (fat_sectors g img) (difat_sectors g img), length_below (F img) (difat_entry g img), length_below (D img) (difat_sector g img))

  module _ (z : ImageSized g img) (t : table_rules g img ≡ true) where
    parts : (table_sectors g img ≡ true) × (table_marks g img ≡ true)
    unfolding table_rules
    parts =
        let front = table_counts g img && difat_ends g img && difat_rest g img in
        let b = both (front && table_sectors g img) (table_marks g img) t in
        ((both front (table_sectors g img) b.0).1, b.1)

    sectors : (all (is_sector g img) tables ≡ true) × (distinct tables ≡ true)
    unfolding table_sectors
    sectors = both (all (is_sector g img) tables) (distinct tables) parts.0

    table_below : (s : ℕ) → 0 < count s tables → s < sector_count g img
    unfolding is_sector
    table_below s h = ltb-true s (sector_count g img) (all_at (is_sector g img) tables sectors.0 s h)

    pub table_once : (s : ℕ) → count s tables ≤ 1
    table_once s = distinct_once tables s sectors.1

    pub marks_at_lem : (s : ℕ) → s < sector_count g img → (eqb (fat_cell g img s) FATSECT ≡ member s (fat_sectors g img)) × (eqb (fat_cell g img s) DIFSECT ≡ member s (difat_sectors g img))
    unfolding table_marks mark_right
    marks_at_lem s h =
        let a = below_at (sector_count g img) (mark_right g img) parts.1 s h in
        let b = both (beq (eqb (fat_cell g img s) FATSECT) (member s (fat_sectors g img))) (beq (eqb (fat_cell g img s) DIFSECT) (member s (difat_sectors g img))) a in
        (beq_equal (eqb (fat_cell g img s) FATSECT) (member s (fat_sectors g img)) b.0, beq_equal (eqb (fat_cell g img s) DIFSECT) (member s (difat_sectors g img)) b.1)

    -- a sector whose cell has neither mark is none of them
    pub unmarked : (s : ℕ) → s < sector_count g img → fat_cell g img s ≢ FATSECT → fat_cell g img s ≢ DIFSECT → count s tables ≡ 0
    unfolding member
    unmarked s h p q =
        let a = ltb-false 0 (count s (fat_sectors g img)) (sym (marks_at_lem s h).0 ∙ ne_eqb (fat_cell g img s) FATSECT p) in
        let b = ltb-false 0 (count s (difat_sectors g img)) (sym (marks_at_lem s h).1 ∙ ne_eqb (fat_cell g img s) DIFSECT q) in
        omega (arith, count_append s (fat_sectors g img) (difat_sectors g img))

    -- ---- and those of the directory

    module _ (h : directory_rules (volume g img) ≡ true) where
      abbrev n : ℕ
      n = length (directory_sectors_of g img)

      not_table : (s : ℕ) → 0 < count s (directory_sectors_of g img) → count s tables ≡ 0
      not_table s q =
          let l = directory_linked g img h in
          let few = z.few in
          let c = chain_cell (fat_cell g img) (sector_count g img) (directory_sectors_of g img) l s q in
          unmarked s (linked_below (fat_cell g img) (sector_count g img) (directory_sectors_of g img) l s q)
          (λ e. ⊎_elim (λ w. omega arith) (λ w. omega arith) c)
          (λ e. ⊎_elim (λ w. omega arith) (λ w. omega arith) c)

      below : (s : ℕ) → 0 < count s (tables ++ directory_sectors_of g img) → s < sector_count g img
      below s q =
          elim (dec_lt 0 (count s tables)) [
            | yes p ↦ table_below s p
            | no p ↦
                linked_below (fat_cell g img) (sector_count g img) (directory_sectors_of g img) (directory_linked g img h) s
                (omega (arith, count_append s tables (directory_sectors_of g img)))
          ]

      once : (s : ℕ) → count s (tables ++ directory_sectors_of g img) ≤ 1
      once s =
          let a = count_append s tables (directory_sectors_of g img) in
          let o = linked_once (fat_cell g img) (sector_count g img) (omega (arith, z.few)) (directory_sectors_of g img) (directory_linked g img h) s in
          elim (dec_lt 0 (count s (directory_sectors_of g img))) [
            | yes p ↦ omega (arith, a, o, not_table s p)
            | no p ↦ omega (arith, a, table_once s)
          ]

      -- different sectors are at most as many as there are sectors
      pub tables_apart : F img + D img + length (directory_sectors_of g img) ≤ sector_count g img
      tables_apart = omega (arith, pigeonhole (tables ++ directory_sectors_of g img) (sector_count g img) below once, length-append tables (directory_sectors_of g img), tables_long)

      -- the directory's list, three numbers for each entry, and two more
      pub walk_room : length (directory_sectors_of g img) + 3 * (entries_in g * length (directory_sectors_of g img)) + 2 ≤ list_place img
      walk_room = let a = tables_apart in omega (arith, entries_few_lem z n (omega arith), a, z.many)
