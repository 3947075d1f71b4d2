-- The marked lists against the test of the table sectors.
use Prim.Native.Nat.{ℕ, ◌+◌, ◌*◌, ◌≤◌, ◌<◌}
use mathlib.Core.Path.{◌≡◌, refl, ◌∙◌, ap}
use mathlib.Core.Bool.{Bool, true, false, ◌&&◌, and-false}
use mathlib.Core.List.{List, ◌++◌}
use mathlib.Core.Logic.{inl, inr, ⊎_elim}
use native.Mathlib.Decide.{dec_lt}
use native.Mathlib.Omega.{arith}
use lib.Dec.{ltb}
use lib.ListN.{get_or, length-append}
use borrow.Author.Tests.{lt-ltb, le-ltb, ltb-true}
use Rattle.format.specs.Basics.Bytes.{Bytes}
use Rattle.format.specs.Basics.Lists.{all_below, all, list_below, count, distinct, bit}
use Rattle.format.specs.Layout.Geometry.{Geometry, sector_count}
use Rattle.format.specs.Layout.Header.{fat_count, difat_count}
use Rattle.format.specs.Layout.Tables.{difat_sector, difat_entry, fat_sectors, difat_sectors}
use Rattle.format.specs.Rules.Tables.{is_sector, table_sectors}
use Rattle.theory.proofs.Counts.{count_append, pigeonhole}
use Rattle.theory.proofs.Tests.{both, all_at, all_append, below_of}
use Rattle.theory.proofs.Below.{list_below_ext, length_below}
use Rattle.header.specs.Sized.{F, D}
use Rattle.tables.specs.Work.{Wrote, Holds}
use Rattle.tables.specs.Stages.{difat_below, listed, times, ListMarked, ListFails, TableMarked, StageArgs, Built}
use Rattle.theory.proofs.Loops.{below_not, all_below_lem, count_absent, distinct_of, distinct_not, distinct_once}
use Rattle.tables.proofs.WorkLaws.{holds_kept}
use Rattle.tables.proofs.DifatLaws.{difat_below_lem, difat_not}

-- ---- the test, by the numbers of the lists

fat_below : Geometry → Bytes → ℕ → Bool
fat_below g img k = ltb (difat_entry g img k) (sector_count g img)

module _ (g : Geometry) (img : Bytes) where
  all_fats : all (is_sector g img) (fat_sectors g img) ≡ all_below (F img) (fat_below g img)
  unfolding fat_sectors fat_count fat_below is_sector
  all_fats = all_below_lem (is_sector g img) (F img) (difat_entry g img)

  all_difats : all (is_sector g img) (difat_sectors g img) ≡ all_below (D img) (difat_below g img)
  unfolding difat_sectors difat_count difat_below is_sector
  all_difats = all_below_lem (is_sector g img) (D img) (difat_sector g img)

  sectors_are : table_sectors g img ≡ ((all_below (F img) (fat_below g img) && all_below (D img) (difat_below g img)) && distinct (fat_sectors g img ++ difat_sectors g img))
  unfolding table_sectors
  sectors_are = rw (all_append (is_sector g img) (fat_sectors g img) (difat_sectors g img), all_fats, all_difats)

  -- different sectors are at most as many as there are sectors
  pub few_tables : table_sectors g img ≡ true → F img + D img ≤ sector_count g img
  unfolding table_sectors is_sector fat_sectors difat_sectors fat_count difat_count
  few_tables h =
      let xs = fat_sectors g img ++ difat_sectors g img in
      let p = both (all (is_sector g img) xs) (distinct xs) h in
      omega (
        arith,
        length-append (fat_sectors g img) (difat_sectors g img),
        length_below (F img) (difat_entry g img),
        length_below (D img) (difat_sector g img),
        pigeonhole xs (sector_count g img) (λ s c. ltb-true _ _ (all_at (is_sector g img) xs p.0 s c)) (λ s. distinct_once xs s p.1),
      )

  fats_count : (s : ℕ) → count s (fat_sectors g img) ≡ count s (list_below (F img) (difat_entry g img))
  unfolding fat_sectors fat_count
  fats_count s = refl

  difats_count : (s : ℕ) → count s (difat_sectors g img) ≡ count s (list_below (D img) (difat_sector g img))
  unfolding difat_sectors difat_count
  difats_count s = refl

  fat_not : (k : ℕ) → sector_count g img ≤ difat_entry g img k → fat_below g img k ≡ false
  unfolding fat_below
  fat_not k h = le-ltb _ _ h

  fat_below_lem : (k : ℕ) → difat_entry g img k < sector_count g img → fat_below g img k ≡ true
  unfolding fat_below
  fat_below_lem k h = lt-ltb _ _ h

  -- where a DIFAT sector is none, the sectors are not right
  pub difats_out : all_below (D img) (difat_below g img) ≡ false → table_sectors g img ≡ false
  difats_out h = sectors_are ∙ rw (h, and-false (all_below (F img) (fat_below g img)))

  -- a sector that stands twice
  twice : (s : ℕ) → 1 < count s (fat_sectors g img) + count s (difat_sectors g img) → table_sectors g img ≡ false
  twice s h =
      sectors_are
      ∙ rw (distinct_not (fat_sectors g img ++ difat_sectors g img) s (omega (arith, count_append s (fat_sectors g img) (difat_sectors g img)))) (and-false (all_below (F img) (fat_below g img) && all_below (D img) (difat_below g img)))

-- ---- the lists in the work buffer

times_are : {w : List ℕ} {at n : ℕ} {f : ℕ → ℕ} → Holds w at n f → (s : ℕ) → times w at n s ≡ count s (list_below n f)
unfolding times listed
times_are {w} {at} {n} {f} h s = ap (count s) (list_below_ext n f (λ k. get_or w (at + k) 0) h.here)

listed_is : {w : List ℕ} {at n : ℕ} {f : ℕ → ℕ} → Holds w at n f → (k : ℕ) → k < n → listed w at k ≡ f k
unfolding listed
listed_is h k l = h.here k l

-- the lists stand in the work buffer, and no sector has a mark
pub record Unmarked (g : Geometry) (img : Bytes) (w : List ℕ) (list : ℕ) : Type 0 where
  pub built : Built g img w list
  pub clear : (u : ℕ) → u < sector_count g img → get_or w u 0 ≡ 0

-- the lists stand behind the marks
pub apart : {g : Geometry} {img : Bytes} {w : List ℕ} {n f d list : ℕ} → StageArgs g img w n f d list → sector_count g img ≤ list
apart a = omega (arith, a.place, a.counted.few, a.counted.sized.many)

module _ {g : Geometry} {img : Bytes} {w₁ : List ℕ} {n f d list : ℕ} (a : StageArgs g img w₁ n f d list) (m : Unmarked g img w₁ list) where
  b : Built g img w₁ list
  b = m.built

  pub fats_fail : ListFails w₁ (sector_count g img) list (F img) → table_sectors g img ≡ false
  fats_fail (inl x) = sectors_are g img ∙ rw (below_not (fat_below g img) (F img) x.0 x.1 (fat_not g img x.0 (omega (arith, x.2, listed_is b.fats x.0 x.1))))
  fats_fail (inr x) = twice g img x.0 (omega (arith, x.2, times_are b.fats x.0, fats_count g img x.0, ap bit (le-ltb 0 (get_or w₁ x.0 0) (omega (arith, m.clear x.0 x.1)))))

  module _ {w₂ : List ℕ} (wr : Wrote w₁ w₂ 0 (sector_count g img)) (one : ListMarked w₁ w₂ (sector_count g img) list (F img) 1) where
    difats : Holds w₂ (list + F img) (D img) (difat_sector g img)
    difats = holds_kept b.difats wr (inr (omega (arith, apart a)))

    pub difats_fail : ListFails w₂ (sector_count g img) (list + F img) (D img) → table_sectors g img ≡ false
    difats_fail (inl x) = difats_out g img (below_not (difat_below g img) (D img) x.0 x.1 (difat_not g img x.0 (omega (arith, x.2, listed_is difats x.0 x.1))))
    difats_fail (inr x) =
        let s = x.0 in
        let a = times_are b.fats s in
        let b = fats_count g img s in
        let c = times_are difats s in
        let d = difats_count g img s in
        let h = x.2 in
        twice g img s
        (⊎_elim
        (λ q. let e = ap bit (le-ltb 0 (get_or w₂ s 0) (omega (arith, q.1, m.clear s x.1))) in omega arith)
        (λ q. let e = ap bit (lt-ltb 0 (get_or w₂ s 0) (omega (arith, q.2))) in omega arith)
        (one.marked s x.1))

    module _ {w₃ : List ℕ} (two : ListMarked w₂ w₃ (sector_count g img) (list + F img) (D img) 2) where
      pub fat_in : (k : ℕ) → k < F img → difat_entry g img k < sector_count g img
      fat_in k l = omega (arith, one.below k l, listed_is b.fats k l)

      difat_in_lem : (k : ℕ) → k < D img → difat_sector g img k < sector_count g img
      difat_in_lem k l = omega (arith, two.below k l, listed_is difats k l)

      -- each sector stands once at most, and the marks say where
      marks_say : (s : ℕ) → s < sector_count g img
          → (count s (fat_sectors g img) + count s (difat_sectors g img) ≤ 1) × (get_or w₃ s 0 ≡ count s (fat_sectors g img) + 2 * count s (difat_sectors g img))
      marks_say s l =
          let a = times_are b.fats s in
          let b = fats_count g img s in
          let c = times_are difats s in
          let d = difats_count g img s in
          let z = m.clear s l in
          ⊎_elim (λ m. ⊎_elim (λ n. omega arith) (λ n. omega arith) (two.marked s l)) (λ m. ⊎_elim (λ n. omega arith) (λ n. omega arith) (two.marked s l)) (one.marked s l)

      at_most : (s : ℕ) → count s (fat_sectors g img) + count s (difat_sectors g img) ≤ 1
      at_most s =
          elim (dec_lt s (sector_count g img)) [
            | yes l ↦ (marks_say s l).0
            | no l ↦
                omega (
                  arith,
                  fats_count g img s,
                  difats_count g img s,
                  count_absent s (F img) (difat_entry g img) (λ k q e. omega (arith, fat_in k q)),
                  count_absent s (D img) (difat_sector g img) (λ k q e. omega (arith, difat_in_lem k q)),
                )
          ]

      pub sectors_pass : table_sectors g img ≡ true
      sectors_pass =
          sectors_are g img
          ∙ rw (
            below_of (F img) (fat_below g img) (λ k l. fat_below_lem g img k (fat_in k l)),
            below_of (D img) (difat_below g img) (λ k l. difat_below_lem g img k (difat_in_lem k l)),
            distinct_of (fat_sectors g img ++ difat_sectors g img) (λ s. omega (arith, count_append s (fat_sectors g img) (difat_sectors g img), at_most s)),
          )

      pub sectors_marked : TableMarked g img w₃
      sectors_marked = record { single = at_most; mark = λ s l. (marks_say s l).1 }
