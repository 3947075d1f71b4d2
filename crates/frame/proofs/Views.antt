-- What is read off an image where only sectors T were written, none of them a DIFAT sector: header, DIFAT, and any table's cells elsewhere.
use mathlib.Core.Path.{◌≡◌, ◌∙◌, fun_ext, refl, ap}
use mathlib.Core.List.{List}
use mathlib.Core.Bool.{Bool, true, false, cond, ◌&&◌}
use Prim.Native.Nat.{ℕ, zero, suc, ◌+◌, ◌-◌, ◌*◌, ◌/◌, ◌%◌, ◌≤◌, ◌<◌}
use native.Mathlib.Nat.{mod-lt, div-lt_iff_lt-mul, mul_comm}
use native.Mathlib.Omega.{arith}
use lib.Dec.{eqb, ltb}
use lib.ListN.{length, get_or}
use borrow.Author.Tests.{ltb-true, ltb-false}
use Rattle.format.specs.Basics.Lists.{count}
use Rattle.format.specs.Basics.Bytes.{Bytes, part, number, u16at, u32at}
use Rattle.format.specs.Layout.Geometry.{Geometry, sector_place, place_in, cells_in, difat_in, header_difat, sector_count, header_bytes}
use Rattle.format.specs.Rules.Header.{header_rules}
use Rattle.format.specs.Layout.Header.{fat_count, difat_count, difat_start, mini_fat_count, directory_start, mini_fat_start, difat_place, major_version, directory_count}
use Rattle.format.specs.Layout.Chain.{FREE, FATSECT, DIFSECT}
use Rattle.format.specs.Layout.Tables.{difat_sector, difat_entry, cell_place_in, cell_in, fat_sectors, difat_sectors, fat_cells, fat_cell}
use Rattle.format.specs.Rules.Tables.{difat_need, table_counts, difat_ends, difat_rest, table_sectors, spare_entry_free, is_sector, mark_right, table_marks, table_rules}
use Rattle.theory.proofs.Counts.{count_at}
use Rattle.theory.proofs.Tests.{below_ext}
use Rattle.frame.specs.Kept.{Sized, Kept, Off}
use Rattle.frame.proofs.Kept.{number_head, part_head, number_body}
use Rattle.frame.proofs.Places.{thing_fits, thing_index}
use Rattle.theory.proofs.Picks.{count_below}
use Rattle.theory.proofs.RoundUp.{round_enough}
use Rattle.theory.proofs.Below.{list_below_ext}

difat_some : (g : Geometry) → Sized g → 0 < difat_in g
unfolding difat_in cells_in
difat_some g z = let w = z.wide in omega arith

difat_close : (g : Geometry) → Sized g → 4 * difat_in g + 4 ≤ g.sector_bytes
unfolding difat_in cells_in
difat_close g z = let w = z.wide in omega arith

module _ (g : Geometry) (z : Sized g) (T : List ℕ) (a b : Bytes) (x : Kept g (Off T) a b) where
  -- ---- the header

  pub kept_fat_count : fat_count b ≡ fat_count a
  unfolding fat_count u32at
  kept_fat_count = let w = z.wide in number_head g (Off T) a b x 44 4 (omega arith)

  pub kept_directory_count : directory_count b ≡ directory_count a
  unfolding directory_count u32at
  kept_directory_count = let w = z.wide in number_head g (Off T) a b x 40 4 (omega arith)

  pub kept_directory_start : directory_start b ≡ directory_start a
  unfolding directory_start u32at
  kept_directory_start = let w = z.wide in number_head g (Off T) a b x 48 4 (omega arith)

  pub kept_mini_fat_start : mini_fat_start b ≡ mini_fat_start a
  unfolding mini_fat_start u32at
  kept_mini_fat_start = let w = z.wide in number_head g (Off T) a b x 60 4 (omega arith)

  pub kept_mini_fat_count : mini_fat_count b ≡ mini_fat_count a
  unfolding mini_fat_count u32at
  kept_mini_fat_count = let w = z.wide in number_head g (Off T) a b x 64 4 (omega arith)

  pub kept_difat_start : difat_start b ≡ difat_start a
  unfolding difat_start u32at
  kept_difat_start = let w = z.wide in number_head g (Off T) a b x 68 4 (omega arith)

  pub kept_difat_count : difat_count b ≡ difat_count a
  unfolding difat_count u32at
  kept_difat_count = let w = z.wide in number_head g (Off T) a b x 72 4 (omega arith)

  pub kept_sector_count : sector_count g b ≡ sector_count g a
  unfolding sector_count
  kept_sector_count = ap (λ (n : ℕ). n / g.sector_bytes - 1) x.size

  hp : (k n : ℕ) → k + n ≤ 512 → part b k n ≡ part a k n
  hp k n h = let w = z.wide in part_head g (Off T) a b x k n (omega arith)

  pub kept_header : header_rules g b ≡ header_rules g a
  unfolding header_rules major_version directory_count header_bytes u16at u32at
  kept_header =
      let w = z.wide in
      rw (
        hp 0 8 (omega arith),
        hp 8 16 (omega arith),
        hp 26 2 (omega arith),
        hp 28 2 (omega arith),
        hp 30 2 (omega arith),
        hp 32 2 (omega arith),
        hp 34 6 (omega arith),
        hp 40 4 (omega arith),
        hp 56 4 (omega arith),
        part_head g (Off T) a b x 512 (g.sector_bytes - 512) (omega arith),
      )

  pub kept_fat_cells : fat_cells g b ≡ fat_cells g a
  unfolding fat_cells
  kept_fat_cells = ap (λ (n : ℕ). cells_in g * n) kept_fat_count

  -- ---- a table's cells, none of whose sectors was written

  pub kept_cell : (secs : List ℕ) → ((s : ℕ) → 0 < count s secs → count s T ≡ 0) → (s : ℕ)
      → cell_in g b secs (cells_in g * length secs) s ≡ cell_in g a secs (cells_in g * length secs) s
  unfolding cell_in cell_place_in place_in u32at cells_in
  kept_cell secs off s = go (ltb s (g.sector_bytes / 4 * length secs)) refl
    where
      S4 : g.sector_bytes ≡ g.sector_bytes / 4 * 4
      S4 = let e = z.even in omega arith

      sector_some : 0 < g.sector_bytes
      sector_some = let e = z.wide in omega arith

      go : (t : Bool) → ltb s (g.sector_bytes / 4 * length secs) ≡ t
          → cond t (number (part b (sector_place g (get_or secs (4 * s / g.sector_bytes) 0) + 4 * s % g.sector_bytes) 4)) FREE
          ≡ cond t (number (part a (sector_place g (get_or secs (4 * s / g.sector_bytes) 0) + 4 * s % g.sector_bytes) 4)) FREE
      go true h =
          let k = count_at secs (4 * s / g.sector_bytes) 0 (thing_index g.sector_bytes 4 (g.sector_bytes / 4) S4 sector_some (length secs) s (ltb-true s (g.sector_bytes / 4 * length secs) h)) in
          number_body g (Off T) a b x (get_or secs (4 * s / g.sector_bytes) 0) (4 * s % g.sector_bytes) 4 (thing_fits g.sector_bytes 4 (g.sector_bytes / 4) S4 sector_some s)
          (λ i l. off (get_or secs (4 * s / g.sector_bytes) 0) k)
      go false h = refl

  -- ---- the DIFAT

  module _ (needs : difat_count a ≡ difat_need g (fat_count a)) (off : (s : ℕ) → 0 < count s (difat_sectors g a) → count s T ≡ 0) where
    off_at : (j : ℕ) → j < difat_count a → count (difat_sector g a j) T ≡ 0
    unfolding difat_sectors
    off_at j h = off (difat_sector g a j) (count_below (difat_count a) (difat_sector g a) j h)

    pub kept_difat_sector : (k : ℕ) → k ≤ difat_count a → difat_sector g b k ≡ difat_sector g a k
    unfolding difat_sector u32at difat_in cells_in
    kept_difat_sector zero h = kept_difat_start
    kept_difat_sector (suc k) h =
        let w = z.wide in
        let r = kept_difat_sector k (omega arith) in
        rw r (number_body g (Off T) a b x (difat_sector g a k) (4 * (g.sector_bytes / 4 - 1)) 4 (omega arith) (λ i l. off_at k (omega arith)))

    pub kept_difat_entry : (i : ℕ) → i < 109 + difat_in g * difat_count a → difat_entry g b i ≡ difat_entry g a i
    unfolding difat_entry header_difat difat_place u32at
    kept_difat_entry i h = go (ltb i 109) refl
      where
        go : (t : Bool) → ltb i 109 ≡ t
            → cond t (number (part b (76 + 4 * i) 4)) (number (part b (sector_place g (difat_sector g b ((i - 109) / difat_in g)) + 4 * ((i - 109) % difat_in g)) 4))
            ≡ cond t (number (part a (76 + 4 * i) 4)) (number (part a (sector_place g (difat_sector g a ((i - 109) / difat_in g)) + 4 * ((i - 109) % difat_in g)) 4))
        go true e = let w = z.wide in let l = ltb-true i 109 e in number_head g (Off T) a b x (76 + 4 * i) 4 (omega arith)
        go false e =
            let l = ltb-false i 109 e in
            let p = difat_some g z in
            let m = mul_comm (difat_in g) (difat_count a) in
            let q : (i - 109) / difat_in g < difat_count a = (div-lt_iff_lt-mul p).1 (omega arith) in
            let r = mod-lt (i - 109) p in
            let c = difat_close g z in
            rw (kept_difat_sector ((i - 109) / difat_in g) (omega arith))
            (number_body g (Off T) a b x (difat_sector g a ((i - 109) / difat_in g)) (4 * ((i - 109) % difat_in g)) 4 (omega (arith, r, c)) (λ k n. off_at ((i - 109) / difat_in g) q))

    fits : fat_count a ≤ 109 + difat_in g * difat_count a
    unfolding difat_need header_difat
    fits = let r = round_enough (fat_count a - 109) (difat_in g) (difat_some g z) in omega (arith, r, ap (λ (n : ℕ). n * difat_in g) needs, mul_comm (difat_in g) (difat_count a))

    pub kept_fat : fat_sectors g b ≡ fat_sectors g a
    unfolding fat_sectors
    kept_fat =
        rw kept_fat_count (list_below_ext (fat_count a) (difat_entry g a) (difat_entry g b) (λ i l. kept_difat_entry i (omega (arith, fits))))

    pub kept_difat : difat_sectors g b ≡ difat_sectors g a
    unfolding difat_sectors
    kept_difat =
        rw kept_difat_count (list_below_ext (difat_count a) (difat_sector g a) (difat_sector g b) (λ i l. kept_difat_sector i (omega arith)))

    kept_counts : table_counts g b ≡ table_counts g a
    unfolding table_counts
    kept_counts = rw (kept_fat_count, kept_sector_count, kept_fat_cells, kept_difat_count)

    kept_ends : difat_ends g b ≡ difat_ends g a
    unfolding difat_ends
    kept_ends = rw (kept_difat_count, kept_difat_sector (difat_count a) (omega arith))

    kept_rest : difat_rest g b ≡ difat_rest g a
    unfolding difat_rest header_difat spare_entry_free
    kept_rest =
        rw (kept_difat_count, kept_fat_count)
        (below_ext (109 + difat_in g * difat_count a - fat_count a) (spare_entry_free g a) (spare_entry_free g b)
        (λ i l. ap (λ (n : ℕ). eqb n FREE) (ap (λ (f : ℕ). difat_entry g b (f + i)) kept_fat_count ∙ kept_difat_entry (fat_count a + i) (omega arith))))

    kept_is_sector : is_sector g b ≡ is_sector g a
    unfolding is_sector
    kept_is_sector = fun_ext (λ s. ap (λ (n : ℕ). ltb s n) kept_sector_count)

    kept_table_sectors : table_sectors g b ≡ table_sectors g a
    unfolding table_sectors
    kept_table_sectors = rw (kept_is_sector, kept_fat, kept_difat)

    -- group 11, where the cells of sectors keep the marks of tables
    pub kept_tables : ((s : ℕ) → s < sector_count g a → (eqb (fat_cell g b s) FATSECT ≡ eqb (fat_cell g a s) FATSECT) × (eqb (fat_cell g b s) DIFSECT ≡ eqb (fat_cell g a s) DIFSECT))
        → table_rules g b ≡ table_rules g a
    unfolding table_rules table_marks mark_right
    kept_tables marks =
        rw (kept_counts, kept_ends, kept_rest, kept_table_sectors, kept_sector_count)
        (ap (λ (t : Bool). table_counts g a && difat_ends g a && difat_rest g a && table_sectors g a && t)
        (below_ext (sector_count g a) (mark_right g a) (mark_right g b) (λ s l. rw (kept_fat, kept_difat, (marks s l).0, (marks s l).1))))
