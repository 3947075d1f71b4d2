-- Cells, entries and sectors of a fresh image, by the parts that the code has worked out.
use Prim.Native.Nat.{ℕ, zero, suc, ◌+◌, ◌-◌, ◌*◌, ◌≤◌, ◌<◌}
use mathlib.Core.Path.{◌≡◌, refl, sym, ap, ◌∙◌}
use mathlib.Core.Logic.{◌≢◌}
use mathlib.Core.Bool.{Bool, true, false, cond}
use native.Mathlib.Nat.{mul-le-mul}
use native.Mathlib.Omega.{arith}
use lib.Dec.{ltb}
use lib.ListN.{length, replicate}
use borrow.Author.Tests.{lt-ltb, le-ltb}
use Rattle.format.specs.Basics.Lists.{join_below}
use Rattle.format.specs.Basics.Bytes.{Bytes}
use Rattle.format.specs.Layout.Geometry.{header_difat, mini_bytes, cells_in, difat_in, entries_in}
use Rattle.format.specs.Layout.Chain.{FREE, FATSECT, DIFSECT}
use Rattle.format.specs.Layout.NewEntry.{blank_entry}
use Rattle.format.specs.Fresh.Plan.{fat_part, difat_from, directory_from, mini_fat_from, mini_stream_from, mini_stream_part, mini_stream_bytes, start_from}
use Rattle.format.specs.Fresh.Cells.{link_in, fresh_cell, fresh_difat, difat_number}
use Rattle.format.specs.Fresh.Header.{numbers_below}
use Rattle.format.specs.Fresh.Image.{root_entry, fresh_entry, fat_number, mini_number, fat_block, difat_block, directory_entry, directory_block, mini_fat_block, fresh_sector}
use Rattle.frame.specs.Kept.{Sized}
use Rattle.fresh.specs.Facts.{Planned}
use Rattle.fresh.proofs.Numbers.{cells_fill, difat_one_less, entries_fill, stream_short, Order, order}
use Rattle.fresh.proofs.Cells.{cell_fat, cell_difat, cell_directory, cell_mini_fat, cell_stream, cell_free}
use Rattle.fresh.proofs.Blocks.{length_entry}
use Rattle.fresh_sectors.specs.declared.Parts.{Parts}
use Rattle.fresh_sectors.specs.Parts.{Stands, sizes, plan}
use Rattle.fresh_sectors.specs.Tables.{table_number, entry_from}

-- ---- what omega reads

-- the parts in their order, and few sectors
pub record Risen (l : Parts) : Type 0 where
  pub to_directory : l.difat.0 ≤ l.directory.0
  pub to_mini_fat : l.directory.0 < l.minifat.0
  pub to_stream : l.minifat.0 ≤ l.stream.0
  pub to_spare : l.stream.0 ≤ l.spare.0
  pub few : l.spare.0 < 0x2_0000

module _ (l : Parts) (st : Stands l) where
  abbrev z : Sized (sizes l)
  z = st.headed.sized

  abbrev q : Planned (sizes l) (plan l)
  q = st.planned

  pub parts_order : Order (sizes l) (plan l) z q
  parts_order = order (sizes l) (plan l) z q

  pub parts_risen : Risen l
  parts_risen =
      let o = parts_order in
      let p = st.placed in
      record {
        to_directory = omega arith;
        to_mini_fat = omega arith;
        to_stream = omega arith;
        to_spare = omega arith;
        few = omega arith;
      }

  pub cells_few : cells_in (sizes l) ≤ 1024
  cells_few = omega (arith, cells_fill (sizes l) z, st.narrow)

  pub cells_bytes : cells_in (sizes l) * 4 ≡ l.geometry.bytes
  cells_bytes = omega (arith, cells_fill (sizes l) z)

  pub links_few : difat_in (sizes l) ≤ 1024
  links_few = omega (arith, cells_few, difat_one_less (sizes l) z)

  pub entries_few_lem : entries_in (sizes l) ≤ 32
  entries_few_lem = omega (arith, entries_fill (sizes l) z, st.narrow)

  pub entries_bytes : entries_in (sizes l) * 128 ≡ l.geometry.bytes
  entries_bytes = omega (arith, entries_fill (sizes l) z)

  pub minis_few : 64 * l.plan.minis ≤ 0x400_0000
  unfolding mini_stream_bytes mini_bytes
  minis_few = stream_short (sizes l) (plan l) z q

-- a number in a sector of a table or of the directory
pub index_few : (c j : ℕ) → c ≤ 1024 → j < 0x2_0000 → c * j ≤ 0x800_0000
index_few c j a b = let k : j ≤ 0x2_0000 = omega arith in omega (arith, mul-le-mul a k)

-- ---- the cell of sector s

module _ (l : Parts) (st : Stands l) (s : ℕ) where
  abbrev cell : ℕ
  cell = fresh_cell (sizes l) (plan l) s

  pub at_fat : s < l.difat.0 → FATSECT ≡ cell
  at_fat h = sym (cell_fat (sizes l) (plan l) st.headed.sized st.planned s (omega (arith, parts_order l st, st.placed)))

  pub at_difat : l.difat.0 ≤ s → s < l.directory.0 → DIFSECT ≡ cell
  at_difat a b = sym (cell_difat (sizes l) (plan l) st.headed.sized st.planned s (omega (arith, parts_order l st, st.placed)) (omega (arith, st.placed)))

  pub at_directory : {r : ℕ} → r ≡ link_in l.minifat.0 s → l.directory.0 ≤ s → s < l.minifat.0 → r ≡ cell
  at_directory e a b =
      e ∙ ap (λ n. link_in n s) st.placed.mini_fat
      ∙ sym (cell_directory (sizes l) (plan l) st.headed.sized st.planned s (omega (arith, st.placed)) (omega (arith, st.placed)))

  pub at_mini_fat : {r : ℕ} → r ≡ link_in l.stream.0 s → l.minifat.0 ≤ s → s < l.stream.0 → r ≡ cell
  at_mini_fat e a b =
      e ∙ ap (λ n. link_in n s) st.placed.mini_stream
      ∙ sym (cell_mini_fat (sizes l) (plan l) st.headed.sized st.planned s (omega (arith, st.placed)) (omega (arith, st.placed)))

  pub at_stream : {r : ℕ} → r ≡ link_in l.spare.0 s → l.stream.0 ≤ s → s < l.spare.0 → r ≡ cell
  at_stream e a b =
      e ∙ ap (λ n. link_in n s) st.placed.spare
      ∙ sym (cell_stream (sizes l) (plan l) st.headed.sized st.planned s (omega (arith, st.placed)) (omega (arith, st.placed)))

  pub at_spare : l.spare.0 ≤ s → FREE ≡ cell
  at_spare a = sym (cell_free (sizes l) (plan l) st.headed.sized st.planned s (omega (arith, st.placed)))

-- ---- the DIFAT

module _ (l : Parts) (st : Stands l) where
  pub entry_used : (i : ℕ) → i < l.difat.0 → i ≡ fresh_difat (sizes l) (plan l) i
  unfolding fresh_difat
  entry_used i h = rw (lt-ltb i (fat_part (sizes l) (plan l)) (omega (arith, parts_order l st, st.placed)))

  pub entry_spare : (i : ℕ) → l.difat.0 ≤ i → FREE ≡ fresh_difat (sizes l) (plan l) i
  unfolding fresh_difat
  entry_spare i h = rw (le-ltb i (fat_part (sizes l) (plan l)) (omega (arith, parts_order l st, st.placed)))

  pub number_entry : (j i c r : ℕ) → c ≡ difat_in (sizes l) → i < c → r ≡ fresh_difat (sizes l) (plan l) (109 + (c * j + i)) → r ≡ difat_number (sizes l) (plan l) j i
  unfolding difat_number header_difat
  number_entry j i c r e h k = k ∙ rw (e, lt-ltb i (difat_in (sizes l)) (omega arith))

  pub number_link : (s i c r : ℕ) → c ≡ difat_in (sizes l) → c ≤ i → l.difat.0 ≤ s → r ≡ link_in l.directory.0 s → r ≡ difat_number (sizes l) (plan l) (s - l.difat.0) i
  unfolding difat_number
  number_link s i c r e h a k =
      let n : s ≡ difat_from (sizes l) (plan l) + (s - l.difat.0) = omega (arith, st.placed) in
      k ∙ rw (le-ltb i (difat_in (sizes l)) (omega arith)) (ap (λ m. link_in m s) st.placed.directory ∙ ap (link_in (directory_from (sizes l) (plan l))) n)

  -- ---- numbers of a table's sector

  pub table_fat : (s i c r : ℕ) → c ≡ cells_in (sizes l) → s < l.difat.0 → r ≡ fresh_cell (sizes l) (plan l) (c * s + i) → r ≡ table_number (sizes l) (plan l) s i
  unfolding table_number fat_number
  table_fat s i c r e h k = k ∙ rw (e, lt-ltb s (difat_from (sizes l) (plan l)) (omega (arith, st.placed)))

  pub table_difat : (s i r : ℕ) → l.difat.0 ≤ s → s < l.directory.0 → r ≡ difat_number (sizes l) (plan l) (s - l.difat.0) i → r ≡ table_number (sizes l) (plan l) s i
  unfolding table_number
  table_difat s i r a b k =
      k
      ∙ rw (
        le-ltb s (difat_from (sizes l) (plan l)) (omega (arith, st.placed)),
        lt-ltb s (directory_from (sizes l) (plan l)) (omega (arith, st.placed)),
        st.placed.difat,
      )

  pub table_mini : (s i : ℕ) → l.directory.0 ≤ s → FREE ≡ table_number (sizes l) (plan l) s i
  unfolding table_number mini_number
  table_mini s i a =
      rw (
        le-ltb s (difat_from (sizes l) (plan l)) (omega (arith, st.placed, parts_risen l st)),
        le-ltb s (directory_from (sizes l) (plan l)) (omega (arith, st.placed)),
      )

-- ---- starts, and the entries

module _ (l : Parts) (st : Stands l) where
  pub root_is : (e s : ℕ) → e ≡ 0 → s ≡ start_from l.stream.0 (l.spare.0 - l.stream.0) → root_entry s (64 * l.plan.minis) ≡ fresh_entry (sizes l) (plan l) e
  unfolding fresh_entry mini_stream_bytes mini_bytes
  root_is e s a k =
      let n : l.spare.0 - l.stream.0 ≡ mini_stream_part (sizes l) (plan l) = omega (arith, parts_order l st, st.placed) in
      rw (a, k, n, st.placed.mini_stream)

  pub blank_is : (e : ℕ) → e ≢ 0 → blank_entry ≡ fresh_entry (sizes l) (plan l) e
  unfolding fresh_entry
  blank_is zero e = absurd (e refl)
  blank_is (suc i) e = refl

  pub entry_sized : (first i : ℕ) → length (entry_from (sizes l) (plan l) first i) ≡ 128
  unfolding entry_from
  entry_sized first i = length_entry (sizes l) (plan l) (first + i)

  pub entries_block : (c j : ℕ) → c ≡ entries_in (sizes l) → join_below (entries_in (sizes l)) (entry_from (sizes l) (plan l) (c * j)) ≡ directory_block (sizes l) (plan l) j
  unfolding entry_from directory_block directory_entry
  entries_block c j e = rw e

-- ---- sectors

module _ (l : Parts) (st : Stands l) (s : ℕ) where
  abbrev sector : Bytes
  sector = fresh_sector (sizes l) (plan l) s

  abbrev table : Bytes
  table = numbers_below (cells_in (sizes l)) (table_number (sizes l) (plan l) s)

  pub sector_table : s < l.directory.0 → table ≡ sector
  unfolding table_number fresh_sector fat_block difat_block
  sector_table h = go (ltb s (difat_from (sizes l) (plan l)))
    where
      go : (b : Bool)
          → numbers_below (cells_in (sizes l)) (cond b (fat_number (sizes l) (plan l) s) (cond (ltb s (directory_from (sizes l) (plan l))) (difat_number (sizes l) (plan l) (s - difat_from (sizes l) (plan l))) mini_number))
          ≡ cond b (fat_block (sizes l) (plan l) s)
          (cond (ltb s (directory_from (sizes l) (plan l))) (difat_block (sizes l) (plan l) (s - difat_from (sizes l) (plan l)))
          (cond (ltb s (mini_fat_from (sizes l) (plan l))) (directory_block (sizes l) (plan l) (s - directory_from (sizes l) (plan l)))
          (cond (ltb s (mini_stream_from (sizes l) (plan l))) (mini_fat_block (sizes l)) (replicate (sizes l).sector_bytes 0))))
      go true = refl
      go false = rw (lt-ltb s (directory_from (sizes l) (plan l)) (omega (arith, st.placed)))

  pub sector_mini_fat : l.minifat.0 ≤ s → s < l.stream.0 → table ≡ sector
  unfolding table_number fresh_sector mini_fat_block
  sector_mini_fat a b =
      rw (
        le-ltb s (difat_from (sizes l) (plan l)) (omega (arith, st.placed, parts_risen l st)),
        le-ltb s (directory_from (sizes l) (plan l)) (omega (arith, st.placed, parts_risen l st)),
        le-ltb s (mini_fat_from (sizes l) (plan l)) (omega (arith, st.placed)),
        lt-ltb s (mini_stream_from (sizes l) (plan l)) (omega (arith, st.placed)),
      )

  pub sector_directory : l.directory.0 ≤ s → s < l.minifat.0 → directory_block (sizes l) (plan l) (s - l.directory.0) ≡ sector
  unfolding fresh_sector
  sector_directory a b =
      rw (
        le-ltb s (difat_from (sizes l) (plan l)) (omega (arith, st.placed, parts_risen l st)),
        le-ltb s (directory_from (sizes l) (plan l)) (omega (arith, st.placed)),
        lt-ltb s (mini_fat_from (sizes l) (plan l)) (omega (arith, st.placed)),
        st.placed.directory,
      )

  pub sector_zero : (n : ℕ) → n ≡ l.geometry.bytes → l.stream.0 ≤ s → replicate n 0 ≡ sector
  unfolding fresh_sector
  sector_zero n e a =
      rw (
        e,
        le-ltb s (difat_from (sizes l) (plan l)) (omega (arith, st.placed, parts_risen l st)),
        le-ltb s (directory_from (sizes l) (plan l)) (omega (arith, st.placed, parts_risen l st)),
        le-ltb s (mini_fat_from (sizes l) (plan l)) (omega (arith, st.placed, parts_risen l st)),
        le-ltb s (mini_stream_from (sizes l) (plan l)) (omega (arith, st.placed)),
      )

-- a number in a sector of FAT or DIFAT has a small index
module _ (l : Parts) (st : Stands l) where
  pub cell_few : (c s i : ℕ) → c ≡ cells_in (sizes l) → s < l.difat.0 → i < cells_in (sizes l) → c * s + i ≤ 0x800_0400
  cell_few c s i e h k = omega (arith, index_few c s (omega (arith, cells_few l st)) (omega (arith, parts_risen l st)), cells_few l st)

  pub link_few : (c j i : ℕ) → c ≡ difat_in (sizes l) → j < l.directory.0 → i < cells_in (sizes l) → c * j + i ≤ 0x800_0400
  link_few c j i e h k = omega (arith, index_few c j (omega (arith, links_few l st)) (omega (arith, parts_risen l st)), cells_few l st)

-- ---- what proofs cite together

-- the cell of a sector, by the part that it lies in
pub ruleset cell_at = (at_fat, at_difat, at_directory, at_mini_fat, at_stream, at_spare)

-- an entry of the DIFAT, and one of the directory
pub ruleset difat_at = (entry_used, entry_spare)

pub ruleset entry_at = (parts_risen, minis_few, root_is, blank_is)

-- a sector
pub ruleset sector_at = (sector_table, sector_directory, sector_mini_fat, sector_zero)

-- a number in a sector of a table, and of DIFAT
pub ruleset number_at = (table_fat, table_difat, table_mini)

pub ruleset difat_number_at = (number_entry, number_link)
