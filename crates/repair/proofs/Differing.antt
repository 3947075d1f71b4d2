-- What differs, as the lists of an opened volume show it: cells of the FAT and of the mini FAT, and colours.
use Prim.Native.Nat.{ℕ, ◌+◌, ◌*◌, ◌<◌}
use mathlib.Core.Path.{◌≡◌, refl, sym, ap, ◌∙◌}
use mathlib.Core.Bool.{true, false, not}
use mathlib.Core.Logic.{◌≢◌}
use mathlib.Core.List.{List}
use native.Mathlib.Omega.{arith}
use lib.Dec.{eqb}
use lib.ListN.{length}
use borrow.Author.Tests.{eq-eqb, ne_eqb}
use Rattle.format.specs.Basics.Lists.{pick_below}
use Rattle.format.specs.Basics.Bytes.{Bytes, byte_at, u32at}
use Rattle.format.specs.Layout.Geometry.{Geometry, cells_in}
use Rattle.format.specs.Layout.Header.{fat_count}
use Rattle.format.specs.Layout.Space.{Space}
use Rattle.format.specs.Layout.Entry.{colour, colour_byte}
use Rattle.format.specs.Layout.Tables.{fat_cells, sector_space}
use Rattle.format.specs.Layout.Volume.{volume, directory, mini_cells, mini_space}
use Rattle.format.specs.Calls.Repair.{cell_differs, colour_differs, differences}
use Rattle.theory.proofs.Picks.{pick_same}
use Rattle.frame.proofs.Redrawing.{entry_place_is}
use Rattle.kinds.specs.Sizes.{geometry_of}
use Rattle.header.specs.Sized.{F}
use Rattle.tables.proofs.Places.{cells_short}
use Rattle.entries.specs.Entry.{entry_at}
use Rattle.entries.proofs.EntryLaws.{byte_in}
use Rattle.directory.specs.Listed.{entries_of, place_of, DirectoryListed}
use Rattle.directory.specs.declared.Directory.{Directory}
use Rattle.directory.proofs.Places.{place_is, count_is, count_few}
use Rattle.minis.proofs.ListLaws.{cells_short as mini-cells-short}
use Rattle.volume.specs.Opened.{Readied}
use Rattle.volume.specs.declared.Volume.{Volume}
use Rattle.spaces.specs.Spaces.{volume_in}
use Rattle.repair_writes.specs.Cells.{cell_byte, table_in, TableRoom}
use Rattle.repair_writes.proofs.Tables.{fat_place, fat_room, mini_place, mini_room}
use Rattle.repair.proofs.Counting.{pick_most}

-- ---- the tests

differ_yes : {x y a b : ℕ} → x ≡ a → y ≡ b → x ≢ y → not (eqb a b) ≡ true
differ_yes {a = a} {b} p q h = rw (ne_eqb a b (λ e. h (p ∙ e ∙ sym q)))

differ_no : {x y a b : ℕ} → x ≡ a → y ≡ b → x ≡ y → not (eqb a b) ≡ false
differ_no {a = a} {b} p q h = rw (eq-eqb a b (sym p ∙ h ∙ q))

-- by two cells that were read
module _ (sp : Space) (a b : Bytes) (u : ℕ) {p x y : ℕ} (e : p ≡ sp.cell_place u) (f : x ≡ u32at a p) (g : y ≡ u32at b p) where
  pub cell_yes : x ≢ y → cell_differs sp a b u ≡ true
  unfolding cell_differs
  cell_yes h = rw (← e) (differ_yes f g h)

  pub cell_no : x ≡ y → cell_differs sp a b u ≡ false
  unfolding cell_differs
  cell_no h = rw (← e) (differ_no f g h)

-- by two colours
module _ {d : Directory} {after : Bytes} {work : List ℕ} (l : DirectoryListed d after work) (img : Bytes) (i : ℕ) (h : i < (entries_of d after).count)
    {p x y : ℕ} (e : p ≡ place_of d work i) (f : x ≡ colour (entry_at img p)) (g : y ≡ colour (entry_at after p)) where
  at : (volume (geometry_of d.geometry) after).entry_place i ≡ p
  at = entry_place_is (geometry_of d.geometry) after i ∙ place_is l i h ∙ sym e

  byte_is : (b : Bytes) → colour (entry_at b p) ≡ byte_at b (p + colour_byte)
  unfolding colour byte_at
  byte_is b = byte_in b p colour_byte (omega arith)

  pub colour_yes : x ≢ y → colour_differs (volume (geometry_of d.geometry) after) img after i ≡ true
  unfolding colour_differs
  colour_yes q = rw at (differ_yes (f ∙ byte_is img) (g ∙ byte_is after) q)

  pub colour_no : x ≡ y → colour_differs (volume (geometry_of d.geometry) after) img after i ≡ false
  unfolding colour_differs
  colour_no q = rw at (differ_no (f ∙ byte_is img) (g ∙ byte_is after) q)

-- ---- the three numbers

place_differs : (sp sq : Space) (a b : Bytes) (u : ℕ) → sp.cell_place u ≡ sq.cell_place u → cell_differs sp a b u ≡ cell_differs sq a b u
unfolding cell_differs
place_differs sp sq a b u e = rw e

-- two spaces that give the same places to the first n cells
same_cells : (sp sq : Space) (a b : Bytes) (n : ℕ) → ((u : ℕ) → u < n → sp.cell_place u ≡ sq.cell_place u)
    → length (pick_below n (cell_differs sp a b)) ≡ length (pick_below n (cell_differs sq a b))
same_cells sp sq a b n h = ap length (pick_same (cell_differs sq a b) (cell_differs sp a b) n (λ u l. place_differs sp sq a b u (h u l)))

module _ {v : Volume} {after : Bytes} {work : List ℕ} (r : Readied v after work) where
  abbrev g : Geometry
  g = geometry_of v.tables.geometry

  abbrev fats : ℕ
  fats = cells_in (geometry_of v.tables.geometry) * F after

  abbrev mini_fats : ℕ
  mini_fats = cells_in (geometry_of v.tables.geometry) * v.minis.sectors

  pub fat_cells_lem : TableRoom g work v.tables.list (length after) fats
  fat_cells_lem = fat_room r.lists.mini.fat

  pub mini_cells_lem : TableRoom g work v.minis.list (length after) mini_fats
  mini_cells_lem = rw (ap geometry_of r.lists.same) at (mini_room r.lists.minis)

  pub fat_short : 4 * fats < 0x1_0000_0000
  fat_short = let f = r.lists.mini.fat in omega (arith, cells_short f.sized (F after) (omega (arith, f.few)), f.sized.short)

  pub mini_short : 4 * mini_fats < 0x1_0000_0000
  mini_short =
      let e : 4 * (cells_in (geometry_of v.minis.geometry) * v.minis.sectors) < 0x1_0000_0000 = omega (arith, mini-cells-short r.lists.minis, r.lists.minis.sized.short) in
      rw (ap geometry_of r.lists.same) at e

  fat_many : (sector_space g after).cells ≡ fats
  unfolding sector_space fat_cells fat_count
  fat_many = refl

  mini_many : (mini_space g after).cells ≡ mini_fats
  unfolding mini_space mini_cells
  mini_many = ap (λ k. cells_in g * k) (sym r.lists.minis.sectors)

  mini_at : (u : ℕ) → u < mini_fats → cell_byte g work v.minis.list u ≡ (mini_space g after).cell_place u
  mini_at = rw (ap geometry_of r.lists.same) at (mini_place r.lists.minis)

  module _ (img : Bytes) where
    fat_differ : length (pick_below fats (cell_differs (table_in g work v.tables.list fats fats) img after))
        ≡ length (pick_below (volume_in v after).sectors.cells (cell_differs (volume_in v after).sectors img after))
    unfolding volume
    fat_differ =
        same_cells (table_in g work v.tables.list fats fats) (sector_space g after) img after fats (λ u h. fat_place r.lists.mini.fat u h)
        ∙ ap (λ k. length (pick_below k (cell_differs (sector_space g after) img after))) (sym fat_many)

    mini_differ : length (pick_below mini_fats (cell_differs (table_in g work v.minis.list mini_fats mini_fats) img after))
        ≡ length (pick_below (volume_in v after).minis.cells (cell_differs (volume_in v after).minis img after))
    unfolding volume
    mini_differ =
        same_cells (table_in g work v.minis.list mini_fats mini_fats) (mini_space g after) img after mini_fats mini_at
        ∙ ap (λ k. length (pick_below k (cell_differs (mini_space g after) img after))) (sym mini_many)

    colours_differ : length (pick_below (entries_of v.directory after).count (colour_differs (volume (geometry_of v.directory.geometry) after) img after))
        ≡ length (pick_below (volume_in v after).directory.count (colour_differs (volume_in v after) img after))
    unfolding volume
    colours_differ = ap (λ s. length (pick_below (directory (geometry_of s) after).count (colour_differs (volume (geometry_of s) after) img after))) r.lists.mini.same

    -- the numbers that the code adds up, by the counts that it works out
    module _ {n m a b c : ℕ} (en : n ≡ fats) (em : m ≡ mini_fats)
        (ea : a ≡ length (pick_below n (cell_differs (table_in g work v.tables.list n n) img after)))
        (eb : b ≡ length (pick_below m (cell_differs (table_in g work v.minis.list m m) img after)))
        (ec : c ≡ length (pick_below (entries_of v.directory after).count (colour_differs (volume (geometry_of v.directory.geometry) after) img after))) where
      pub differ_few : a + b + c < 0x1_0000_0000
      differ_few =
          omega (
            arith,
            ea,
            eb,
            ec,
            en,
            em,
            pick_most (cell_differs (table_in g work v.tables.list n n) img after) n,
            pick_most (cell_differs (table_in g work v.minis.list m m) img after) m,
            pick_most (colour_differs (volume (geometry_of v.directory.geometry) after) img after) (entries_of v.directory after).count,
            fat_short,
            mini_short,
            count_is r.lists.mini.directory,
            count_few r.lists.mini.directory,
          )

      pub differ_all : a + b + c ≡ differences (volume_in v after) img after
      unfolding differences
      differ_all =
          let x : a ≡ length (pick_below fats (cell_differs (table_in g work v.tables.list fats fats) img after)) = rw en at ea in
          let y : b ≡ length (pick_below mini_fats (cell_differs (table_in g work v.minis.list mini_fats mini_fats) img after)) = rw em at eb in
          rw (x ∙ fat_differ, y ∙ mini_differ, ec ∙ colours_differ)
