-- What acceptance says of the image and of its sectors, as arithmetic reads it.
use mathlib.Core.Path.{◌≡◌}
use mathlib.Core.Logic.{◌≢◌}
use mathlib.Core.List.{◌++◌}
use mathlib.Core.Bool.{true, ◌&&◌, false}
use Prim.Native.Nat.{ℕ, ◌+◌, ◌*◌, ◌%◌, ◌≤◌, ◌<◌}
use native.Mathlib.Omega.{arith}
use lib.Dec.{eqb, leb}
use lib.ListN.{length}
use borrow.Author.Tests.{leb-true, eqb-true}
use Rattle.format.specs.Basics.Lists.{count, member}
use Rattle.format.specs.Basics.Bytes.{Bytes}
use Rattle.format.specs.Layout.Geometry.{Geometry, sector_count, mini_bytes}
use Rattle.format.specs.Layout.Header.{fat_count, difat_count}
use Rattle.format.specs.Layout.Chain.{FREE, FATSECT, DIFSECT}
use Rattle.format.specs.Layout.Tables.{fat_sectors, difat_sectors, fat_cells, fat_cell, sector_space}
use Rattle.format.specs.Rules.Tables.{difat_need, table_counts, difat_ends, difat_rest, table_sectors, table_marks, table_rules}
use Rattle.format.specs.Layout.Directory.{directory_sectors}
use Rattle.format.specs.Layout.Volume.{Volume, volume, system_sectors, mini_space, mini_cells, root_size}
use Rattle.theory.proofs.Counts.{count_append}
use Rattle.theory.proofs.Tests.{both}
use Rattle.frame.specs.Kept.{Sized}
use Rattle.frame.specs.Groups.{ImageGroups}
use Rattle.frame.specs.Good.{Good}
use Rattle.frame.proofs.Lengths.{allowed_long, allowed_few, allowed_short}
use Rattle.frame.proofs.Good.{groups_good}
use Rattle.frame.proofs.SystemFacts.{marks_at_lem}

pub sys_count : (v : Volume) (s : ℕ) → count s (system_sectors v) ≡ count s v.fat + count s v.difat + count s v.directory_sectors + count s v.mini_fat + count s v.mini_stream
unfolding system_sectors
sys_count v s =
    let a = count_append s v.fat v.difat in
    let b = count_append s (v.fat ++ v.difat) v.directory_sectors in
    let c = count_append s (v.fat ++ v.difat ++ v.directory_sectors) v.mini_fat in
    let d = count_append s (v.fat ++ v.difat ++ v.directory_sectors ++ v.mini_fat) v.mini_stream in
    omega arith

pub record Sound (g : Geometry) (img : Bytes) : Type 0 where
  pub long : length img ≡ (sector_count g img + 1) * g.sector_bytes
  pub few : sector_count g img < 0x100_0000
  pub short : length img ≤ 0x400_0000
  pub needs : difat_count img ≡ difat_need g (fat_count img)
  pub enough : sector_count g img ≤ fat_cells g img
  pub once : (s : ℕ) → count s (system_sectors (volume g img)) ≤ 1
  pub below : (s : ℕ) → 0 < count s (system_sectors (volume g img)) → s < sector_count g img
  pub allocated : (s : ℕ) → 0 < count s (system_sectors (volume g img)) → fat_cell g img s ≢ FREE
  pub root_size : root_size (volume g img) % 64 ≡ 0
  pub mini_enough : (volume g img).minis.limit ≤ mini_cells g img

module _ (g : Geometry) (z : Sized g) (img : Bytes) (G : ImageGroups g img) where
  abbrev N : ℕ
  N = sector_count g img

  abbrev v : Volume
  v = volume g img

  tabs : (table_counts g img ≡ true) × (difat_ends g img ≡ true) × (difat_rest g img ≡ true) × (table_sectors g img ≡ true) × (table_marks g img ≡ true)
  unfolding table_rules
  tabs =
      let a = both (table_counts g img && difat_ends g img && difat_rest g img && table_sectors g img) (table_marks g img) G.tables in
      let b = both (table_counts g img && difat_ends g img && difat_rest g img) (table_sectors g img) a.0 in
      let c = both (table_counts g img && difat_ends g img) (difat_rest g img) b.0 in
      let d = both (table_counts g img) (difat_ends g img) c.0 in
      (d.0, d.1, c.1, b.1, a.1)

  counts : (1 ≤ fat_count img) × (N ≤ fat_cells g img) × (difat_count img ≡ difat_need g (fat_count img))
  unfolding table_counts
  counts =
      let a = both (leb 1 (fat_count img) && leb N (fat_cells g img)) (eqb (difat_count img) (difat_need g (fat_count img))) tabs.0 in
      let b = both (leb 1 (fat_count img)) (leb N (fat_cells g img)) a.0 in
      (leb-true 1 (fat_count img) b.0, leb-true N (fat_cells g img) b.1, eqb-true (difat_count img) (difat_need g (fat_count img)) a.1)

  good : Good v
  good = groups_good (let w = z.wide in omega arith) G

  pub marks_of_lem : (s : ℕ) → s < N → (eqb (fat_cell g img s) FATSECT ≡ member s (fat_sectors g img)) × (eqb (fat_cell g img s) DIFSECT ≡ member s (difat_sectors g img))
  unfolding volume sector_space
  marks_of_lem = marks_at_lem (let w = z.wide in omega arith) G

  pub sound_of : Sound g img
  unfolding volume sector_space mini_space mini_bytes
  sound_of =
      record {
        long = allowed_long g img G.allowed z;
        few = allowed_few g img G.allowed z;
        short = allowed_short g img G.allowed;
        needs = counts.2;
        enough = counts.1;
        once = λ s. omega (arith, (good.owned false).single s);
        below = (good.owned false).within;
        allocated = (good.owned false).system;
        root_size = eqb-true (root_size v % 64) 0 good.root_size;
        mini_enough = leb-true v.minis.limit (mini_cells g img) good.mini_table;
      }
