-- The lists in the work buffer still are the lists of the image after an edit: the system's sectors do not move.
use Prim.Native.Nat.{ℕ, ◌+◌, ◌-◌, ◌*◌, ◌/◌, ◌<◌}
use mathlib.Core.Path.{◌≡◌, sym, ◌∙◌, ap, subst}
use mathlib.Core.Bool.{true, ◌&&◌}
use mathlib.Core.List.{List}
use native.Mathlib.Omega.{arith}
use lib.Dec.{leb}
use lib.ListN.{length, get_or}
use Rattle.format.specs.Basics.Lists.{all_below}
use Rattle.format.specs.Rules.Cells.{rest_free}
use Rattle.format.specs.Basics.Bytes.{Bytes}
use Rattle.format.specs.Layout.Geometry.{Geometry, sector_count}
use Rattle.format.specs.Layout.Chain.{chain}
use Rattle.format.specs.Layout.Header.{fat_count, difat_count, mini_fat_count, mini_fat_start}
use Rattle.format.specs.Layout.Tables.{difat_entry, difat_sector, fat_sectors, difat_sectors, fat_cell, sector_space}
use Rattle.format.specs.Layout.Volume.{volume, directory_sectors_of, mini_fat_sectors, mini_stream_sectors, mini_space}
use Rattle.format.specs.Rules.Mini.{mini_fat_chain, mini_stream_chain, mini_rules, mini_cell_right}
use Rattle.theory.proofs.Below.{length_below, get_or_below}
use Rattle.theory.proofs.Tests.{both}
use Rattle.frame.specs.Edits.{Preserved}
use Rattle.frame.specs.Groups.{ImageGroups}
use Rattle.kinds.specs.Sizes.{geometry_of}
use Rattle.header.specs.Sized.{ImageSized, F, D}
use Rattle.tables.specs.Listed.{FatListedAt}
use Rattle.directory.specs.Listed.{DirectoryListed}
use Rattle.directory.specs.declared.Directory.{Directory}
use Rattle.minis.specs.Listed.{MiniListed}
use Rattle.minis.specs.declared.Minis.{Minis}
use Rattle.volume.specs.Opened.{Readied}
use Rattle.volume.specs.declared.Volume.{Volume}

-- ---- what the lists are of

module _ {g : Geometry} {a b : Bytes} (k : Preserved g a b) where
  count_same : sector_count g b ≡ sector_count g a
  unfolding sector_count
  count_same = ap (λ (n : ℕ). n / g.sector_bytes - 1) k.length

  units_same : length b / 512 ≡ length a / 512
  units_same = ap (λ (n : ℕ). n / 512) k.length

  sized_same : ImageSized g a → ImageSized g b
  sized_same s =
      record {
        wide = s.wide;
        narrow = s.narrow;
        even = s.even;
        long = k.length ∙ s.long ∙ ap (λ (n : ℕ). (n + 1) * g.sector_bytes) (sym count_same);
        head = omega (arith, k.length, s.head);
        many = omega (arith, units_same, count_same, s.many);
        few = omega (arith, count_same, s.few);
        short = omega (arith, k.length, s.short);
      }

  fat_same : fat_sectors g b ≡ fat_sectors g a
  unfolding volume
  fat_same = k.parts.fat

  fats_same : F b ≡ F a
  unfolding fat_sectors fat_count
  fats_same = sym (length_below (F b) (difat_entry g b)) ∙ ap length fat_same ∙ length_below (F a) (difat_entry g a)

  difats_same : D b ≡ D a
  unfolding volume difat_sectors difat_count
  difats_same = sym (length_below (D b) (difat_sector g b)) ∙ ap length k.parts.difat ∙ length_below (D a) (difat_sector g a)

  entry_same : (i : ℕ) → i < F a → difat_entry g b i ≡ difat_entry g a i
  unfolding fat_sectors fat_count
  entry_same i h = sym (get_or_below (F b) (difat_entry g b) i 0 (omega (arith, fats_same))) ∙ ap (λ l. get_or l i 0) fat_same ∙ get_or_below (F a) (difat_entry g a) i 0 h

  pub fat_listed : {w : List ℕ} {n list : ℕ} → FatListedAt g a w n list → FatListedAt g b w n list
  fat_listed l =
      record {
        sized = sized_same l.sized;
        count = l.count ∙ sym count_same;
        apart = omega (arith, count_same, l.apart);
        room = omega (arith, fats_same, l.room);
        covers = rw (count_same, fats_same) l.covers;
        few = rw (count_same, fats_same, difats_same) l.few;
        fats = λ i h. l.fats i (omega (arith, fats_same)) ∙ sym (entry_same i (omega (arith, fats_same)));
        below = λ i h. omega (arith, entry_same i (omega (arith, fats_same)), count_same, l.below i (omega (arith, fats_same)));
      }

  directory_same : directory_sectors_of g b ≡ directory_sectors_of g a
  unfolding volume
  directory_same = k.parts.directory_sectors

  table_same : mini_fat_sectors g b ≡ mini_fat_sectors g a
  unfolding volume
  table_same = k.parts.mini_fat

  table_count : mini_fat_count b ≡ mini_fat_count a
  unfolding volume
  table_count = k.parts.mini_fat_count

  limit_same : (mini_space g b).limit ≡ (mini_space g a).limit
  unfolding volume
  limit_same = k.parts.mini_limit

  pub stream_same : mini_stream_sectors g b ≡ mini_stream_sectors g a
  unfolding volume
  stream_same = k.parts.mini_stream

pub directory_listed : {d : Directory} {a b : Bytes} {w : List ℕ} → Preserved (geometry_of d.geometry) a b → DirectoryListed d a w → DirectoryListed d b w
directory_listed k l =
    record {
      sized = sized_same k l.sized;
      count = l.count ∙ ap length (sym (directory_same k));
      some = l.some;
      few = omega (arith, count_same k, l.few);
      room = l.room;
      here = λ i h. l.here i h ∙ ap (λ z. get_or z i 0) (sym (directory_same k));
      below = λ i h. omega (arith, ap (λ z. get_or z i 0) (directory_same k), count_same k, l.below i h);
    }

-- ---- what the image's groups say

module _ {g : Geometry} {b : Bytes} (o : ImageGroups g b) where
  mini_chains : (mini_fat_chain (volume g b) ≡ true) × (mini_stream_chain (volume g b) ≡ true)
  unfolding mini_rules
  mini_chains =
      let v = volume g b in
      let chains = mini_fat_chain v && mini_stream_chain v in
      let table = leb v.minis.limit v.minis.cells in
      let cells = all_below v.minis.limit (mini_cell_right v.minis) in
      both (mini_fat_chain v) (mini_stream_chain v) (both chains table (both (chains && table) cells (both (chains && table && cells) (rest_free v.minis) o.volume.minis).0).0).0

  table_chained : chain (fat_cell g b) (sector_count g b) (mini_fat_count b) (mini_fat_start b) ≡ true
  unfolding mini_fat_chain volume sector_space
  table_chained = mini_chains.0

pub minis_listed_lem : {m : Minis} {a b : Bytes} {w : List ℕ} → Preserved (geometry_of m.geometry) a b → ImageGroups (geometry_of m.geometry) b → MiniListed m a w → MiniListed m b w
minis_listed_lem {m} {a} {b} k o l =
    record {
      sized = sized_same k l.sized;
      counts = record {
        count = l.counts.count ∙ sym (limit_same k);
        few = omega (arith, units_same k, l.counts.few);
        covers = rw (table_count k) l.counts.covers;
        chained = table_chained o;
      };
      sectors = l.sectors ∙ sym (table_count k);
      small = omega (arith, count_same k, l.small);
      apart = l.apart;
      room = l.room;
      here = λ i h. l.here i h ∙ ap (λ z. get_or z i 0) (sym (table_same k));
      below = λ i h. omega (arith, ap (λ z. get_or z i 0) (table_same k), count_same k, l.below i h);
    }

-- ---- the opened volume

module _ {v : Volume} {a b : Bytes} {w : List ℕ} (k : Preserved (geometry_of v.tables.geometry) a b) (o : ImageGroups (geometry_of v.tables.geometry) b) where
  pub readied_after : Readied v a w → Readied v b w
  readied_after r =
      let m = r.lists.mini in
      let c = mini_chains o in
      record {
        lists = record {
          mini = record {
            fat = fat_listed k m.fat;
            directory = directory_listed (subst (λ s. Preserved (geometry_of s) a b) (sym m.same) k) m.directory;
            same = m.same;
            tables = o.tables;
            table = c.0;
            stream = c.1;
            before = m.before;
            within = omega (arith, units_same k, m.within);
            room = omega (arith, units_same k, count_same k, m.room);
          };
          minis = minis_listed_lem (subst (λ s. Preserved (geometry_of s) a b) (sym r.lists.same) k) (subst (λ s. ImageGroups (geometry_of s) b) (sym r.lists.same) o) r.lists.minis;
          same = r.lists.same;
          before = r.lists.before;
          room = omega (arith, units_same k, count_same k, r.lists.room);
        };
        stream = rw (stream_same k) r.stream;
        before = r.before;
        room = omega (arith, units_same k, r.room);
      }
