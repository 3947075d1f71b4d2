-- A fresh image is accepted: groups 10 to 18, for every geometry and every plan that is not refused.
use Prim.Native.Nat.{ℕ, ◌+◌, ◌-◌, ◌*◌, ◌%◌, ◌≤◌, ◌<◌}
use mathlib.Core.Path.{◌≡◌, refl}
use mathlib.Core.Bool.{Bool, true, false, not, cond, ◌||◌, or-true}
use native.Mathlib.Omega.{arith}
use lib.Dec.{eqb, ltb, leb}
use lib.ListN.{length}
use borrow.Author.Tests.{le-leb, eq-eqb}
use Rattle.format.specs.Basics.Bytes.{Bytes}
use Rattle.format.specs.Layout.Geometry.{Geometry, mini_bytes, counts_directory, cells_in}
use Rattle.format.specs.Layout.Need.{round_up}
use Rattle.format.specs.Layout.Chain.{FREE, END}
use Rattle.format.specs.Layout.Header.{directory_count}
use Rattle.format.specs.Layout.Entry.{start, is_stream}
use Rattle.format.specs.Layout.Tables.{sector_space}
use Rattle.format.specs.Layout.Directory.{directory_sectors}
use Rattle.format.specs.Layout.Volume.{Volume, volume, root, root_size, directory, mini_cells, mini_space}
use Rattle.format.specs.Layout.Stream.{stream_units, stream_size}
use Rattle.format.specs.Rules.Cells.{plain_cell, rest_free, spare_cell_free}
use Rattle.format.specs.Rules.Directory.{count_right}
use Rattle.format.specs.Rules.Verdict.{Accepted}
use Rattle.theory.proofs.Tests.{below_of, clash}
use Rattle.frame.specs.Kept.{Sized}
use Rattle.frame.specs.Good.{space_of, side_of, Chain, Good}
use Rattle.frame.specs.Groups.{ImageGroups}
use Rattle.frame.proofs.GoodBack.{good_groups}
use Rattle.frame.proofs.Accepted.{kept_accepted}
use Rattle.format.specs.Fresh.Plan.{Plan, directory_from, mini_fat_from, mini_stream_from, mini_stream_bytes, mini_stream_part}
use Rattle.format.specs.Fresh.Header.{directory_field}
use Rattle.format.specs.Fresh.Image.{fresh_image}
use Rattle.fresh.specs.Facts.{Headed, Planned}
use Rattle.fresh.proofs.Runs.{length_run, start_run}
use Rattle.fresh.proofs.Numbers.{sector_some, order, minis_have_cells, stream_short}
use Rattle.fresh.proofs.Header.{length_rule, header_rule, directory_field_is, mini_fat_start_lem, mini_fat_count_lem}
use Rattle.fresh.proofs.Tables.{table_rule, cell_rule}
use Rattle.fresh.proofs.Directory.{limit_end, directory_linked, directory_starts, directory_sectors_are, directory_sectors_many, entry_count_is, entry_rule, tree_rule, no_stream, root_starts, root_has}
use Rattle.fresh.proofs.Minis.{mini_fat_linked, mini_fat_sectors_are, mini_cells_are, mini_cell_free, mini_stream_linked, mini_stream_sectors_are, mini_limit_lem, root_whole}
use Rattle.fresh.proofs.Owners.{all_owned}

module _ (g : Geometry) (p : Plan) (h : Headed g) (q : Planned g p) where
  abbrev z : Sized g
  z = h.sized

  abbrev img : Bytes
  img = fresh_image g p

  abbrev v : Volume
  v = volume g img

  limits : (b : Bool) → (space_of v b).limit ≤ END
  unfolding volume sector_space mini_stream_bytes mini_bytes
  limits true = omega (arith, mini_limit_lem g p h q, stream_short g p z q)
  limits false = limit_end g p h q

  unit_sizes : (b : Bool) → 0 < (space_of v b).unit
  unfolding volume sector_space mini_space mini_bytes
  unit_sizes true = omega arith
  unit_sizes false = sector_some g z

  directory_chain : Chain v.sectors v.directory_sectors v.directory_start (length v.directory_sectors)
  unfolding volume sector_space
  directory_chain =
      record {
        linked = rw (directory_sectors_are g p h q) (directory_linked g p h q);
        head = rw (directory_sectors_are g p h q, directory_starts g p h q) (start_run (directory_from g p) p.directory);
        long = refl;
      }

  directory_long_lem : leb 1 (length v.directory_sectors) ≡ true
  unfolding volume
  directory_long_lem =
      rw (directory_sectors_are g p h q, length_run (directory_from g p) p.directory) (le-leb 1 p.directory (order g p z q).some)

  directory_counted_lem : count_right v ≡ true
  unfolding volume count_right directory_field
  directory_counted_lem =
      rw (directory_sectors_many g p h q) (go (counts_directory g) (directory_field_is g p h q))
    where
      go : (b : Bool) → directory_count img ≡ cond b p.directory 0 → (not b || eqb (directory_count img) p.directory) ≡ true
      go true e = eq-eqb (directory_count img) p.directory e
      go false e = refl

  mini_fat_chain_lem : Chain v.sectors v.mini_fat v.mini_fat_start v.mini_fat_count
  unfolding volume sector_space
  mini_fat_chain_lem =
      record {
        linked = rw (mini_fat_sectors_are g p h q) (mini_fat_linked g p h q);
        head = rw (mini_fat_sectors_are g p h q, mini_fat_start_lem g p h q) (start_run (mini_fat_from g p) p.mini_fat);
        long = rw (mini_fat_sectors_are g p h q, mini_fat_count_lem g p h q) (length_run (mini_fat_from g p) p.mini_fat);
      }

  mini_stream_chain_lem : Chain v.sectors v.mini_stream (start (root v)) (round_up (root_size v) v.sectors.unit)
  unfolding volume sector_space root root_size mini_stream_part
  mini_stream_chain_lem =
      record {
        linked = rw (mini_stream_sectors_are g p h q) (mini_stream_linked g p h q);
        head = rw (mini_stream_sectors_are g p h q, root_starts g p h q) (start_run (mini_stream_from g p) (mini_stream_part g p));
        long = rw (mini_stream_sectors_are g p h q, root_has g p h q) (length_run (mini_stream_from g p) (mini_stream_part g p));
      }

  mini_table_lem : leb v.minis.limit v.minis.cells ≡ true
  unfolding volume mini_space
  mini_table_lem = le-leb v.minis.limit v.minis.cells enough
    where
      cells_are : v.minis.cells ≡ cells_in g * p.mini_fat
      cells_are = mini_cells_are g p h q

      enough : v.minis.limit ≤ v.minis.cells
      enough = omega (arith, mini_limit_lem g p h q, cells_are, minis_have_cells g p z q)

  mini_plain : (m : ℕ) → m < v.minis.limit → plain_cell v.minis (v.minis.cell m) ≡ true
  unfolding volume plain_cell
  mini_plain m l = rw (mini_cell_free g p h q m) (or-true (ltb FREE v.minis.limit || eqb FREE END))

  mini_rest_lem : rest_free v.minis ≡ true
  unfolding volume rest_free spare_cell_free
  mini_rest_lem =
      below_of (v.minis.cells - v.minis.limit) (spare_cell_free v.minis)
      (λ i l. eq-eqb (v.minis.cell (v.minis.limit + i)) FREE (mini_cell_free g p h q (v.minis.limit + i)))

  stream_chain_lem : (i : ℕ) → i < v.directory.count → is_stream (v.directory.entry i) ≡ true
      → Chain (space_of v (side_of v i)) (stream_units v i) (start (v.directory.entry i))
      (round_up (stream_size v i) (space_of v (side_of v i)).unit)
  unfolding volume
  stream_chain_lem i l e = absurd (clash e (no_stream g p h q i (rw (entry_count_is g p h q) at l)))

  pub fresh_good : Good v
  unfolding volume root root_size
  fresh_good =
      record {
        lim = limits;
        unit = unit_sizes;
        cells = cell_rule g p h q;
        entries = entry_rule g p h q;
        trees = tree_rule g p h q;
        directory = directory_chain;
        directory_long = directory_long_lem;
        directory_counted = directory_counted_lem;
        mini_fat = mini_fat_chain_lem;
        mini_stream = mini_stream_chain_lem;
        root_size = eq-eqb (root_size v % mini_bytes) 0 (root_whole g p h q);
        mini_table = mini_table_lem;
        mini_cells = mini_plain;
        mini_rest = mini_rest_lem;
        chains = stream_chain_lem;
        owned = all_owned g p h q;
      }

  pub fresh_groups : ImageGroups g img
  fresh_groups =
      record {
        allowed = length_rule g p h q;
        header = header_rule g p h q;
        tables = table_rule g p h q;
        volume = good_groups v fresh_good;
      }

  -- ACCEPTED
  pub fresh_accepted : Accepted g img
  fresh_accepted = kept_accepted g img fresh_groups
