-- What the first two steps leave of groups 10 to 13, so that the next one can ask.
use mathlib.Core.Path.{◌≡◌, ap₂, fun_ext}
use mathlib.Core.Bool.{true, ◌&&◌}
use native.Mathlib.Omega.{arith}
use Rattle.format.specs.Basics.Bytes.{Bytes}
use Rattle.format.specs.Layout.Geometry.{Geometry}
use Rattle.format.specs.Layout.Tables.{fat_sectors, sector_space}
use Rattle.format.specs.Layout.Volume.{volume, directory_sectors_of}
use Rattle.format.specs.Rules.Tables.{table_rules}
use Rattle.format.specs.Rules.Cells.{plain_cell, spare_cell_free, rest_free, fat_cell_right, cell_rules}
use Rattle.format.specs.Rules.Directory.{some_chain, count_right, directory_rules}
use Rattle.format.specs.Calls.RepairSteps.{tables_hold, directory_holds, rest_freed, blackened}
use Rattle.frame.specs.Kept.{Sized, Kept, Off}
use Rattle.frame.proofs.Views.{kept_header, kept_directory_count, kept_directory_start, kept_fat_cells}
use Rattle.repair_laws.specs.Tables.{Tabled, SameTables}
use Rattle.repair_laws.proofs.Tabled.{rules_same, first_kept, first_tables}
use Rattle.repair_laws.proofs.SectorLists.{dirs_same}
use Rattle.repair_laws.proofs.Blackening.{second_kept, second_tables, directory_off}

module _ (g : Geometry) (z : Sized g) (A : Bytes) (t : Tabled g A) where
  first_rules : table_rules g (rest_freed (volume g A).sectors A) ≡ table_rules g A
  first_rules = rules_same g z (fat_sectors g A) A _ t (first_tables g z A t) (first_kept g z A t) (λ s q. omega (arith, t.once s))

  pub first_holds : tables_hold g (rest_freed (volume g A).sectors A) ≡ tables_hold g A
  unfolding tables_hold
  first_holds = ap₂ (λ h r. h && r) (kept_header g z (fat_sectors g A) A _ (first_kept g z A t)) first_rules

module _ (g : Geometry) (z : Sized g) (B : Bytes) (t : Tabled g B) (h : directory_holds (volume g B) ≡ true) where
  abbrev C : Bytes
  C = blackened (volume g B) B

  same : SameTables g B C
  same = (second_tables g z B t h).0

  kept : Kept g (Off (directory_sectors_of g B)) B C
  kept = second_kept g z B t h

  second_rules : table_rules g C ≡ table_rules g B
  second_rules = rules_same g z (directory_sectors_of g B) B C t same kept (λ s q. directory_off g z B t h s (omega arith))

  pub second_holds : tables_hold g C ≡ tables_hold g B
  unfolding tables_hold
  second_holds = ap₂ (λ h r. h && r) (kept_header g z (directory_sectors_of g B) B C kept) second_rules

  pub second_dirs : directory_sectors_of g C ≡ directory_sectors_of g B
  second_dirs = dirs_same g B C same.sectors (kept_directory_start g z (directory_sectors_of g B) B C kept) (λ s q. (second_tables g z B t h).1 s)

  second_cells : cell_rules (volume g C).sectors ≡ cell_rules (volume g B).sectors
  unfolding cell_rules fat_cell_right plain_cell rest_free spare_cell_free volume sector_space
  second_cells = rw (same.sectors, kept_fat_cells g z (directory_sectors_of g B) B C kept, fun_ext (second_tables g z B t h).1)

  second_chained : directory_rules (volume g C) ≡ directory_rules (volume g B)
  unfolding directory_rules some_chain count_right volume sector_space
  second_chained =
      let T = directory_sectors_of g B in
      rw (second_dirs, kept_directory_start g z T B C kept, kept_directory_count g z T B C kept, same.sectors, fun_ext (second_tables g z B t h).1)

  pub second_directory : directory_holds (volume g C) ≡ directory_holds (volume g B)
  unfolding directory_holds
  second_directory = ap₂ (λ c d. c && d) second_cells second_chained
