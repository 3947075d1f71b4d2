-- What each step finds and hands on.
use Prim.Native.Nat.{ℕ, ◌*◌, ◌≤◌}
use mathlib.Core.Path.{◌≡◌, sym, ◌∙◌, ap}
use mathlib.Core.Bool.{Bool, true}
use mathlib.Core.List.{List}
use lib.ListN.{length}
use Rattle.std.proofs.Common.{Some}
use Rattle.format.specs.Basics.Bytes.{Bytes}
use Rattle.format.specs.Layout.Geometry.{Geometry, sector_count, cells_in}
use Rattle.format.specs.Layout.Volume.{volume, directory_sectors_of}
use Rattle.format.specs.Calls.RepairSteps.{directory_holds, rest_freed, blackened}
use Rattle.kinds.specs.declared.Geometry.{Geometry as Sizes}
use Rattle.kinds.specs.Sizes.{geometry_of}
use Rattle.header.specs.Sized.{F}
use Rattle.tables.specs.Work.{Wrote}
use Rattle.tables.specs.Listed.{FatListedAt, list_place, tables_of}
use Rattle.minis.specs.Listed.{MiniListed}
use Rattle.minis.proofs.ListLaws.{cells_cover, cells_short}
use Rattle.volume.specs.Passed.{TablesHold, SystemRight}
use Rattle.volume.specs.declared.mini_stage.System.{System}
use Rattle.volume.proofs.Verdicts.{cells_listed}
use Rattle.repair_asks.proofs.Asked.{tables_say, cells_say, directory_says}
use Rattle.repair_laws.specs.Tables.{Tabled}
use Rattle.repair_laws.proofs.Tabled.{tabled_of, first_tables}
use Rattle.repair_laws.proofs.Blackening.{second_tables}
use Rattle.repair_laws.proofs.StepRules.{first_holds, second_holds, second_dirs, second_directory}
use Rattle.repair_writes.specs.Cells.{table_in, TableRoom}
use Rattle.repair_writes.proofs.Tables.{fat_rest, mini_room, mini_rest_lem}
use Rattle.repair_steps.specs.Passed.{TablesPassed, DirectoryPassed}
use Rattle.repair_steps.proofs.SameLists.{sizes, listed_same}

module _ (s : Sizes) {A : Bytes} {w : List ℕ} (p : TablesPassed (geometry_of s) A w) where
  abbrev g : Geometry
  g = geometry_of s

  tables : Tabled g A
  tables = tabled_of g A p.listed.sized.long p.listed.sized.few (tables_say g A p.tables)

  -- ---- the first step

  -- its cells, by the list
  pub first_is : rest_freed (table_in g w (list_place A) (sector_count g A) (cells_in g * F A)) A ≡ rest_freed (volume g A).sectors A
  unfolding volume
  first_is = sym (fat_rest {t = tables_of s A} p.listed A)

  pub first_passed : {B : Bytes} → B ≡ rest_freed (volume g A).sectors A → TablesPassed g B w
  first_passed e =
      let k = first_tables g (sizes p.listed.sized) A tables in
      rw e (record { listed = listed_same k p.listed; whole = rw k.size p.whole; tables = first_holds g (sizes p.listed.sized) A tables ∙ p.tables })

  -- ---- the second

  module _ (h : directory_holds (volume g A) ≡ true) {n : ℕ} (c : n ≡ length (directory_sectors_of g A)) where
    -- the question has copied the FAT's cells
    pub second_asked : {w₁ : List ℕ} → Wrote w w₁ 0 (sector_count g A) → TablesHold g A w₁ n
    second_asked r =
        record {
          listed = cells_listed g A r p.listed;
          whole = rw r.long p.whole;
          tables = tables_say g A p.tables;
          cells = cells_say g A h;
          chained = directory_says g A h;
          count = c;
        }

    pub second_passed : {B : Bytes} {w' : List ℕ} → B ≡ blackened (volume g A) A → FatListedAt g A w' (sector_count g A) (list_place A) → length w' ≡ length w → DirectoryPassed g B w' n
    second_passed e l q =
        let z = sizes p.listed.sized in
        let k = (second_tables g z A tables h).0 in
        let t = second_holds g z A tables h ∙ p.tables in
        let d = second_directory g z A tables h ∙ h in
        rw e (record {
          tables = t;
          directory = d;
          hold = record {
            listed = listed_same k l;
            whole = rw (k.size, q) p.whole;
            tables = tables_say g (blackened (volume g A) A) t;
            cells = cells_say g (blackened (volume g A) A) d;
            chained = directory_says g (blackened (volume g A) A) d;
            count = c ∙ ap length (sym (second_dirs g z A tables h));
          };
        })

-- ---- the third

module _ (s : Sizes) {C : Bytes} {b : Bool} {w₁ : List ℕ} {y : System} (r : SystemRight s C b w₁ (Some y)) where
  -- the mini FAT's sizes are the image's
  same : y.minis.geometry ≡ s
  same = r.1.1.lists.same ∙ ap (λ t. t.geometry) r.1.0

  listed : MiniListed y.minis C w₁
  listed = r.1.1.lists.minis

  pub rest_room : TableRoom (geometry_of s) w₁ y.minis.list (length C) (cells_in (geometry_of s) * y.minis.sectors)
  rest_room = rw same at (mini_room listed)

  pub rest_some : y.minis.units ≤ cells_in (geometry_of s) * y.minis.sectors
  rest_some = rw same at (cells_cover listed)

  pub rest_short : 4 * (cells_in (geometry_of s) * y.minis.sectors) ≤ length C
  rest_short = rw same at (cells_short listed)

  -- its cells, by the list
  pub third_is : rest_freed (table_in (geometry_of s) w₁ y.minis.list y.minis.units (cells_in (geometry_of s) * y.minis.sectors)) C ≡ rest_freed (volume (geometry_of s) C).minis C
  unfolding volume
  third_is = sym (rw same at (mini_rest_lem listed C))
