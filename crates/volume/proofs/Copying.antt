-- The work buffer for group 16: the FAT's cells, and the directory's list before the FAT's.
use Prim.Native.Nat.{ℕ, ◌+◌, ◌-◌, ◌*◌, ◌/◌, ◌≤◌}
use mathlib.Core.Path.{◌≡◌, ap}
use mathlib.Core.Logic.{inr}
use mathlib.Core.List.{List}
use native.Mathlib.Omega.{arith}
use lib.ListN.{length}
use Rattle.format.specs.Basics.Bytes.{Bytes}
use Rattle.format.specs.Layout.Geometry.{Geometry, sector_count}
use Rattle.format.specs.Layout.Tables.{fat_cell, sector_space}
use Rattle.kinds.specs.Sizes.{geometry_of}
use Rattle.tables.specs.Work.{Wrote, Holds}
use Rattle.tables.specs.Listed.{FatListed, list_place, tables_of}
use Rattle.tables.specs.declared.Tables.{Tables}
use Rattle.tables.proofs.WorkLaws.{wrote_two, wrote_wider, listed_kept}
use Rattle.chains.specs.Answers.{CellsCopied}
use Rattle.chains.proofs.Copied.{fat_copied}
use Rattle.chains.proofs.Owners.{owning_kept, markable_kept}
use Rattle.directory.specs.Listed.{DirectoryListed, directory_at}
use Rattle.directory.specs.declared.Directory.{Directory}
use Rattle.directory.proofs.Room.{tables_apart}
use Rattle.volume.specs.Passed.{TablesHold, TablesCopied}
use Rattle.volume.proofs.Outcomes.{wrote_ours}

module _ {t : Tables} {img : Bytes} {w : List ℕ} {n : ℕ} (h : TablesHold (geometry_of t.geometry) img w n) (e : t ≡ tables_of t.geometry img) where
  abbrev g : Geometry
  g = geometry_of t.geometry

  sectors_are : t.sectors ≡ sector_count g img
  sectors_are = ap (λ x. x.sectors) e

  pub list_is : t.list ≡ list_place img
  list_is = ap (λ x. x.list) e

  few : n ≤ sector_count g img
  few = omega (arith, tables_apart g img h.listed.sized h.tables h.chained, h.count)

  -- the directory's list starts behind all marks
  pub list_room : 9 * (length img / 512) + 2 * sector_count g img + n ≤ t.list
  list_room = omega (arith, list_is, tables_apart g img h.listed.sized h.tables h.chained, h.count, h.listed.sized.many)

  pub fat_listed : FatListed t img w
  fat_listed = rw (sectors_are, list_is) h.listed

  module _ {w₁ : List ℕ} (a : Holds w₁ 0 (sector_count g img) (fat_cell g img)) (r : Wrote w w₁ 0 (sector_count g img)) where
    c : CellsCopied (sector_space g img) 0 w₁
    c = fat_copied g img (omega (arith, h.listed.sized.few)) a h.cells

    pub still_listed : FatListed t img w₁
    still_listed = listed_kept fat_listed r (omega (arith, list_room))

    pub all_copied : {w₂ : List ℕ} {d : Directory} → Wrote w₁ w₂ (t.list - n) n → d ≡ directory_at t n (t.list - n) → DirectoryListed d img w₂ → TablesCopied t d img w w₂
    unfolding sector_space
    all_copied x k l =
        record {
          fat = listed_kept still_listed x (omega (arith, list_room));
          system = record {
            sectors = record { sized = h.listed.sized; count = sectors_are; units = markable_kept (sector_space g img) 0 x (inr (omega (arith, list_room))) c.markable };
            directory = l;
            same = ap (λ y. y.geometry) k;
            behind = omega (arith, list_room, ap (λ y. y.list) k);
          };
          clear = owning_kept (sector_space g img) 0 x (inr (omega (arith, list_room))) c.clear;
          room = omega (arith, list_room, ap (λ y. y.list) k);
          wrote =
              wrote_two (wrote_ours img r (omega (arith, h.listed.sized.many)))
              (wrote_ours img (wrote_wider 0 t.list x (omega arith) (omega (arith, list_room))) (omega (arith, list_is)));
        }
