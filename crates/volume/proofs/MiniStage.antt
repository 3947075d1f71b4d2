-- What group 16 hands on but for the cells from K on: the lists stand, and the system's chains are marked.
use Prim.Native.Nat.{ℕ, ◌-◌}
use mathlib.Core.Path.{◌≡◌, ap, subst, ◌∙◌}
use mathlib.Core.Bool.{Bool, true, false, ◌&&◌}
use mathlib.Core.Logic.{inr}
use mathlib.Core.List.{List, []}
use native.Mathlib.Omega.{arith}
use Rattle.std.proofs.Common.{Option, Some, None}
use lib.Dec.{leb}
use lib.ListN.{length}
use Rattle.format.specs.Basics.Bytes.{Bytes}
use Rattle.format.specs.Basics.Lists.{all_below}
use Rattle.format.specs.Layout.Geometry.{Geometry, sector_count}
use Rattle.format.specs.Layout.Tables.{sector_space}
use Rattle.format.specs.Layout.Volume.{volume, mini_space}
use Rattle.format.specs.Rules.Length.{work_need}
use Rattle.format.specs.Rules.Mini.{mini_fat_chain, mini_stream_chain, mini_cell_right, mini_tables}
use Rattle.theory.proofs.Tests.{both}
use Rattle.kinds.specs.declared.Geometry.{Geometry as Sizes}
use Rattle.kinds.specs.Sizes.{geometry_of}
use Rattle.tables.specs.Work.{Wrote}
use Rattle.tables.specs.Listed.{tables_of}
use Rattle.tables.specs.declared.Tables.{Tables}
use Rattle.tables.proofs.WorkLaws.{wrote_two, wrote_wider, listed_kept}
use Rattle.chains.proofs.Owners.{is_right, is_wrong, owning_kept, markable_kept}
use Rattle.directory.specs.Listed.{directory_at}
use Rattle.directory.specs.declared.Directory.{Directory}
use Rattle.minis.specs.Listed.{minis_of}
use Rattle.minis.specs.declared.Minis.{Minis}
use Rattle.system_chains.specs.System.{SystemWalked, SystemOwned}
use Rattle.owners.specs.Streams.{minis_in, CellsRight}
use Rattle.directory.proofs.Places.{directory_kept}
use Rattle.volume.specs.Passed.{TablesHold, TablesCopied, MiniRoom, SystemMarked, SystemRight, SystemLeft, TableRight, mini_cell_rules}
use Rattle.volume.specs.declared.mini_stage.System.{System}
use Rattle.volume.proofs.ListsKept.{room_kept}
use Rattle.volume.proofs.Copying.{list_is, list_room}
use Rattle.volume.proofs.MiniCounts.{table_short, minis_few}
use Rattle.volume.proofs.Outcomes.{wrote_ours, chains_break, cells_break, cells_hold}

module _ {t : Tables} {d : Directory} {img : Bytes} {w w₁ : List ℕ} {n : ℕ} (h : TablesHold (geometry_of t.geometry) img w n) (e : t ≡ tables_of t.geometry img)
    (f : d ≡ directory_at t n (t.list - n)) (c : TablesCopied t d img w w₁) where
  abbrev g : Geometry
  g = geometry_of t.geometry

  chains_wrote : {w₂ : List ℕ} → Wrote w₁ w₂ 0 (sector_count g img) → Wrote w w₂ 0 (work_need (length img))
  chains_wrote r = wrote_two c.wrote (wrote_ours img r (omega (arith, h.listed.sized.many)))

  pub chains_wrong : {w₂ : List ℕ} → SystemWalked t img w₁ w₂ None → SystemLeft t.geometry img (mini_tables (volume g img)) w w₂ None
  unfolding sector_space
  chains_wrong m = record { answer = chains_break (volume g img) (is_wrong m); wrote = chains_wrote m.wrote }

  module _ {w₂ : List ℕ} {shared : Bool} (m : SystemWalked t img w₁ w₂ (Some shared)) where
    chains_right : (mini_fat_chain (volume g img) && mini_stream_chain (volume g img)) ≡ true
    chains_right = is_right m

    marks_wrote : Wrote w₁ w₂ 0 (sector_count g img)
    unfolding sector_space
    marks_wrote = m.wrote

    pub mini_room : MiniRoom t d img w₂
    mini_room =
        let b = both (mini_fat_chain (volume g img)) (mini_stream_chain (volume g img)) chains_right in
        record {
          fat = listed_kept c.fat marks_wrote (omega (arith, c.fat.apart));
          directory = directory_kept c.system.directory marks_wrote (omega (arith, c.room));
          same = ap (λ x. x.geometry) f;
          tables = h.tables;
          table = b.0;
          stream = b.1;
          before = rw f (omega (arith, list_room h e));
          within = omega (arith, list_is h e);
          room = c.room;
        }

    owned : SystemOwned t img w₂ shared
    unfolding sector_space
    owned = m.owners chains_right [] false c.clear

    -- the mini FAT's list comes before the directory's, and its cells behind those of the sectors
    module _ {w₃ : List ℕ} (x : Wrote w₂ w₃ (sector_count g img) (d.list - sector_count g img)) where
      table_wrote : Wrote w w₃ 0 (work_need (length img))
      table_wrote =
          wrote_two (chains_wrote marks_wrote) (wrote_ours img (wrote_wider 0 d.list x (omega arith) (omega (arith, c.room))) (omega (arith, mini_room.before, mini_room.within)))

      pub table_wrong : TableRight t d img w₃ None → SystemLeft t.geometry img (mini_tables (volume g img)) w w₃ None
      table_wrong p = record { answer = cells_break (volume g img) chains_right p; wrote = table_wrote }

      module _ {i : Minis} (given : TableRight t d img w₃ (Some i)) where
        cells_right : CellsRight t img
        unfolding mini_cell_rules volume
        cells_right = record { tables = h.tables; sectors = h.cells; minis = (both (leb (minis_in t img).limit (volume g img).minis.cells) (all_below (minis_in t img).limit (mini_cell_right (minis_in t img))) given.0).1 }

        marked : SystemMarked t d i img w₃ shared
        unfolding sector_space
        marked =
            let s = table_short g img h.listed.sized mini_room.table in
            let q = minis_few g img h.listed.sized mini_room.stream in
            let y = given.1.0 in
            let z = c.system in
            record {
              lists = record {
                mini = room_kept x mini_room (omega (arith, c.room));
                minis = given.1.1.0;
                same = ap (λ q. q.geometry) y;
                before = rw y (omega (arith, s, c.room));
                room = rw y (omega (arith, s, c.room));
              };
              streams = record {
                sectors = record { sized = z.sectors.sized; count = z.sectors.count; units = markable_kept (sector_space g img) 0 x (inr (omega arith)) (m.stands chains_right) };
                minis = given.1.1.1.markable;
                units = ap (λ q. q.units) y;
                directory = (room_kept x mini_room (omega (arith, c.room))).directory;
                same = z.same;
                behind = omega (arith, q, c.room, h.listed.sized.many);
              };
              only = record { sectors = owning_kept (sector_space g img) 0 x (inr (omega arith)) owned; minis = given.1.1.1.clear };
              cells = cells_right;
            }

        pub table_right : SystemLeft t.geometry img (mini_tables (volume g img)) w w₃ (Some (record { tables = t; directory = d; minis = i; shared = shared }))
        table_right = record { answer = (cells_hold (volume g img) chains_right given.0, (e, marked)); wrote = table_wrote }

-- the same geometry by another name
pub system_for : (img : Bytes) {s s' : Sizes} {w w' : List ℕ} {r : Option System} → s ≡ s' → SystemLeft s img (mini_tables (volume (geometry_of s) img)) w w' r → SystemLeft s' img (mini_tables (volume (geometry_of s') img)) w w' r
system_for img {w = w} {w'} {r} e l = subst (λ s. SystemLeft s img (mini_tables (volume (geometry_of s) img)) w w' r) e l

-- ---- what the answer says

-- the mini FAT of what is listed is the image's own
pub system_minis : {g : Sizes} {img : Bytes} {b : Bool} {w : List ℕ} {s : System} → SystemRight g img b w (Some s) → minis_of s.minis img ≡ (volume (geometry_of g) img).minis
unfolding volume
system_minis {img = img} r = ap (λ q. mini_space (geometry_of q) img) (r.1.1.lists.same ∙ ap (λ t. t.geometry) r.1.0)
