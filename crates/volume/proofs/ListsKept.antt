-- The lists stay where only what stands before them changes.
use Prim.Native.Nat.{ℕ, ◌+◌, ◌≤◌}
use mathlib.Core.List.{List}
use mathlib.Core.Logic.{inr}
use native.Mathlib.Omega.{arith}
use Rattle.format.specs.Basics.Bytes.{Bytes}
use Rattle.tables.specs.Work.{Wrote}
use Rattle.tables.specs.declared.Tables.{Tables}
use Rattle.tables.proofs.WorkLaws.{listed_kept, holds_kept}
use Rattle.directory.specs.declared.Directory.{Directory}
use Rattle.minis.specs.declared.Minis.{Minis}
use Rattle.minis.proofs.ListLaws.{listed_kept as minis-kept}
use Rattle.directory.proofs.Places.{directory_kept}
use Rattle.volume.specs.Passed.{MiniRoom, ListsStand}
use Rattle.volume.specs.Opened.{Readied}
use Rattle.volume.specs.declared.Volume.{Volume}

module _ {t : Tables} {d : Directory} {img : Bytes} {w w' : List ℕ} {at k : ℕ} (r : Wrote w w' at k) where
  pub room_kept : MiniRoom t d img w → at + k ≤ d.list → MiniRoom t d img w'
  room_kept m h =
      record {
        fat = listed_kept m.fat r (omega (arith, m.before));
        directory = directory_kept m.directory r h;
        same = m.same;
        tables = m.tables;
        table = m.table;
        stream = m.stream;
        before = m.before;
        within = m.within;
        room = m.room;
      }

  pub lists_kept : {m : Minis} → ListsStand t d m img w → at + k ≤ m.list → ListsStand t d m img w'
  lists_kept l h =
      record {
        mini = room_kept l.mini (omega (arith, l.before));
        minis = minis-kept l.minis r h;
        same = l.same;
        before = l.before;
        room = l.room;
      }

-- an opened volume stays ready
pub ready_kept : {v : Volume} {img : Bytes} {w w' : List ℕ} {k : ℕ} → Wrote w w' 0 k → k ≤ v.stream → Readied v img w → Readied v img w'
ready_kept r h y =
    record {
      lists = lists_kept r y.lists (omega (arith, y.before));
      stream = holds_kept y.stream r (inr (omega arith));
      before = y.before;
      room = y.room;
    }
