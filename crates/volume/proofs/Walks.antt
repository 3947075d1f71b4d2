-- The work buffer for groups 14 and 15: nodes and stacks at its start, the directory's list behind them, and the FAT's behind that.
use Prim.Native.Nat.{ℕ, ◌+◌, ◌-◌, ◌*◌, ◌≤◌}
use mathlib.Core.Path.{◌≡◌}
use mathlib.Core.Bool.{true}
use mathlib.Core.List.{List}
use native.Mathlib.Omega.{arith}
use lib.ListN.{length}
use Rattle.format.specs.Basics.Bytes.{Bytes}
use Rattle.format.specs.Layout.Geometry.{Geometry, entries_in}
use Rattle.format.specs.Rules.Length.{work_need}
use Rattle.format.specs.Rules.Entries.{entry_rules}
use Rattle.kinds.specs.declared.Geometry.{Geometry as Sizes}
use Rattle.kinds.specs.Sizes.{geometry_of}
use Rattle.tables.specs.Work.{Wrote}
use Rattle.tables.specs.Listed.{list_place, tables_of}
use Rattle.tables.proofs.WorkLaws.{wrote_wider, listed_kept}
use Rattle.directory.specs.declared.Directory.{Directory as Where}
use Rattle.directory.specs.Listed.{count_of, entries_of, directory_at, DirectoryListed}
use Rattle.directory.proofs.Places.{directory_kept}
use Rattle.directory.proofs.Room.{walk_room}
use Rattle.nodes.specs.Nodes.{NodesFresh}
use Rattle.entry_rules.proofs.Ruled.{ruled}
use Rattle.tree_walk.specs.Walking.{WalkReady}
use Rattle.volume.specs.Passed.{TablesHold}
use Rattle.volume.proofs.Outcomes.{wrote_ours}

module _ {g : Geometry} {img : Bytes} {w : List ℕ} {n : ℕ} (t : TablesHold g img w n) where
  -- before the FAT's list there is room
  pub room_before : n + 3 * (entries_in g * n) + 2 ≤ list_place img
  room_before = rw t.count (walk_room g img t.listed.sized t.tables t.chained)

  -- what changes before it
  module _ {v : List ℕ} {at m : ℕ} (r : Wrote w v at m) (h : at + m ≤ list_place img) where
    pub hold_kept : TablesHold g img v n
    hold_kept = record { listed = listed_kept t.listed r h; whole = omega (arith, t.whole, r.long); tables = t.tables; cells = t.cells; chained = t.chained; count = t.count }

    pub wrote_before : Wrote w v 0 (work_need (length img))
    wrote_before = wrote_ours img (wrote_wider 0 (list_place img) r (omega arith) (omega arith)) (omega arith)

-- the directory's list stands right before the FAT's
module _ {g : Sizes} {img : Bytes} {w : List ℕ} {n : ℕ} (t : TablesHold (geometry_of g) img w n) {d : Where} (e : d ≡ directory_at (tables_of g img) n (list_place img - n)) where
  -- nodes and stacks end before it
  pub nodes_apart : 3 * count_of d + 2 ≤ d.list
  nodes_apart = rw e (omega (arith, room_before t))

  pub nodes_before : 3 * count_of d + 2 ≤ list_place img
  nodes_before = rw e (omega (arith, room_before t))

  pub walk_ready : {v : List ℕ} → DirectoryListed d img w → Wrote w v 0 (2 * count_of d + 2) → entry_rules (entries_of d img) ≡ true → NodesFresh (entries_of d img) v → WalkReady d img v
  walk_ready l r h f = record { listed = directory_kept l r (omega (arith, nodes_apart)); ruled = ruled (entries_of d img) h; nodes = f; apart = nodes_apart }
