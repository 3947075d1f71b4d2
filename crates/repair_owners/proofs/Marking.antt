-- The chains of all streams are marked, and what is marked is what is owned.
use Prim.Native.Nat.{ℕ, ◌+◌, ◌≤◌}
use mathlib.Core.Path.{◌≡◌, refl, sym, ap, ◌∙◌}
use mathlib.Core.Bool.{Bool, true, false, not, not-not}
use mathlib.Core.List.{List, []}
use native.Mathlib.Omega.{arith}
use lib.ListN.{length}
use Rattle.std.proofs.Common.{Option, Some, None}
use Rattle.std.specs.Prelude.{is_some}
use Rattle.format.specs.Basics.Bytes.{Bytes}
use Rattle.format.specs.Layout.Geometry.{Geometry, sector_count}
use Rattle.format.specs.Layout.Tables.{sector_space}
use Rattle.format.specs.Layout.Volume.{volume}
use Rattle.format.specs.Rules.Length.{work_need}
use Rattle.format.specs.Rules.Owners.{owned_minis}
use Rattle.format.specs.Rules.Streams.{stream_rules}
use Rattle.kinds.specs.Sizes.{geometry_of}
use Rattle.tables.specs.Work.{Wrote}
use Rattle.chains.specs.Answers.{is_broken}
use Rattle.minis.specs.Listed.{minis_of}
use Rattle.system_chains.specs.System.{system_chains}
use Rattle.owners.specs.Streams.{minis_in, StreamsMarked as AllMarked}
use Rattle.volume.specs.Passed.{ListsStand, SystemMarked}
use Rattle.volume.specs.declared.mini_stage.System.{System}
use Rattle.volume.proofs.ListsKept.{lists_kept}
use Rattle.volume.proofs.Outcomes.{wrote_ours}
use Rattle.repair_writes.specs.Cells.{MarksSay}
use Rattle.repair_owners.specs.Streams.{chain_sectors, StreamsMarked, StreamsLeft}

some_right : (a : Option Bool) → is_some a ≡ not (is_broken a)
some_right None = refl
some_right (Some shared) = refl

module _ (s : System) (img : Bytes) {w w' : List ℕ} {a : Option Bool} (h : SystemMarked s.tables s.directory s.minis img w s.shared)
    (x : AllMarked s.tables s.minis s.directory img w w' a) where
  abbrev g : Geometry
  g = geometry_of s.tables.geometry

  -- both kinds of units' numbers stand before the lists
  before_lists : sector_count g img + (minis_in s.tables img).limit ≤ s.minis.list
  before_lists = let l = h.lists in omega (arith, l.room, l.minis.counts.few, h.streams.units, l.mini.fat.sized.many)

  wrote : Wrote w w' 0 (work_need (length img))
  wrote = let l = h.lists in wrote_ours img x.wrote (omega (arith, before_lists, l.before, l.mini.before, l.mini.within))

  module _ (e : stream_rules (volume g img) ≡ true) where
    sectors_say : MarksSay w' 0 (sector_count g img) (chain_sectors g img)
    unfolding sector_space
    sectors_say u q = ((x.owners e).in_sectors_lem (system_chains g img) s.shared h.only.sectors).marked u q

    minis_say : MarksSay w' (sector_count g img) (minis_of s.minis img).limit (owned_minis (volume (geometry_of s.minis.geometry) img))
    minis_say = rw h.lists.same (λ u q. ((x.owners e).in_minis_lem [] false h.only.minis).marked u q)

    all_marked : StreamsMarked s img w'
    all_marked = record { lists = lists_kept x.wrote h.lists (omega (arith, before_lists)); sectors = sectors_say; minis = minis_say }

  pub streams_left : StreamsLeft s img w w' (is_some a)
  streams_left =
      let k : is_some a ≡ stream_rules (volume g img) = some_right a ∙ ap not x.answer ∙ not-not (stream_rules (volume g img)) in
      record { answer = k; marked = λ q. all_marked (sym k ∙ q); wrote = wrote }

-- ---- where everything stands

module _ (s : System) {img : Bytes} {w : List ℕ} (h : ListsStand s.tables s.directory s.minis img w) where
  pub units_in_work : s.tables.sectors + s.minis.units ≤ length w
  units_in_work = omega (arith, h.room, h.minis.counts.few, h.mini.fat.count, h.mini.fat.sized.many, h.minis.room)
