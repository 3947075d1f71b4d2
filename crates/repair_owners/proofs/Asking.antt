-- What the fourth step asks, test by test.
use Prim.Native.Nat.{ℕ}
use mathlib.Core.Path.{◌≡◌, refl, sym, ap}
use mathlib.Core.Bool.{Bool, true, false, ◌&&◌}
use mathlib.Core.List.{List}
use lib.Dec.{leb}
use Rattle.std.proofs.Common.{Option, Some, None}
use lib.ListN.{length}
use Rattle.format.specs.Basics.Bytes.{Bytes}
use Rattle.format.specs.Basics.Lists.{all_below}
use Rattle.format.specs.Layout.Geometry.{Geometry}
use Rattle.format.specs.Layout.Volume.{Volume, volume}
use Rattle.format.specs.Rules.Cells.{rest_free}
use Rattle.format.specs.Rules.Entries.{entry_rules}
use Rattle.format.specs.Rules.Trees.{tree_rules}
use Rattle.format.specs.Rules.Length.{work_need}
use Rattle.format.specs.Rules.Mini.{mini_fat_chain, mini_stream_chain, mini_cell_right, mini_tables, mini_rules}
use Rattle.format.specs.Rules.Streams.{stream_rules}
use Rattle.format.specs.Calls.RepairSteps.{tables_hold, directory_holds, entries_hold, streams_hold, unowned_freed, fourth_step}
use Rattle.theory.proofs.Tests.{both}
use Rattle.kinds.specs.declared.Geometry.{Geometry as Sizes}
use Rattle.kinds.specs.Sizes.{geometry_of}
use Rattle.tables.specs.Work.{Wrote}
use Rattle.tables.specs.Views.{volume_of}
use Rattle.tables.proofs.WorkLaws.{wrote_two}
use Rattle.minis.specs.Listed.{minis_of}
use Rattle.volume.specs.Passed.{SystemRight, SystemLeft}
use Rattle.volume.specs.declared.mini_stage.System.{System}
use Rattle.volume.proofs.MiniStage.{system_minis}
use Rattle.repair_laws.proofs.Heads.{entries_minis}
use Rattle.repair_owners.specs.Streams.{system_holds, StreamsLeft, streams_freed}

-- ---- groups 10 to 16 but for the cells from K on

module _ (g : Sizes) (img : Bytes) {w w₁ : List ℕ} (o : Wrote w w₁ 0 (work_need (length img))) where
  abbrev v : Volume
  v = volume (geometry_of g) img

  pub tables_wrong : tables_hold (geometry_of g) img ≡ false → SystemLeft g img (system_holds (geometry_of g) img) w w₁ None
  tables_wrong h = record { answer = rw h; wrote = o }

  module _ (h : tables_hold (geometry_of g) img ≡ true) where
    pub directory_wrong : directory_holds v ≡ false → SystemLeft g img (system_holds (geometry_of g) img) w w₁ None
    directory_wrong d = record { answer = rw (h, d); wrote = o }

    pub entries_decide : directory_holds v ≡ true → {w₂ : List ℕ} {r : Option System} → SystemLeft g img (entries_hold v) w₁ w₂ r → SystemLeft g img (system_holds (geometry_of g) img) w w₂ r
    entries_decide d l = record { answer = rw (h, d) l.answer; wrote = wrote_two o l.wrote }

-- ---- groups 10 to 17

regroup : (a b c d e f h : Bool) → (((((a && b) && c) && d) && (e && f)) && h) ≡ ((((a && b) && ((c && d) && e)) && f) && h)
regroup false b c d e f h = refl
regroup true false c d e f h = refl
regroup true true false d e f h = refl
regroup true true true false e f h = refl
regroup true true true true e f h = refl

module _ (g : Geometry) (img : Bytes) where
  abbrev vg : Volume
  vg = volume g img

  all_is : streams_hold g img ≡ ((system_holds g img && rest_free vg.minis) && stream_rules vg)
  unfolding streams_hold entries_hold mini_rules
  all_is = regroup (tables_hold g img) (directory_holds vg) (entry_rules vg.directory) (tree_rules vg.directory) (mini_tables vg) (rest_free vg.minis) (stream_rules vg)

  -- a group before 17 is broken
  pub system_breaks : system_holds g img ≡ false → img ≡ fourth_step g img
  unfolding fourth_step
  system_breaks h = sym (rw (all_is, h))

  module _ (h : system_holds g img ≡ true) where
    pub rest_breaks : rest_free vg.minis ≡ false → img ≡ fourth_step g img
    unfolding fourth_step
    rest_breaks f = sym (rw (all_is, h, f))

    -- group 17 decides
    pub streams_decide : rest_free vg.minis ≡ true → streams_freed vg img ≡ fourth_step g img
    unfolding fourth_step
    streams_decide f = sym (rw (all_is, h, f))

  pub system_entries : system_holds g img ≡ true → entries_hold vg ≡ true
  system_entries h = (both (tables_hold g img && directory_holds vg) (entries_hold vg) h).1

-- ---- what the tables that were found are called with, and what they leave

module _ {g : Sizes} {img : Bytes} {b : Bool} {w : List ℕ} {s : System} (r : SystemRight g img b w (Some s)) where
  -- the values of the mini FAT's cells below K
  pub mini_cells_lem : entries_hold (volume (geometry_of g) img) ≡ true → all_below (minis_of s.minis img).limit (mini_cell_right (minis_of s.minis img)) ≡ true
  mini_cells_lem h =
      let q = volume (geometry_of g) img in
      rw (system_minis r)
      (both (mini_fat_chain q && mini_stream_chain q && leb q.minis.limit q.minis.cells) (all_below q.minis.limit (mini_cell_right q.minis)) (entries_minis q h)).1

  pub freed_own : streams_freed (volume_of s.tables.geometry img) img ≡ streams_freed (volume (geometry_of g) img) img
  freed_own = ap (λ t. streams_freed (volume_of t.geometry img) img) r.1.0

-- ---- group 17 and the cells

module _ {s : System} {img : Bytes} {w w₁ : List ℕ} {r : Bool} (l : StreamsLeft s img w w₁ r) where
  pub streams_stay : r ≡ false → img ≡ streams_freed (volume_of s.tables.geometry img) img
  streams_stay e = sym (rw (← l.answer, e))

  pub streams_freed_lem : r ≡ true → unowned_freed (volume_of s.tables.geometry img) img ≡ streams_freed (volume_of s.tables.geometry img) img
  streams_freed_lem e = sym (rw (← l.answer, e))
