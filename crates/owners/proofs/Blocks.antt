-- A block of entries: its streams, and the walks along their chains.
use Prim.Native.Nat.{ℕ}
use Rattle.std.specs.Prelude.{Option, Some, None}
use mathlib.Core.Path.{◌≡◌, refl, sym, ◌∙◌}
use mathlib.Core.Bool.{Bool, true, false, ◌&&◌, ◌||◌}
use mathlib.Core.List.{List, [], append-nil}
use borrow.Author.Tests.{not-true, not-false}
use Rattle.format.specs.Basics.Bytes.{Bytes}
use Rattle.format.specs.Basics.Lists.{all_below, join_below}
use Rattle.format.specs.Layout.Tables.{sector_space}
use Rattle.format.specs.Layout.Volume.{Volume, volume, mini_space}
use Rattle.tables.specs.Views.{volume_of, sectors_of}
use Rattle.tables.specs.declared.Tables.{Tables}
use Rattle.tables.proofs.WorkLaws.{wrote_none, wrote_two}
use Rattle.lanes.specs.Answers.{lane_right, lane_units, LanesMarked}
use Rattle.directory.specs.declared.Directory.{Directory}
use Rattle.stream_chains.specs.Asked.{chain_listed, Gathered}
use Rattle.stream_chains.specs.Split.{Measured, Split, SplitReady}
use Rattle.stream_chains.specs.declared.Counts.{Counts}
use Rattle.minis.specs.declared.Minis.{Minis}
use Rattle.system_chains.specs.System.{SectorsMarkable}
use Rattle.owners.specs.Streams.{minis_in, StreamsMarkable, BothMarked, BlockMarked}
use Rattle.owners.proofs.Both.{both_sectors, both_minis, both_then, both_broken}

-- what was read is of this volume, whose sizes the lanes go by
pub measured : {t : Tables} {img : Bytes} {w : List ℕ} → SectorsMarkable t img w → Measured (volume_of t.geometry img) t.geometry t.sectors
unfolding volume sector_space mini_space
measured z = record { sector = refl; mini = refl; count = sym z.count }

-- the answer for walks that found chains and met a marked unit or none, and for later ones
abbrev pub and_then : Bool → Option Bool → Option Bool
and_then a None = None
and_then a (Some b) = Some (a || b)

module _ {t : Tables} {m : Minis} {d : Directory} {img : Bytes} {w : List ℕ} (z : StreamsMarkable t m d img w)
    {x n k : ℕ} {starts sizes : List ℕ} (g : Gathered (volume_of d.geometry img) x n k starts sizes) where
  abbrev v : Volume
  v = volume_of t.geometry img

  here : Gathered v x n k starts sizes
  here = rw z.same at g

  -- a stream has no chain
  pub block_wrong : all_below k (chain_listed v starts sizes) ≡ false → BlockMarked t m d img x n w w None
  block_wrong h = both_broken _ _ (here.right ∙ h) (wrote_none w 0 _)

  module _ {c : Counts} {sh sl lh ll : List ℕ} (r : SplitReady t.geometry t.sectors k starts sizes c sh sl lh ll) where
    abbrev smalls : Bool
    smalls = all_below c.small (lane_right (minis_in t img) sh sl)

    abbrev larges : Bool
    larges = all_below c.large (lane_right (sectors_of t img) lh ll)

    lanes : Split v k starts sizes c sh sl lh ll
    lanes = r.lanes v (measured z.sectors)

    small_first : {u : Bool} → smalls ≡ u → all_below k (chain_listed v starts sizes) ≡ (u && larges)
    unfolding volume
    small_first e = rw (← e) lanes.right

    module _ {w₁ : List ℕ} where
      -- those of mini sectors
      small_marked : {a : Option Bool} → LanesMarked t.sectors m.units sh sl c.small w w₁ a
          → BothMarked t m d img smalls [] (join_below c.small (lane_units (minis_in t img) sh sl)) w w₁ a
      small_marked p = both_minis z (rw z.sectors.count at p (minis_in t img) (sym z.units) z.minis)

      -- one of these is none
      pub block_broken : LanesMarked t.sectors m.units sh sl c.small w w₁ None → BlockMarked t m d img x n w w₁ None
      block_broken p = let s = small_marked p in both_broken _ _ (here.right ∙ small_first (not-true _ (sym s.answer))) s.wrote

      module _ {a : Bool} (p : LanesMarked t.sectors m.units sh sl c.small w w₁ (Some a)) where
        smalls_marked : BothMarked t m d img smalls [] (join_below c.small (lane_units (minis_in t img) sh sl)) w w₁ (Some a)
        smalls_marked = small_marked p

        small_right : smalls ≡ true
        small_right = not-false _ (sym smalls_marked.answer)

        pub block_stands : StreamsMarkable t m d img w₁
        block_stands = smalls_marked.stands small_right

        -- and those of sectors
        large_marked : {w₂ : List ℕ} {b : Option Bool} → LanesMarked 0 t.sectors lh ll c.large w₁ w₂ b
            → BothMarked t m d img larges (join_below c.large (lane_units (sectors_of t img) lh ll)) [] w₁ w₂ b
        unfolding sector_space
        large_marked q = both_sectors block_stands (q (sectors_of t img) (sym block_stands.sectors.count) block_stands.sectors.units)

        pub block_off : {w₂ : List ℕ} → LanesMarked 0 t.sectors lh ll c.large w₁ w₂ None → BlockMarked t m d img x n w w₂ None
        block_off q =
            let s = large_marked q in
            both_broken _ _ (here.right ∙ small_first small_right ∙ not-true _ (sym s.answer)) (wrote_two smalls_marked.wrote s.wrote)

        pub block_on : {w₂ : List ℕ} {b : Bool} → LanesMarked 0 t.sectors lh ll c.large w₁ w₂ (Some b) → BlockMarked t m d img x n w w₂ (Some (a || b))
        unfolding volume sector_space
        block_on q =
            let s = rw (append-nil (join_below c.small (lane_units (minis_in t img) sh sl))) at (both_then (rw small_right at smalls_marked) (large_marked q)) in
            rw (here.right ∙ small_first small_right, here.sectors ∙ lanes.sectors, here.minis ∙ lanes.minis) s

        pub block_marked : {w₂ : List ℕ} {b : Option Bool} → LanesMarked 0 t.sectors lh ll c.large w₁ w₂ b → BlockMarked t m d img x n w w₂ (and_then a b)
        block_marked {b = None} q = block_off q
        block_marked {b = Some b} q = block_on q
