-- The chains of some streams as lanes: those of mini sectors, and those of sectors.
use Rattle.std.specs.Prelude.{ℕ, ◌+◌, ◌≤◌, ◌≡◌, false, ◌&&◌, Option, Some, None, List}
use Rattle.format.specs.Basics.Lists.{all_below, join_below}
use Rattle.format.specs.Layout.Geometry.{mini_bytes}
use Rattle.format.specs.Layout.Volume.{Volume}
use Rattle.kinds.specs.declared.Geometry.{Geometry as Sizes}
use Rattle.lanes.specs.Answers.{LanesShort, lane_right, lane_units}
use Rattle.stream_chains.specs.Asked.{chain_listed, sectors_listed, minis_listed}
use Rattle.stream_chains.specs.declared.Counts.{Counts}

-- a volume of these sizes, with so many sectors
pub record Measured (v : Volume) (g : Sizes) (sectors : ℕ) : Type 0 where
  pub sector : v.sectors.unit ≡ g.bytes
  pub mini : v.minis.unit ≡ mini_bytes
  pub count : v.sectors.limit ≡ sectors

-- the chains of k streams are those of the lanes
pub record Split (v : Volume) (k : ℕ) (starts sizes : List ℕ) (c : Counts) (sh sl lh ll : List ℕ) : Type 0 where
  pub right : all_below k (chain_listed v starts sizes) ≡ (all_below c.small (lane_right v.minis sh sl) && all_below c.large (lane_right v.sectors lh ll))
  pub sectors : join_below k (sectors_listed v starts sizes) ≡ join_below c.large (lane_units v.sectors lh ll)
  pub minis : join_below k (minis_listed v starts sizes) ≡ join_below c.small (lane_units v.minis sh sl)

-- the lanes stand in the arrays
pub record SplitReady (g : Sizes) (sectors k : ℕ) (starts sizes : List ℕ) (c : Counts) (sh sl lh ll : List ℕ) : Type 0 where
  pub few : c.small + c.large ≤ k
  pub small : LanesShort sl c.small
  pub large : LanesShort ll c.large
  pub lanes : (v : Volume) → Measured v g sectors → Split v k starts sizes c sh sl lh ll

-- the answer: one of the streams has no chain, or the lanes
abbrev pub SplitAnswer : (g : Sizes) (sectors k : ℕ) (starts sizes sh sl lh ll : List ℕ) → Option Counts → Type 0
SplitAnswer g sectors k starts sizes sh sl lh ll None = (v : Volume) → Measured v g sectors → all_below k (chain_listed v starts sizes) ≡ false
SplitAnswer g sectors k starts sizes sh sl lh ll (Some c) = SplitReady g sectors k starts sizes c sh sl lh ll
