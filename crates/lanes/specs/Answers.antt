-- What a step of a lane does, and what marking many chains side by side answers and leaves.
use Rattle.std.specs.Prelude.{ℕ, ◌+◌, ◌≤◌, ◌<◌, ◌≡◌, ◌≢◌, ◌⊎◌, Bool, true, false, Option, List, get_or, set}
use Rattle.format.specs.Basics.Lists.{all_below, join_below}
use Rattle.format.specs.Layout.Chain.{END, chain, units}
use Rattle.format.specs.Layout.Space.{Space}
use Rattle.theory.specs.Marks.{MARK, is_mark}
use Rattle.chains.specs.Answers.{Markable, ChainsMarked}
use Rattle.lanes.specs.declared.Step.{Step}
use Rattle.lanes.specs.declared.Step.TheVariants.{Broken, On, Done, Met}

-- ---- one step of one lane, which is at s with k to go

-- the lane is at a unit, with units to go
pub record Inside (limit s k : ℕ) : Type 0 where
  pub some : 0 < k
  pub below : s < limit

-- the lane is no chain: it ends elsewhere; it leaves the units; or its unit has another mark
abbrev pub NoChain : (at limit s k : ℕ) → List ℕ → Type 0
NoChain at limit s k w =
    ((k ≡ 0) × (s ≢ END))
    ⊎ (((0 < k) × (limit ≤ s)) ⊎ (Inside limit s k × (is_mark (get_or w (at + s) 0) ≡ true) × (get_or w (at + s) 0 ≢ MARK + k)))

-- what the answer says. Only a lane that goes on writes, its mark.
abbrev pub Stepped : (at limit s k : ℕ) → List ℕ → List ℕ → Step → Type 0
Stepped at limit s k before after Broken = (after ≡ before) × NoChain at limit s k before
Stepped at limit s k before after (On v) =
    (after ≡ set before (at + s) (MARK + k)) × Inside limit s k × (is_mark (get_or before (at + s) 0) ≡ false) × (v ≡ get_or before (at + s) 0)
Stepped at limit s k before after Done = (after ≡ before) × (k ≡ 0) × (s ≡ END)
Stepped at limit s k before after Met = (after ≡ before) × Inside limit s k × (get_or before (at + s) 0 ≡ MARK + k)

-- ---- all lanes

-- the first `count` lanes stand in the arrays, and none has so many units to go that its mark would be no number
pub record LanesShort (left : List ℕ) (count : ℕ) : Type 0 where
  pub few : count ≤ 32
  pub short : (i : ℕ) → i < count → get_or left i 0 < 0x1000_0000

-- whether lane i is a chain, and its units
abbrev pub lane_right : Space → List ℕ → List ℕ → ℕ → Bool
lane_right sp here left i = chain sp.cell sp.limit (get_or left i 0) (get_or here i 0)

abbrev pub lane_units : Space → List ℕ → List ℕ → ℕ → List ℕ
lane_units sp here left i = units sp.cell (get_or left i 0) (get_or here i 0)

-- the chains of the first lanes have been marked, whatever space the numbers are of
abbrev pub LanesMarked : (at limit : ℕ) → List ℕ → List ℕ → ℕ → List ℕ → List ℕ → Option Bool → Type 0
LanesMarked at limit here left count before after a =
    (sp : Space) → sp.limit ≡ limit → Markable sp at before
    → ChainsMarked sp at (all_below count (lane_right sp here left)) (join_below count (lane_units sp here left)) before after a
