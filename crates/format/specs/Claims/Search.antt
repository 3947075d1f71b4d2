-- What is claimed of the searches of a growth (W-204): where each begins, what it finds, and how many cells they look at.
use Rattle.std.specs.Prelude.{ℕ, suc, ◌-◌, ◌≤◌, min, ◌≡◌, Bool, not, ◌&&◌, List, [], ◌∷◌, ◌++◌, take, get_or}
use Rattle.format.specs.Basics.Lists.{pick_below, member}
use Rattle.format.specs.Layout.Chain.{is_free}
use Rattle.format.specs.Basics.Bytes.{Bytes}
use Rattle.format.specs.Layout.Space.{Space, free_units}
use Rattle.format.specs.Layout.Volume.{volume}
use Rattle.format.specs.Layout.Stream.{space_for, stream_units}
use Rattle.format.specs.Rules.Version.{version_of}
use Rattle.format.specs.Rules.Verdict.{Accepted}
use Rattle.format.specs.Calls.Paths.{Path}
use Rattle.format.specs.Calls.Call.{set_length}
use Rattle.format.specs.Calls.Answer.{target, answer}
use Rattle.format.specs.Calls.Buffers.{image_after}
use Rattle.format.specs.Calls.Search.{Search, growth_searches, units_found, cells_looked, kept_units, length_searches}

-- ---- one by one

-- free, and none of the units found before
unfoldable pub free_beside : Space → List ℕ → ℕ → Bool
free_beside sp before u = is_free sp.cell u && not (member u before)

-- a search that is to begin at `from`, after searches that found the units `before`
pub record InTurn (sp : Space) (from : ℕ) (before : List ℕ) (s : Search) : Type 0 where
  pub begins : s.from ≡ from
  -- it finds the lowest free unit that was not found before, or the limit
  pub lowest : s.found ≡ get_or (pick_below sp.limit (free_beside sp before)) 0 sp.limit
  -- it looks at the cells from its beginning to that unit, and at no others
  pub exact : s.looked ≡ min (suc s.found) sp.limit - from

-- and each after it begins just above the unit found last
unfoldable pub InTurns : Space → ℕ → List ℕ → List Search → Type 0
InTurns sp from before [] = Unit {0}
InTurns sp from before (s ∷ ss) = InTurn sp from before s × InTurns sp (suc s.found) (before ++ (s.found ∷ [])) ss

-- the first begins at 0
abbrev pub SearchInTurn : Space → Type 0
SearchInTurn sp = (n : ℕ) → InTurns sp 0 [] (growth_searches sp n)

-- ---- all together

-- they find the free units, lowest first
abbrev pub FindLowest : Space → Type 0
FindLowest sp = (n : ℕ) → units_found sp (growth_searches sp n) ≡ take n (free_units sp)

-- they look at no more cells than there are units
abbrev pub LookAtMost : Space → Type 0
LookAtMost sp = (n : ℕ) → cells_looked (growth_searches sp n) ≤ sp.limit

-- ---- and of a call

-- What an accepted change of length adds to a stream, on one side of the cutoff and across it, is what the searches find in the image before the
-- call, in their order, behind the units that the stream keeps.
abbrev pub LengthSearched : Type 0
LengthSearched =
    (img : Bytes) → Accepted (version_of img) img → (path : Path) (new : ℕ) (work : List ℕ)
    → answer (version_of img) img (set_length path new work) ≡ 0
    → let v = volume (version_of img) img in
    let e = target v path in
    let after = volume (version_of img) (image_after img (set_length path new work)) in
    stream_units after e ≡ kept_units v e new ++ units_found (space_for v new) (length_searches v e new)
