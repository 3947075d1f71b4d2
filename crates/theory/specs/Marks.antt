-- Marks on units: at each marked unit, how many units its chain still has, itself included. 0 is no mark.
use Rattle.std.specs.Prelude.{◌≡◌, ◌⊎◌, Bool, true, false, cond, ◌&&◌, ◌||◌, List, ℕ, suc, ◌+◌, ◌-◌, ◌≤◌, ◌<◌, eqb, ltb, get_or}
use Rattle.format.specs.Basics.Lists.{count, member}
use Rattle.format.specs.Layout.Chain.{END, DIFSECT, units, is_free}

-- the marks that stand in a list, each at its unit's number
unfoldable pub marks : List ℕ → ℕ → ℕ
marks w u = get_or w u 0

unfoldable pub unmarked : (ℕ → ℕ) → ℕ → Bool
unmarked m u = eqb (m u) 0

-- the mark of u agrees with what its cell names: the end, or a unit with a mark less by one
abbrev pub Closes : (ℕ → ℕ) → ℕ → (ℕ → ℕ) → ℕ → Type 0
Closes cell limit m u = ((m u ≡ 1) × (cell u ≡ END)) ⊎ ((cell u < limit) × (m u ≡ suc (m (cell u))) × (0 < m (cell u)))

pub record Closed (cell : ℕ → ℕ) (limit : ℕ) (m : ℕ → ℕ) : Type 0 where
  pub at : (u : ℕ) → u < limit → 0 < m u → Closes cell limit m u

-- the marks after a chain of n from s was marked: still closed, and marked are those that were and the chain's units
pub record ChainMarked (cell : ℕ → ℕ) (limit n s : ℕ) (before after : ℕ → ℕ) : Type 0 where
  pub closed : Closed cell limit after
  pub marked : (u : ℕ) → u < limit → ltb 0 (after u) ≡ (ltb 0 (before u) || member u (units cell n s))

-- The chains whose units are `owned`, end to end, have been marked; `shared` says whether a unit stands twice among them.
pub record Owning (cell : ℕ → ℕ) (limit : ℕ) (owned : List ℕ) (m : ℕ → ℕ) (shared : Bool) : Type 0 where
  pub closed : Closed cell limit m
  pub marked : (u : ℕ) → u < limit → ltb 0 (m u) ≡ member u owned
  pub single : shared ≡ false → (u : ℕ) → u < limit → count u owned ≤ 1
  pub double : shared ≡ true → (u : ℕ) × (u < limit) × (1 < count u owned)

-- a unit that group 18 has nothing against: it has a mark, or its cell is free, or it is one of the `others`, which stand in no chain
unfoldable pub covered : (ℕ → ℕ) → (ℕ → ℕ) → List ℕ → ℕ → Bool
covered cell m others u = ltb 0 (m u) || (is_free cell u || member u others)

-- ---- marks in the place of cells

-- A mark is a number above this one and below the special values. No image has so many units that one of these numbers is a unit's.
abbrev pub MARK : ℕ
MARK = 0x8000_0000

unfoldable pub is_mark : ℕ → Bool
is_mark v = ltb MARK v && ltb v DIFSECT

-- how many units its chain still has; 0 where it is no mark
unfoldable pub mark_of : ℕ → ℕ
mark_of v = cond (is_mark v) (v - MARK) 0

-- the marks among numbers that stand in a list from a place on, one for each unit
abbrev pub marks_at : ℕ → List ℕ → ℕ → ℕ
marks_at at w u = mark_of (get_or w (at + u) 0)

-- where there is no mark, the cell stands
pub record InPlace (cell : ℕ → ℕ) (limit at : ℕ) (w : List ℕ) : Type 0 where
  pub stands : (u : ℕ) → u < limit → marks_at at w u ≡ 0 → get_or w (at + u) 0 ≡ cell u
