-- Chains and free units, over any table of cells: the cell of a unit names the next unit, or is one of the special values.
use Rattle.std.specs.Prelude.{ℕ, zero, suc, Bool, not, cond, ◌&&◌, List, [], ◌∷◌, eqb, ltb, length}
use Rattle.format.specs.Basics.Lists.{pick_below}

-- ---- the special values of a cell. No image has so many units that one of these is a unit's number.

abbrev pub FREE : ℕ
FREE = 0xFFFF_FFFF

abbrev pub END : ℕ
END = 0xFFFF_FFFE

abbrev pub FATSECT : ℕ
FATSECT = 0xFFFF_FFFD

abbrev pub DIFSECT : ℕ
DIFSECT = 0xFFFF_FFFC

-- ---- chains

-- 01's "chain of n" from a start: n units below the limit, each cell naming the next, the last cell END; of 0 units the start is END.
-- That no cell on the way is free or special is said by the limit, which lies below those values.
-- (The `let` here and in other definitions is for computing: what it names is worked out only where it is looked at.)
unfoldable pub chain : (ℕ → ℕ) → ℕ → ℕ → ℕ → Bool
chain cell limit zero s = eqb s END
chain cell limit (suc n) s = let rest = chain cell limit n (cell s) in ltb s limit && rest

-- the units of a chain of n, in order
unfoldable pub units : (ℕ → ℕ) → ℕ → ℕ → List ℕ
units cell zero s = []
units cell (suc n) s = s ∷ units cell n (cell s)

-- the units from a start on, as far as cells name units, and at most n of them: for a chain whose length is not given
unfoldable pub follow : (ℕ → ℕ) → ℕ → ℕ → ℕ → List ℕ
follow cell limit zero s = []
follow cell limit (suc n) s = let more = s ∷ follow cell limit n (cell s) in cond (ltb s limit) more []

-- the start that a chain of these units has
abbrev pub start_of : List ℕ → ℕ
start_of [] = END
start_of (u ∷ us) = u

-- ---- free and allocated units

abbrev pub is_free : (ℕ → ℕ) → ℕ → Bool
is_free cell u = eqb (cell u) FREE

-- 01's "taken"
abbrev pub is_allocated : (ℕ → ℕ) → ℕ → Bool
is_allocated cell u = not (is_free cell u)

-- the free units below the limit, lowest first
abbrev pub free_below : (ℕ → ℕ) → ℕ → List ℕ
free_below cell limit = pick_below limit (is_free cell)

-- how many units below the limit are allocated
abbrev pub allocated_below : (ℕ → ℕ) → ℕ → ℕ
allocated_below cell limit = length (pick_below limit (is_allocated cell))
