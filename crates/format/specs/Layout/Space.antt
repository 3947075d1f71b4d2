-- A space of units: the sectors, or the mini sectors. Both have a table with one cell for each unit, and chains in it.
use Rattle.std.specs.Prelude.{ℕ, Bool, List, [], ◌∷◌, ◌++◌}
use Rattle.format.specs.Basics.Bytes.{Bytes, part}
use Rattle.format.specs.Layout.Need.{round_up}
use Rattle.format.specs.Layout.Chain.{chain, units, free_below, allocated_below}

pub record Space : Type 0 where
  -- how many units there are: N sectors, or K mini sectors
  pub limit : ℕ
  -- how many cells the table has
  pub cells : ℕ
  -- the bytes of a unit
  pub unit : ℕ
  -- the cell of each unit
  pub cell : ℕ → ℕ
  -- the byte of the image where the cell of a unit starts, and where the unit starts
  pub cell_place : ℕ → ℕ
  pub unit_place : ℕ → ℕ

-- ---- free and allocated units

-- the free units, lowest first
unfoldable pub free_units : Space → List ℕ
free_units sp = free_below sp.cell sp.limit

-- how many units are allocated
unfoldable pub allocated : Space → ℕ
allocated sp = allocated_below sp.cell sp.limit

-- ---- chains that hold n bytes

unfoldable pub chain_for : Space → ℕ → ℕ → Bool
chain_for sp n s = chain sp.cell sp.limit (round_up n sp.unit) s

unfoldable pub units_for : Space → ℕ → ℕ → List ℕ
units_for sp n s = units sp.cell (round_up n sp.unit) s

-- ---- what the units hold

-- the bytes of a unit
unfoldable pub block : Space → Bytes → ℕ → Bytes
block sp img u = part img (sp.unit_place u) sp.unit

-- what units hold, laid end to end, where `hold` says what each holds
abbrev pub laid : (ℕ → Bytes) → List ℕ → Bytes
laid hold [] = []
laid hold (u ∷ us) = hold u ++ laid hold us
