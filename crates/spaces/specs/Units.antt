-- A unit of either kind: its kind and its number, the unit that a kind and a number make, and the chain that starts at a unit.
use Rattle.std.specs.Prelude.{ℕ, Bool, List}
use Rattle.format.specs.Basics.Bytes.{Bytes}
use Rattle.format.specs.Layout.Chain.{chain, units}
use Rattle.volume.specs.declared.Volume.{Volume as Opened}
use Rattle.spaces.specs.declared.Kind.{Kind}
use Rattle.spaces.specs.declared.Kind.TheVariants.{Sectors, Minis}
use Rattle.spaces.specs.declared.Unit.{Unit}
use Rattle.spaces.specs.declared.Unit.TheVariants.{Sector, Mini}
use Rattle.spaces.specs.Spaces.{space_at}

abbrev pub kind_of : Unit → Kind
kind_of (Sector s) = Sectors
kind_of (Mini m) = Minis

abbrev pub number_in : Unit → ℕ
number_in (Sector s) = s.0
number_in (Mini m) = m.0

abbrev pub unit_of : Kind → ℕ → Unit
unit_of Sectors n = Sector (record { 0 = n })
unit_of Minis n = Mini (record { 0 = n })

-- whether a chain of n starts at a unit, and the units of such a chain
abbrev pub chain_from : Opened → Bytes → Unit → ℕ → Bool
chain_from v img u n = chain (space_at v img (kind_of u)).cell (space_at v img (kind_of u)).limit n (number_in u)

abbrev pub units_from : Opened → Bytes → Unit → ℕ → List ℕ
units_from v img u n = units (space_at v img (kind_of u)).cell n (number_in u)
