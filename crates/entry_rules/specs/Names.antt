-- The tests of the units of an entry's name, and that the name of an object lies in its place.
use Rattle.std.specs.Prelude.{ℕ, ◌≡◌, Bool, true, ◌&&◌, ◌||◌}
use Rattle.format.specs.Basics.Lists.{all_below}
use Rattle.format.specs.Basics.Bytes.{Bytes}
use Rattle.format.specs.Layout.Name.{legal_unit}
use Rattle.format.specs.Layout.Entry.{name_unit, is_storage, is_stream}
use Rattle.entries.specs.Entry.{Named}

abbrev pub unit_legal : Bytes → ℕ → Bool
unit_legal e i = legal_unit (name_unit e i)

-- r says of those from m on what is left of a test of all below n
abbrev pub rest_below : ℕ → ℕ → (ℕ → Bool) → Bool → Type 0
rest_below m n p r = (all_below m p && r) ≡ all_below n p

pub record ObjectNamed (e : Bytes) : Type 0 where
  pub named : (is_storage e || is_stream e) ≡ true → Named e
