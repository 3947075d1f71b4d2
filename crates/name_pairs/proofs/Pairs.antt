-- Pairs of names: what the first look at them keeps, and how long a name can be.
use Prim.Native.Nat.{ℕ, ◌<◌}
use mathlib.Core.Path.{◌≡◌}
use mathlib.Core.List.{List}
use native.Mathlib.Omega.{arith}
use lib.ListN.{length}
use Rattle.format.specs.Basics.Bytes.{Bytes}
use Rattle.entries.specs.Entry.{name_at, entry_at, NamedAt}
use Rattle.entries.proofs.NameLaws.{name_length}
use Rattle.name_pairs.specs.Pairs.{Looked}

-- what the loop of `look` keeps
pub record Looking (img : Bytes) (low high units from : List ℕ) (i : ℕ) : Type 0 where
  pub looked : Looked img low high units from i
  pub long : length units ≡ 64
  pub as_long : length from ≡ 64

-- a name that lies in its place has at most 31 units
pub units_few : {img : Bytes} {p : ℕ} → NamedAt img p → length (name_at img p) < 32
units_few {img} {p} n = omega (arith, n.named.most, name_length (entry_at img p))
