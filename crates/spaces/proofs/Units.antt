-- A unit is its kind and its number; its cell is a unit of its kind.
use Prim.Native.Nat.{ℕ}
use mathlib.Core.Path.{◌≡◌, refl, ◌∙◌, ap}
use Rattle.spaces.specs.declared.Kind.{Kind}
use Rattle.spaces.specs.declared.Kind.TheVariants.{Sectors, Minis}
use Rattle.spaces.specs.declared.Unit.{Unit}
use Rattle.spaces.specs.declared.Unit.TheVariants.{Sector, Mini}
use Rattle.format.specs.Basics.Bytes.{Bytes}
use Rattle.volume.specs.declared.Volume.{Volume as Opened}
use Rattle.spaces.specs.Spaces.{space_at}
use Rattle.spaces.specs.Units.{kind_of, number_in, unit_of}

pub kind_of_lem : (k : Kind) (n : ℕ) → kind_of (unit_of k n) ≡ k
kind_of_lem Sectors n = refl
kind_of_lem Minis n = refl

pub number_in_lem : (k : Kind) (n : ℕ) → number_in (unit_of k n) ≡ n
number_in_lem Sectors n = refl
number_in_lem Minis n = refl

pub unit_of_lem : (u : Unit) → unit_of (kind_of u) (number_in u) ≡ u
unit_of_lem (Sector s) = refl
unit_of_lem (Mini m) = refl

pub unit_as : {u : Unit} (k : Kind) (n : ℕ) → u ≡ unit_of k n → (kind_of u ≡ k) × (number_in u ≡ n)
unit_as k n e = (ap kind_of e ∙ kind_of_lem k n, ap number_in e ∙ number_in_lem k n)

-- the cell of a unit whose kind and number are known
pub cell_as : (v : Opened) (img : Bytes) (u : Unit) {r : Unit} (k : Kind) (n : ℕ) → kind_of u ≡ k → number_in u ≡ n
    → r ≡ unit_of (kind_of u) ((space_at v img (kind_of u)).cell (number_in u)) → (kind_of r ≡ k) × (number_in r ≡ (space_at v img k).cell n)
cell_as v img u k n a b e = rw (← a, ← b) (unit_as (kind_of u) ((space_at v img (kind_of u)).cell (number_in u)) e)
