-- The kind of unit of a length names the space that a stream of that length lies in.
use Prim.Native.Nat.{ℕ}
use mathlib.Core.Path.{◌≡◌, refl}
use mathlib.Core.Bool.{Bool, true, false, cond}
use lib.Dec.{ltb}
use Rattle.format.specs.Layout.Need.{cutoff}
use Rattle.format.specs.Layout.Volume.{Volume}
use Rattle.format.specs.Layout.Stream.{space_for}
use Rattle.spaces.specs.Spaces.{kind_for, space_in}
use Rattle.spaces.specs.declared.Kind.TheVariants.{Sectors, Minis}

pub kind_space : (vol : Volume) (n : ℕ) → space_in vol (kind_for n) ≡ space_for vol n
unfolding kind_for space_for
kind_space vol n = go (ltb n cutoff)
  where
    go : (b : Bool) → space_in vol (cond b Minis Sectors) ≡ cond b vol.minis vol.sectors
    go true = refl
    go false = refl
