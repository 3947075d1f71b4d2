-- An image of an allowed length is sized as the functions on its header and tables require.
use Prim.Native.Nat.{◌≤◌}
use mathlib.Core.Path.{◌≡◌, sym, ap, ◌∙◌, subst}
use mathlib.Core.Logic.{inl, inr}
use mathlib.Core.Bool.{true}
use native.Mathlib.Omega.{arith}
use lib.ListN.{length}
use Rattle.format.specs.Basics.Bytes.{Bytes}
use Rattle.format.specs.Layout.Geometry.{Geometry, version3, version4}
use Rattle.format.specs.Rules.Length.{length_allowed}
use Rattle.format.specs.Rules.Version.{version_of}
use Rattle.kinds.specs.declared.Geometry.{Geometry as Sizes}
use Rattle.kinds.specs.Sizes.{geometry_of}
use Rattle.frame.specs.Kept.{Sized}
use Rattle.frame.proofs.Final.{own_sized}
use Rattle.frame.proofs.Versions.{version_cases}
use Rattle.frame.proofs.Lengths.{allowed_least, allowed_short, allowed_long, allowed_few, allowed_many}
use Rattle.header.specs.Sized.{ImageSized}

pub allowed_sized : (g : Geometry) (img : Bytes) → Sized g → g.sector_bytes ≤ 4096 → length_allowed g (length img) ≡ true → ImageSized g img
allowed_sized g img z k h =
    record {
      wide = z.wide;
      narrow = k;
      even = z.even;
      long = allowed_long g img h z;
      head = omega (arith, z.wide, allowed_least g img h);
      many = allowed_many g img h z;
      few = allowed_few g img h z;
      short = omega (arith, allowed_short g img h);
    }

-- the sizes of an image's own version
module _ {s : Sizes} (img : Bytes) (own : geometry_of s ≡ version_of img) where
  pub own_value : Sized (geometry_of s)
  own_value = subst (λ (g : Geometry). Sized g) (sym own) (own_sized img)

  pub own_narrow : s.bytes ≤ 4096
  unfolding version3 version4
  own_narrow =
      elim (version_cases img) [
        | inl e ↦ omega (arith, ap (λ (g : Geometry). g.sector_bytes) (own ∙ e))
        | inr e ↦ omega (arith, ap (λ (g : Geometry). g.sector_bytes) (own ∙ e))
      ]
