-- What an allowed length says of an image.
use mathlib.Core.Path.{◌≡◌}
use mathlib.Core.Bool.{true, ◌&&◌}
use Prim.Native.Nat.{ℕ, zero, suc, ◌+◌, ◌-◌, ◌*◌, ◌/◌, ◌%◌, ◌≤◌, ◌<◌}
use native.Mathlib.Nat.{div-add-mod', mul-le-mul_left, le-div_iff_mul-le}
use native.Mathlib.Omega.{arith}
use lib.Dec.{eqb, leb}
use lib.ListN.{length}
use borrow.Author.Tests.{leb-true, eqb-true}
use Rattle.format.specs.Basics.Bytes.{Bytes}
use Rattle.format.specs.Layout.Geometry.{Geometry, sector_count}
use Rattle.format.specs.Rules.Length.{least_image, greatest_image, length_allowed}
use Rattle.theory.proofs.Tests.{both}
use Rattle.frame.specs.Kept.{Sized}

-- No law leans on the greatest length but for this bound, which leaves room for images of 64 MiB.
pub greatest_few : greatest_image ≤ 0x400_0000
unfolding greatest_image
greatest_few = omega arith

module _ (g : Geometry) (img : Bytes) (h : length_allowed g (length img) ≡ true) where
  parts : (length img % g.sector_bytes ≡ 0) × (3 * g.sector_bytes ≤ length img) × (length img ≤ greatest_image)
  unfolding length_allowed least_image
  parts =
      let n = length img in
      let a = both (eqb (n % g.sector_bytes) 0 && leb (3 * g.sector_bytes) n) (leb n greatest_image) h in
      let b = both (eqb (n % g.sector_bytes) 0) (leb (3 * g.sector_bytes) n) a.0 in
      (eqb-true (n % g.sector_bytes) 0 b.0, leb-true (3 * g.sector_bytes) n b.1, leb-true n greatest_image a.1)

  pub allowed_least : 3 * g.sector_bytes ≤ length img
  allowed_least = parts.1

  pub allowed_short : length img ≤ 0x400_0000
  allowed_short = omega (arith, parts.2, greatest_few)

  module _ (z : Sized g) where
    pub allowed_long : length img ≡ (sector_count g img + 1) * g.sector_bytes
    unfolding sector_count
    allowed_long =
        let d = div-add-mod' (length img) g.sector_bytes in
        go (length img / g.sector_bytes) (omega (arith, d, parts.0)) parts.1
      where
        go : (q : ℕ) → q * g.sector_bytes ≡ length img → 3 * g.sector_bytes ≤ length img → length img ≡ (q - 1 + 1) * g.sector_bytes
        go zero e k = let w = z.wide in absurd (omega arith)
        go (suc q) e k = let r : suc q - 1 ≡ q = omega arith in rw r (omega arith)

    pub allowed_few : sector_count g img < 0x100_0000
    allowed_few = omega (arith, allowed_long, mul-le-mul_left (sector_count g img + 1) z.wide, allowed_short)

    pub allowed_many : sector_count g img < length img / 512
    allowed_many =
        let n = sector_count g img + 1 in
        let k : sector_count g img + 1 ≤ length img / 512 =
        (le-div_iff_mul-le {k = 512} {x = n} {y = length img} (omega arith)).1 (omega (arith, allowed_long, mul-le-mul_left n z.wide)) in
        omega arith
