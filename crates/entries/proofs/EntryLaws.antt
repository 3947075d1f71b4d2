-- The fields of an entry are the image's bytes at its place.
use Prim.Native.Nat.{ℕ, ◌+◌, ◌≤◌}
use mathlib.Core.Path.{◌≡◌, ap, ◌∙◌}
use mathlib.Core.Logic.{◌≢◌}
use native.Mathlib.Omega.{arith}
use borrow.Author.Tests.{ne_eqb}
use lib.ListN.{get_or, drop}
use lib.Seq.{get_or-take, get_or-drop}
use Rattle.format.specs.Basics.Bytes.{Bytes, byte_at, part, number, u16at, u32at, u64at, all_zero}
use Rattle.format.specs.Layout.Geometry.{Geometry, size_width}
use Rattle.format.specs.Layout.Entry.{size}
use Rattle.theory.proofs.ByteTests.{part_part}
use Rattle.entries.specs.Entry.{entry_at}

module _ (img : Bytes) (p o : ℕ) where
  pub byte_in : o + 1 ≤ 128 → byte_at (entry_at img p) o ≡ get_or img (p + o) 0
  unfolding byte_at part
  byte_in h = get_or-take 128 (drop p img) o 0 (omega arith) ∙ get_or-drop p img o 0

  pub u16_in : o + 2 ≤ 128 → u16at (entry_at img p) o ≡ u16at img (p + o)
  unfolding u16at
  u16_in h = ap number (part_part img p 128 o 2 h)

  pub u32_in : o + 4 ≤ 128 → u32at (entry_at img p) o ≡ u32at img (p + o)
  unfolding u32at
  u32_in h = ap number (part_part img p 128 o 4 h)

  pub u64_in : o + 8 ≤ 128 → u64at (entry_at img p) o ≡ u64at img (p + o)
  unfolding u64at
  u64_in h = ap number (part_part img p 128 o 8 h)

  pub zeros_in : (n : ℕ) → o + n ≤ 128 → all_zero (part (entry_at img p) o n) ≡ all_zero (part img (p + o) n)
  zeros_in n h = ap all_zero (part_part img p 128 o n h)

-- the size as read: four bytes in version 3, else eight
module _ (g : Geometry) (e : Bytes) where
  pub size_short : g.major ≡ 3 → size (size_width g) e ≡ u32at e 120
  unfolding size size_width u32at
  size_short h = rw h

  pub size_long : g.major ≢ 3 → size (size_width g) e ≡ u64at e 120
  unfolding size size_width u64at
  size_long h = rw (ne_eqb g.major 3 h)

pub ruleset sizes = (size_short, size_long, u64_in)
