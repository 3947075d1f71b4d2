use Rattle.kinds.specs.Sizes.{geometry_of}
use Rattle.header.proofs.HeaderNumbers.{header_numbers}
use native.Mathlib.Omega.{arith}
use Rattle.header.proofs.header_rules.Goals as goal

pub returns : goal.returns
returns c =
    rw (
      header_numbers (geometry_of c.args.g) c.args.img.now (omega arith) (λ i. omega (arith, c.type_inv.img i)),
      c.all_zero.ensures,
      c.u32_at-2.ensures,
      c.directory_count.ensures,
      c.counts_directory.ensures,
      c.u16_at-5.ensures,
      c.u32_at.ensures,
      c.u16_at-4.ensures,
      c.u16_at-3.ensures,
      c.u16_at-2.ensures,
      c.u16_at.ensures,
      c.u64_at-3.ensures,
      c.u64_at-2.ensures,
      c.u64_at.ensures,
    )
