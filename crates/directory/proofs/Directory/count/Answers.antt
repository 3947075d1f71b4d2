use Prim.Native.Nat.{◌≤◌}
use native.Mathlib.Nat.{mul-le-mul_right}
use native.Mathlib.Omega.{arith}
use Rattle.format.specs.Layout.Geometry.{entries_in, entry_bytes}
use Rattle.directory.proofs.Directory.count.Goals as goal

pub overflow_mul-result : goal.overflow_mul-result
unfolding entries_in entry_bytes
overflow_mul-result c =
    let few : c.entries.result ≤ 32 = omega (arith, c.entries.ensures, c.requires.0) in
    omega (arith, mul-le-mul_right c.args.self.sectors few, c.requires.1)
