-- Places by the lists fit the machine's numbers.
use Prim.Native.Nat.{ℕ, ◌+◌, ◌*◌, ◌%◌, ◌≤◌, ◌<◌}
use native.Mathlib.Nat.{mod-lt, mul-le-mul}
use native.Mathlib.Omega.{arith}
use mir.Syntax.{w64}
use mir.Val.{Fits}
use Rattle.format.specs.Layout.Geometry.{Geometry, sector_place}

-- a byte of a sector has a place that fits
pub sector_fits : (g : Geometry) (s i : ℕ) → s < 0x1_0000_0000 → 512 ≤ g.sector_bytes → g.sector_bytes ≤ 4096 → Fits w64 (sector_place g s + i % g.sector_bytes)
unfolding sector_place
sector_fits g s i h w n =
    let q : s + 1 ≤ 0x1_0000_0000 = omega arith in
    let a : (s + 1) * g.sector_bytes ≤ 0x1_0000_0000 * 4096 = mul-le-mul q n in
    let b : i % g.sector_bytes < g.sector_bytes = mod-lt i (omega arith) in
    record { fits = omega arith }
