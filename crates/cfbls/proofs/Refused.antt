-- The line of a refusal.
use mathlib.Core.Path.{◌≡◌}
use mathlib.Core.List.{[], ◌∷◌}
use Prim.Native.Nat.{ℕ, ◌≤◌}
use native.Mathlib.Omega.{arith}
use lib.ListN.{length, length-append}
use Rattle.format.specs.Calls.Text.{newline, decimal}
use Rattle.format.specs.Calls.Program.{refused_line}
use Rattle.text.proofs.Decimals.{decimal_most}

pub refused_most : (n : ℕ) → length (refused_line n) ≤ 29
unfolding refused_line
refused_most n = omega (arith, length-append (decimal n) (newline ∷ []), decimal_most n)
