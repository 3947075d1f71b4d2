use Prim.Native.Nat.{◌%◌}
use native.Mathlib.Decide.{ℕ_discrete}
use native.Mathlib.Omega.{arith}
use Rattle.theory.proofs.RoundUp.{round_whole, round_more}
use Rattle.chains.proofs.units_for.Goals as goal

pub returns : goal.returns
returns c =
    let a = c.args in
    elim (ℕ_discrete (a.size % a.unit) 0) [
      | yes e ↦ omega (arith, c.div_ceil.ensures, round_whole a.size a.unit (omega (arith, c.requires)) e)
      | no e ↦ omega (arith, c.div_ceil.ensures, round_more a.size a.unit (omega (arith, c.requires)) e)
    ]
