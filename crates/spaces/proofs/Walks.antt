-- The units of a chain by their places: the first is the start, and each cell names the next.
use Prim.Native.Nat.{ℕ, zero, suc, ◌+◌, ◌<◌}
use mathlib.Core.Path.{◌≡◌, ap}
use native.Mathlib.Numerals.{add-one}
use native.Mathlib.Omega.{arith}
use lib.ListN.{get_or}
use Rattle.format.specs.Layout.Chain.{units}
use Rattle.theory.proofs.Chains.{units_next}

pub unit_first : (f : ℕ → ℕ) (n s : ℕ) → 0 < n → get_or (units f n s) 0 0 ≡ s
unit_first f n s h = ap (λ us. get_or us 0 0) (units_next f n s h)

next : (f : ℕ → ℕ) (n s k : ℕ) → suc k < n → get_or (units f n s) (suc k) 0 ≡ f (get_or (units f n s) k 0)
unfolding units
next f zero s k h = absurd (omega arith)
next f (suc n) s zero h = unit_first f n (f s) (omega arith)
next f (suc n) s (suc k) h = next f n (f s) k (omega arith)

pub unit_next : (f : ℕ → ℕ) (n s k : ℕ) → k + 1 < n → get_or (units f n s) (k + 1) 0 ≡ f (get_or (units f n s) k 0)
unit_next f n s k h = rw add-one (next f n s k (omega arith))
