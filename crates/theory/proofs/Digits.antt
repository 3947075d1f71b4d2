-- Decimal digits: room for more than a number has changes nothing, so 20 are enough for every number of 64 bits.
use mathlib.Core.Path.{◌≡◌, refl, ap}
use mathlib.Core.Bool.{Bool, true, false, cond}
use mathlib.Core.List.{◌∷◌, [], ◌++◌}
use Prim.Native.Nat.{ℕ, zero, suc, ◌+◌, ◌/◌, ◌%◌, ◌^◌, ◌<◌}
use native.Mathlib.Nat.{pow-zero, pow-suc}
use native.Mathlib.Omega.{arith}
use lib.Dec.{ltb}
use borrow.Author.Tests.{ltb-false}
use Rattle.format.specs.Basics.Bytes.{Bytes}
use Rattle.format.specs.Calls.Text.{digits}

pub digits_enough : (k n : ℕ) → n < 10 ^ suc k → digits (suc (suc k)) n ≡ digits (suc k) n
unfolding digits
digits_enough zero n h = go (ltb n 10) refl
  where
    go : (b : Bool) → ltb n 10 ≡ b
        → cond b ((0x30 + n) ∷ []) (digits 1 (n / 10) ++ ((0x30 + n % 10) ∷ [])) ≡ cond b ((0x30 + n) ∷ []) ((0x30 + n % 10) ∷ [])
    go true e = refl
    go false e = let l = ltb-false n 10 e in absurd (omega (arith, pow-suc 10 0, pow-zero 10))
digits_enough (suc k) n h = go (ltb n 10) (digits_enough k (n / 10) (omega (arith, pow-suc 10 (suc k))))
  where
    go : (b : Bool) → digits (suc (suc k)) (n / 10) ≡ digits (suc k) (n / 10)
        → cond b ((0x30 + n) ∷ []) (digits (suc (suc k)) (n / 10) ++ ((0x30 + n % 10) ∷ []))
        ≡ cond b ((0x30 + n) ∷ []) (digits (suc k) (n / 10) ++ ((0x30 + n % 10) ∷ []))
    go true e = refl
    go false e = ap (λ (l : Bytes). l ++ ((0x30 + n % 10) ∷ [])) e
