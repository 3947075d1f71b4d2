-- Numbers that are copied down to the start of the work buffer.
use Prim.Native.Nat.{ℕ, ◌+◌, ◌≤◌}
use mathlib.Core.Path.{◌≡◌}
use mathlib.Core.List.{List}
use native.Mathlib.Omega.{arith}
use lib.ListN.{length, take, drop, length-drop}
use lib.Seq.{paste, take_at, length-take-le}

pub copied_front : (w₀ : List ℕ) {w : List ℕ} (from n m : ℕ) → from + n ≤ length w₀ → m ≡ n → w ≡ paste w₀ 0 (drop from w₀) m → take n w ≡ take n (drop from w₀)
copied_front w₀ from n m h k e =
    let l = length-take-le n (drop from w₀) (omega (arith, length-drop from w₀)) in
    rw (e, k) (take_at (take n (drop from w₀)) _ n l)
