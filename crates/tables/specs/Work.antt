-- Parts of the work buffer.
use Rattle.std.specs.Prelude.{ℕ, ◌+◌, ◌≤◌, ◌<◌, ◌≡◌, List, ◌⊎◌, length, get_or}

-- nothing changed but the n numbers from a place on
pub record Wrote (before after : List ℕ) (at n : ℕ) : Type 0 where
  pub long : length after ≡ length before
  pub outside : (i : ℕ) → (i < at) ⊎ (at + n ≤ i) → get_or after i 0 ≡ get_or before i 0

-- f 0 .. f (n - 1) stand from a place on
pub record Holds (w : List ℕ) (at n : ℕ) (f : ℕ → ℕ) : Type 0 where
  pub room : at + n ≤ length w
  pub here : (j : ℕ) → j < n → get_or w (at + j) 0 ≡ f j
