-- A buffer that a loop fills with blocks of one length.
use Rattle.std.specs.Prelude.{ℕ, ◌*◌, ◌≤◌, ◌≡◌, ◌++◌, length, drop}
use Rattle.format.specs.Basics.Lists.{join_below}
use Rattle.format.specs.Basics.Bytes.{Bytes}

-- i of n blocks of w bytes stand at the front, and behind them what was there before
pub record Laid (w n : ℕ) (f : ℕ → Bytes) (old : Bytes) (i : ℕ) (b : Bytes) : Type 0 where
  pub long : length b ≡ length old
  pub within : i ≤ n
  pub front : b ≡ join_below i f ++ drop (i * w) old
