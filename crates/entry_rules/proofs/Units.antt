-- A test of every number below a limit, one more at a time.
use Prim.Native.Nat.{ℕ, ◌+◌, ◌<◌}
use mathlib.Core.Path.{◌≡◌, sym, ◌∙◌}
use mathlib.Core.Bool.{Bool, true, false, and-true, and-false}
use Rattle.format.specs.Basics.Lists.{all_below}
use Rattle.theory.proofs.Loops.{below_next, below_not}
use Rattle.entry_rules.specs.Names.{rest_below}

module _ (p : ℕ → Bool) where
  -- those from m on
  pub rest_next : (m i : ℕ) → all_below i p ≡ all_below m p → p i ≡ true → all_below (i + 1) p ≡ all_below m p
  rest_next m i h e = rw (below_next p i, e, h) (and-true (all_below m p))

  pub rest_stop : (m i n : ℕ) → i < n → p i ≡ false → rest_below m n p false
  rest_stop m i n h e = and-false (all_below m p) ∙ sym (below_not p n i h e)

  pub rest_end : (m n : ℕ) → all_below n p ≡ all_below m p → rest_below m n p true
  rest_end m n h = and-true (all_below m p) ∙ sym h
