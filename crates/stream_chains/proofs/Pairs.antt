-- Pairs of numbers, of which the first stand in one list and the second in another: one more is put behind the first k.
use Prim.Native.Nat.{ℕ, ◌+◌, ◌<◌}
use mathlib.Core.Path.{◌≡◌, ap₂, ◌∙◌}
use mathlib.Core.Bool.{Bool, ◌&&◌}
use mathlib.Core.List.{List, ◌++◌}
use native.Mathlib.Omega.{arith}
use lib.ListN.{length, get_or, set}
use lib.Seq.{get_or-set_same, get_or-set_other}
use Rattle.format.specs.Basics.Lists.{all_below, join_below}
use Rattle.theory.proofs.Below.{join_ext}
use Rattle.theory.proofs.Tests.{below_ext}
use Rattle.theory.proofs.Loops.{below_next}
use Rattle.stream_chains.proofs.Joins.{join_more}

module _ (firsts seconds : List ℕ) (k a b : ℕ) where
  -- the pair at j, before and after
  abbrev old : {A : Type 0} → (ℕ → ℕ → A) → ℕ → A
  old f j = f (get_or firsts j 0) (get_or seconds j 0)

  abbrev new : {A : Type 0} → (ℕ → ℕ → A) → ℕ → A
  new f j = f (get_or (set firsts k a) j 0) (get_or (set seconds k b) j 0)

  same : {A : Type 0} (f : ℕ → ℕ → A) (j : ℕ) → j < k → new f j ≡ old f j
  same f j l = ap₂ f (get_or-set_other firsts k j a 0 (omega arith)) (get_or-set_other seconds k j b 0 (omega arith))

  pub all_kept : (p : ℕ → ℕ → Bool) → all_below k (new p) ≡ all_below k (old p)
  all_kept p = below_ext k (old p) (new p) (same p)

  pub join_kept : (f : ℕ → ℕ → List ℕ) → join_below k (new f) ≡ join_below k (old f)
  join_kept f = join_ext k (old f) (new f) (same f)

  module _ (h : k < length firsts) (i : k < length seconds) where
    put : {A : Type 0} (f : ℕ → ℕ → A) → new f k ≡ f a b
    put f = ap₂ f (get_or-set_same firsts k a 0 h) (get_or-set_same seconds k b 0 i)

    pub all_put : (p : ℕ → ℕ → Bool) → all_below (k + 1) (new p) ≡ (all_below k (old p) && p a b)
    all_put p = below_next (new p) k ∙ ap₂ ◌&&◌ (all_kept p) (put p)

    pub join_put : (f : ℕ → ℕ → List ℕ) → join_below (k + 1) (new f) ≡ join_below k (old f) ++ f a b
    join_put f = join_more (new f) k ∙ ap₂ ◌++◌ (join_kept f) (put f)
