-- The free units: what a chain may take of them.
use mathlib.Core.Path.{◌≡◌, refl, sym, ◌∙◌}
use mathlib.Core.Logic.{◌⊎◌, inl, inr}
use mathlib.Core.Bool.{Bool, true, false}
use mathlib.Core.List.{List, ◌++◌}
use Prim.Native.Nat.{min, ℕ, ◌+◌, ◌≤◌, ◌<◌}
use native.Mathlib.Omega.{arith}
use native.Mathlib.Decide.{dec_lt}
use lib.Dec.{eqb}
use lib.ListN.{length-take, length, take, length-append}
use lib.Seq.{take-take, take-append-le}
use borrow.Author.Tests.{eqb-true}
use Rattle.format.specs.Basics.Lists.{bit, count}
use Rattle.format.specs.Layout.Chain.{END, FREE, is_free, free_below}
use Rattle.theory.specs.Links.{Linked}
use Rattle.theory.specs.Owned.{MayBecome}
use Rattle.theory.proofs.Counts.{count_append, count_split, pigeonhole}
use Rattle.theory.proofs.Picks.{pick_above, pick_below_lem}
use Rattle.theory.proofs.Chains.{linked_once, linked_below, linked_not_free}

bit_le : (b : Bool) → bit b ≤ 1
bit_le true = omega arith
bit_le false = omega arith

-- the free units are free, and a chain's own units and the free ones are all different
pub free_cell : (f : ℕ → ℕ) (N s : ℕ) → 0 < count s (free_below f N) → (s < N) × (f s ≡ FREE)
free_cell f N s q =
    elim (dec_lt s N) [
      | yes h ↦ (h, is_free_lem (is_free f s) refl (omega (arith, pick_below_lem (is_free f) s N h)))
      | no r ↦ absurd (omega (arith, pick_above (is_free f) s N (omega arith)))
    ]
  where
    is_free_lem : (b : Bool) → eqb (f s) FREE ≡ b → 0 < bit b → f s ≡ FREE
    is_free_lem true e p = eqb-true (f s) FREE e
    is_free_lem false e p = absurd (omega arith)

pub free_once : (f : ℕ → ℕ) (N s : ℕ) → count s (free_below f N) ≤ 1
free_once f N s =
    elim (dec_lt s N) [
      | yes h ↦ omega (arith, pick_below_lem (is_free f) s N h, bit_le (is_free f s))
      | no r ↦ omega (arith, pick_above (is_free f) s N (omega arith))
    ]

module _ (f : ℕ → ℕ) (N : ℕ) (lim : N ≤ END) (us : List ℕ) (h : Linked f N us) where
  pub pool_once : (s : ℕ) → count s us + count s (free_below f N) ≤ 1
  pool_once s =
      let b = linked_once f N lim us h s in
      let c = free_once f N s in
      elim (dec_lt 0 (count s (free_below f N))) [
        | yes p ↦ elim (dec_lt 0 (count s us)) [ yes k ↦ absurd (linked_not_free f N lim us h s k (free_cell f N s p).1) | no q ↦ omega arith ]
        | no q ↦ omega arith
      ]

  -- what a chain that is to have m units becomes: the first m of its own and of the free ones
  pub resized_once : (m s : ℕ) → count s (take m (us ++ free_below f N)) ≤ 1
  resized_once m s = omega (arith, count_append s us (free_below f N), count_split s m (us ++ free_below f N), pool_once s)

  pub resized_from : (m s : ℕ) → 0 < count s (take m (us ++ free_below f N)) → (s < N) × ((0 < count s us) ⊎ (f s ≡ FREE))
  resized_from m s q =
      let a = count_append s us (free_below f N) in
      let b = count_split s m (us ++ free_below f N) in
      elim (dec_lt 0 (count s us)) [
        | yes p ↦ (linked_below f N us h s p, inl p)
        | no r ↦ let c = free_cell f N s (omega arith) in (c.0, inr c.1)
      ]

  pub resized_becomes : (m : ℕ) → MayBecome N f us (take m (us ++ free_below f N))
  resized_becomes m = record { diff = resized_once m; from = resized_from m }

  pub same_becomes : MayBecome N f us us
  same_becomes = record { diff = linked_once f N lim us h; from = λ s q. (linked_below f N us h s q, inl q) }

-- what a chain becomes begins as the chain does
pub resized_front : (m : ℕ) (us fr : List ℕ) → let ws = take m (us ++ fr) in take (min (length us) (length ws)) us ≡ take (min (length us) (length ws)) ws
resized_front m us fr =
    let k = min (length us) (length (take m (us ++ fr))) in
    let l = length-take m (us ++ fr) in
    let n : min (length us) (length (take m (us ++ fr))) ≤ m = omega arith in
    sym (take-take k m (us ++ fr) n ∙ take-append-le k us fr (omega arith))

-- own and free units together are at most the limit
pub pool_short : (f : ℕ → ℕ) (N : ℕ) → N ≤ END → (us : List ℕ) → Linked f N us → length us + length (free_below f N) ≤ N
pool_short f N lim us h =
    let fr = free_below f N in
    let a = length-append us fr in
    let b =
    pigeonhole (us ++ fr) N
    (λ s q. elim (dec_lt 0 (count s us)) [ yes p ↦ linked_below f N us h s p | no p ↦ (free_cell f N s (omega (arith, q, count_append s us fr))).0 ])
    (λ s. omega (arith, count_append s us fr, pool_once f N lim us h s)) in
    omega arith
