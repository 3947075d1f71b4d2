-- The blank entries: an edit that fills or blanks one makes one fewer or one more; and the lowest.
use mathlib.Core.Path.{◌≡◌, ap}
use mathlib.Core.Logic.{◌≢◌, inl, inr}
use mathlib.Core.Bool.{Bool, true, false}
use Prim.Native.Nat.{ℕ, ◌+◌, ◌<◌}
use native.Mathlib.Omega.{arith}
use native.Mathlib.Decide.{dec_lt}
use lib.Dec.{eqb}
use lib.ListN.{length, get_or}
use Rattle.format.specs.Basics.Lists.{bit, pick_below}
use Rattle.format.specs.Layout.Entry.{is_blank}
use Rattle.format.specs.Layout.Directory.{Directory, blanks, blank_at}
use Rattle.format.specs.Calls.Create.{lowest_blank}
use Rattle.theory.proofs.Counts.{eqb_cases, bit_self, bit_true, count_at, sum_ext, sum_add, sum_hit}
use Rattle.theory.proofs.Picks.{length_pick, pick_above, pick_below_lem}

-- q picks what p picks, but for x
pub one_fewer : (p q : ℕ → Bool) (x n : ℕ) → x < n → p x ≡ true → q x ≡ false → ((y : ℕ) → y ≢ x → q y ≡ p y)
    → length (pick_below n p) ≡ 1 + length (pick_below n q)
one_fewer p q x n h hp hq other =
    omega (
      arith,
      length_pick p n,
      length_pick q n,
      sum_ext (λ s. bit (p s)) (λ s. bit (eqb s x) + bit (q s)) n (λ s i. each s),
      sum_add (λ s. bit (eqb s x)) (λ s. bit (q s)) n,
      sum_hit x n h,
    )
  where
    each : (s : ℕ) → bit (p s) ≡ bit (eqb s x) + bit (q s)
    each s =
        elim (eqb_cases s x) [
          | inl e ↦ rw (e.0, hp, hq) (omega (arith, bit_self x))
          | inr e ↦ omega (arith, ap bit e.1, ap bit (other s e.0))
        ]

-- the lowest one, where there is one
pub lowest_blank_lem : (d : Directory) → 0 < length (blanks d) → (lowest_blank d < d.count) × (is_blank (d.entry (lowest_blank d)) ≡ true)
unfolding lowest_blank blanks blank_at
lowest_blank_lem d h =
    let l = pick_below d.count (blank_at d) in
    let x = get_or l 0 0 in
    let c = count_at l 0 0 h in
    elim (dec_lt x d.count) [
      | yes k ↦ (k, bit_true (blank_at d x) (omega (arith, c, pick_below_lem (blank_at d) x d.count k)))
      | no k ↦ absurd (omega (arith, c, pick_above (blank_at d) x d.count (omega arith)))
    ]
