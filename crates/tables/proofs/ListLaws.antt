-- The walk that marks the sectors of a list.
use Prim.Native.Nat.{ℕ, ◌+◌, ◌≤◌, ◌<◌}
use mathlib.Core.Path.{◌≡◌, refl, sym, ◌∙◌, ap}
use mathlib.Core.Bool.{false}
use mathlib.Core.List.{List}
use mathlib.Core.Logic.{inl, inr, ⊎_elim}
use native.Mathlib.Decide.{ℕ_discrete}
use native.Mathlib.Omega.{arith}
use lib.Dec.{eqb}
use lib.ListN.{length, get_or, set}
use lib.Seq.{get_or-set_same, get_or-set_other}
use borrow.Author.Tests.{lt-ltb, eq-eqb}
use Rattle.format.specs.Basics.Lists.{bit}
use Rattle.theory.proofs.Counts.{bit_other}
use Rattle.tables.specs.Work.{Wrote}
use Rattle.tables.specs.Stages.{listed, times, ListMarked, ListLeft}
use Rattle.theory.proofs.Loops.{count_none, count_more, count_le}
use Rattle.tables.proofs.WorkLaws.{wrote_none, wrote_set}

times_none : (w : List ℕ) (at s : ℕ) → times w at 0 s ≡ 0
unfolding times
times_none w at s = count_none s (listed w at)

times_more : (w : List ℕ) (at k s : ℕ) → times w at (k + 1) s ≡ times w at k s + bit (eqb s (listed w at k))
unfolding times
times_more w at k s = count_more s k (listed w at)

times_le : (w : List ℕ) (at k n s : ℕ) → k ≤ n → times w at k s ≤ times w at n s
unfolding times
times_le w at k n s h = count_le s k n (listed w at) h

-- the first k are marked
pub record ListWalk (w₀ : List ℕ) (n at count v : ℕ) (w : List ℕ) (k : ℕ) : Type 0 where
  pub wrote : Wrote w₀ w 0 n
  pub marked : ListMarked w₀ w n at k v

module _ {w₀ : List ℕ} {n at count v : ℕ} where
  pub list_start : ListWalk w₀ n at count v w₀ 0
  list_start =
      record {
        wrote = wrote_none _ _ _;
        marked = record { below = λ k h. absurd (omega arith); marked = λ s l. inl (times_none w₀ at s, refl) };
      }

  module _ {w : List ℕ} {k : ℕ} (a : ListWalk w₀ n at count v w k) where
    pub list_at : n ≤ at → get_or w (at + k) 0 ≡ listed w₀ at k
    unfolding listed
    list_at h = a.wrote.outside (at + k) (inr (omega arith))

    pub list_step : (u : ℕ) → k < count → n ≤ length w₀ → 0 < v → u ≡ listed w₀ at k → u < n → get_or w u 0 ≤ 0 → ListWalk w₀ n at count v (set w u v) (k + 1)
    list_step u l r p e h z =
        record {
          wrote = wrote_set u v a.wrote (omega arith) (omega arith);
          marked =
              record {
                below = λ i q. elim (ℕ_discrete i k) [ yes d ↦ rw (d, ← e) h | no d ↦ a.marked.below i (omega arith) ];
                marked = λ s q.
                    let m = times_more w₀ at k s in
                    elim (ℕ_discrete s u) [
                      | yes d ↦
                          let same = get_or-set_same w u v 0 (omega (arith, a.wrote.long)) in
                          let b = ap bit (eq-eqb s (listed w₀ at k) (d ∙ e)) in
                          ⊎_elim
                          (λ c. inr (omega arith, rw d (omega (arith, rw d at c.1)), rw d same))
                          (λ c. absurd (omega (arith, rw d at c.2)))
                          (a.marked.marked s q)
                      | no d ↦
                          let other = get_or-set_other w u s v 0 d in
                          let b = bit_other s (listed w₀ at k) (λ y. d (y ∙ sym e)) in
                          ⊎_elim (λ c. inl (omega arith, other ∙ c.1)) (λ c. inr (omega arith, c.1, other ∙ c.2)) (a.marked.marked s q)
                    ];
              };
        }

    pub list_out : (u : ℕ) → k < count → u ≡ listed w₀ at k → n ≤ u → ListLeft w₀ w n at count v false
    list_out u l e h = record { wrote = a.wrote; answer = inl (k, l, rw (← e) h) }

    pub list_hit : (u : ℕ) → k < count → u ≡ listed w₀ at k → u < n → 0 < get_or w u 0 → ListLeft w₀ w n at count v false
    list_hit u l e h p =
        let m = times_more w₀ at k u in
        let t = times_le w₀ at (k + 1) count u (omega arith) in
        let b = ap bit (eq-eqb u (listed w₀ at k) e) in
        record {
          wrote = a.wrote;
          answer =
              inr (
                u,
                h,
                ⊎_elim
                    (λ c. let d = ap bit (lt-ltb 0 (get_or w₀ u 0) (omega arith)) in omega arith)
                    (λ c. omega arith)
                    (a.marked.marked u h),
              );
        }
