-- Numbers one after the other: how often each stands there, as lists by number, end to end, and as chains.
use Prim.Native.Nat.{ℕ, zero, suc, ◌+◌, ◌≤◌, ◌<◌}
use mathlib.Core.Path.{◌≡◌, refl, ap, ◌∙◌}
use mathlib.Core.Logic.{inl, inr}
use mathlib.Core.Bool.{Bool, true, not}
use mathlib.Core.List.{List, ◌∷◌, ◌++◌}
use native.Mathlib.Nat.{add-zero, zero-add, add-suc, suc-add}
use native.Mathlib.Omega.{arith}
use lib.Dec.{ltb}
use lib.ListN.{length, get_or}
use borrow.Author.Tests.{eq-eqb, ne_eqb, le-ltb}
use Rattle.format.specs.Basics.Lists.{bit, count, list_below, all, member, distinct}
use Rattle.format.specs.Layout.Chain.{start_of}
use Rattle.theory.specs.Links.{Linked}
use Rattle.theory.proofs.Counts.{eqb_cases}
use Rattle.theory.proofs.Tests.{and_true_of}
use Rattle.format.specs.Fresh.Plan.{start_from}
use Rattle.format.specs.Fresh.Cells.{link_in}
use Rattle.fresh.specs.Run.{run}

pub length_run : (s n : ℕ) → length (run s n) ≡ n
length_run s zero = refl
length_run s (suc n) = ap suc (length_run (suc s) n)

pub run_append : (s n m : ℕ) → run s n ++ run (s + n) m ≡ run s (n + m)
run_append s zero m = rw (add-zero, zero-add)
run_append s (suc n) m = rw (suc-add, add-suc, ← suc-add) (ap (λ (t : List ℕ). s ∷ t) (run_append (suc s) n m))

pub run_below : (s n : ℕ) → list_below n (λ i. s + i) ≡ run s n
unfolding list_below
run_below s zero = refl
run_below s (suc n) =
    let a : n + 1 ≡ suc n = omega arith in
    rw (run_below s n) (run_append s n 1 ∙ ap (run s) a)

pub run_at : (s n i : ℕ) → i < n → get_or (run s n) i 0 ≡ s + i
run_at s zero i h = absurd (omega arith)
run_at s (suc n) zero h = omega arith
run_at s (suc n) (suc i) h = run_at (suc s) n i (omega arith) ∙ omega arith

-- ---- how often a number stands there

pub run_none : (s n u : ℕ) → u < s → count u (run s n) ≡ 0
run_none s zero u h = refl
run_none s (suc n) u h = omega (arith, run_none (suc s) n u (omega arith), ap bit (ne_eqb u s (omega arith)))

pub run_once : (s n u : ℕ) → s ≤ u → u < s + n → count u (run s n) ≡ 1
run_once s zero u h k = absurd (omega arith)
run_once s (suc n) u h k =
    elim (eqb_cases u s) [
      | inl e ↦ omega (arith, run_none (suc s) n u (omega arith), ap bit e.1)
      | inr e ↦ omega (arith, run_once (suc s) n u (omega arith) (omega arith), ap bit e.1)
    ]

pub run_past : (s n u : ℕ) → s + n ≤ u → count u (run s n) ≡ 0
run_past s zero u h = refl
run_past s (suc n) u h = omega (arith, run_past (suc s) n u (omega arith), ap bit (ne_eqb u s (omega arith)))

-- ---- tests

pub run_all : (q : ℕ → Bool) (s n : ℕ) → ((u : ℕ) → s ≤ u → u < s + n → q u ≡ true) → all q (run s n) ≡ true
unfolding all
run_all q s zero h = refl
run_all q s (suc n) h =
    and_true_of (q s) (all q (run (suc s) n)) (h s (omega arith) (omega arith)) (run_all q (suc s) n (λ u a b. h u (omega arith) (omega arith)))

pub run_distinct : (s n : ℕ) → distinct (run s n) ≡ true
unfolding distinct member
run_distinct s zero = refl
run_distinct s (suc n) =
    and_true_of (not (ltb 0 (count s (run (suc s) n)))) (distinct (run (suc s) n))
    (ap (λ (c : ℕ). not (ltb 0 c)) (run_none (suc s) n s (omega arith)) ∙ ap not (le-ltb 0 0 (omega arith)))
    (run_distinct (suc s) n)

-- ---- chains

pub start_run : (s n : ℕ) → start_of (run s n) ≡ start_from s n
unfolding start_from
start_run s zero = refl
start_run s (suc n) = refl

link_start : (s n : ℕ) → link_in (suc s + n) s ≡ start_of (run (suc s) n)
unfolding link_in
link_start s zero = rw (eq-eqb (suc s) (suc s + 0) (omega arith))
link_start s (suc n) = rw (ne_eqb (suc s) (suc s + suc n) (omega arith))

pub run_linked : (f : ℕ → ℕ) (N s n : ℕ) → s + n ≤ N → ((u : ℕ) → s ≤ u → u < s + n → f u ≡ link_in (s + n) u) → Linked f N (run s n)
run_linked f N s zero h k = tt
run_linked f N s (suc n) h k =
    let e : s + suc n ≡ suc s + n = omega arith in (
      omega arith,
      k s (omega arith) (omega arith) ∙ rw e (link_start s n),
      run_linked f N (suc s) n (omega arith) (λ u a b. rw e at (k u (omega arith) (omega arith))),
    )
