-- The walk that marks a chain: its invariant, over any table of cells and any marks.
use mathlib.Core.Path.{◌≡◌, refl, sym, ap, ◌∙◌}
use mathlib.Core.Logic.{◌≢◌, ◌⊎◌, inl, inr, ⊎_elim}
use mathlib.Core.Bool.{Bool, true, false, ◌||◌, or-true, or-false}
use mathlib.Core.List.{List, ◌∷◌}
use Prim.Native.Nat.{ℕ, zero, suc, ◌+◌, ◌-◌, ◌≤◌, ◌<◌}
use native.Mathlib.Omega.{arith}
use lib.Dec.{eqb, ltb}
use borrow.Author.Tests.{lt-ltb, le-ltb, ltb-true, eq-eqb, ne_eqb}
use Rattle.format.specs.Basics.Lists.{all, count, member}
use Rattle.format.specs.Layout.Chain.{END, chain, units}
use Rattle.theory.specs.Marks.{unmarked, Closes, Closed, ChainMarked}
use Rattle.theory.proofs.Counts.{eqb_cases}
use Rattle.theory.proofs.Chains.{chain_unique}

-- ---- chains, one step at a time

module _ (cell : ℕ → ℕ) (limit : ℕ) where
  pub chain_end : (s : ℕ) → chain cell limit 0 s ≡ eqb s END
  unfolding chain
  chain_end s = refl

  pub chain_step : (k s : ℕ) → s < limit → chain cell limit (suc k) s ≡ chain cell limit k (cell s)
  unfolding chain
  chain_step k s h = rw (lt-ltb s limit h)

  pub chain_out : (k s : ℕ) → 0 < k → limit ≤ s → chain cell limit k s ≡ false
  unfolding chain
  chain_out zero s p h = absurd (omega arith)
  chain_out (suc k) s p h = rw (le-ltb s limit h)

pub member_cons : (u s : ℕ) (us : List ℕ) → member u (s ∷ us) ≡ (eqb u s || member u us)
unfolding member
member_cons u s us =
    ⊎_elim
    (λ e. rw e.1 (lt-ltb 0 (1 + count u us) (omega arith)))
    (λ e. let z : 0 + count u us ≡ count u us = omega arith in rw (e.1, z))
    (eqb_cases u s)

is_unmarked : (m : ℕ → ℕ) (u : ℕ) → m u ≡ 0 → unmarked m u ≡ true
unfolding unmarked
is_unmarked m u e = eq-eqb (m u) 0 e

is_marked : (m : ℕ → ℕ) (u : ℕ) → 0 < m u → unmarked m u ≡ false
unfolding unmarked
is_marked m u h = ne_eqb (m u) 0 (omega arith)

-- ---- closed marks

-- nothing is marked where all marks are 0
pub closed_none : {cell : ℕ → ℕ} {limit : ℕ} {m : ℕ → ℕ} → ((u : ℕ) → u < limit → m u ≡ 0) → Closed cell limit m
closed_none z = record { at = λ u l h. absurd (omega (arith, z u l)) }

module _ {cell : ℕ → ℕ} {limit : ℕ} {m : ℕ → ℕ} where
  -- a mark is the length of the chain from there
  pub closed_chain : Closed cell limit m → (r u : ℕ) → u < limit → m u ≡ suc r → chain cell limit (suc r) u ≡ true
  closed_chain c zero u l e =
      chain_step cell limit 0 u l
      ∙ ⊎_elim (λ a. chain_end cell limit (cell u) ∙ eq-eqb (cell u) END a.1) (λ a. absurd (omega arith)) (c.at u l (omega arith))
  closed_chain c (suc r) u l e =
      chain_step cell limit (suc r) u l
      ∙ ⊎_elim (λ a. absurd (omega arith)) (λ a. closed_chain c r (cell u) a.0 (omega arith)) (c.at u l (omega arith))

  -- and the units of that chain are marked
  pub closed_units : Closed cell limit m → (r u : ℕ) → u < limit → m u ≡ suc r → (v : ℕ) → member v (units cell (suc r) u) ≡ true → ltb 0 (m v) ≡ true
  unfolding units member
  closed_units c zero u l e v h =
      ⊎_elim
      (λ a. rw a.0 (lt-ltb 0 (m u) (omega arith)))
      (λ a. absurd (omega (arith, ltb-true 0 0 (rw (member_cons, a.1) at h))))
      (eqb_cases v u)
  closed_units c (suc r) u l e v h =
      ⊎_elim
      (λ a. rw a.0 (lt-ltb 0 (m u) (omega arith)))
      (λ a.
      ⊎_elim
      (λ b. absurd (omega arith))
      (λ b. closed_units c r (cell u) b.0 (omega arith) v (rw (member_cons, a.1) at h))
      (c.at u l (omega arith)))
      (eqb_cases v u)

-- ---- the walk

-- A walk over a chain of n from s₀ with k units to go: it is at s, and the marks m₀ have become m.
pub record Marking (cell : ℕ → ℕ) (limit n s₀ : ℕ) (m₀ : ℕ → ℕ) (k s : ℕ) (m : ℕ → ℕ) : Type 0 where
  -- what is asked is what is left
  pub left : chain cell limit n s₀ ≡ chain cell limit k s
  -- each mark agrees with what its cell names, or names what comes next
  pub edge : (u : ℕ) → u < limit → 0 < m u → Closes cell limit m u ⊎ ((cell u ≡ s) × (m u ≡ suc k))
  -- each mark is an old one, or one of this walk, which is greater than what is left
  pub seen : (u : ℕ) → u < limit → (m u ≡ m₀ u) ⊎ ((m₀ u ≡ 0) × (k < m u) × (chain cell limit (m u) u ≡ chain cell limit k s))
  pub marked : (u : ℕ) → (ltb 0 (m₀ u) || member u (units cell n s₀)) ≡ (ltb 0 (m u) || member u (units cell k s))
  pub fresh : all (unmarked m₀) (units cell n s₀) ≡ all (unmarked m₀) (units cell k s)

module _ {cell : ℕ → ℕ} {limit n s₀ : ℕ} {m₀ : ℕ → ℕ} where
  pub marking_start : Closed cell limit m₀ → Marking cell limit n s₀ m₀ n s₀ m₀
  marking_start c = record { left = refl; edge = λ u l h. inl (c.at u l h); seen = λ u l. inl refl; marked = λ u. refl; fresh = refl }

  -- one unit marked with how many are left from there
  pub marking_step : {k s : ℕ} {m : ℕ → ℕ} (m' : ℕ → ℕ) → Marking cell limit n s₀ m₀ k s m → 0 < k → s < limit → m s ≡ 0
      → m' s ≡ k → ((u : ℕ) → u ≢ s → m' u ≡ m u) → Marking cell limit n s₀ m₀ (k - 1) (cell s) m'
  unfolding units all
  marking_step {k = zero} m' w p l z a b = absurd (omega arith)
  marking_step {k = suc k} {s} {m} m' w p l z a b =
      let e : suc k - 1 ≡ k = omega arith in
      rw e record {
        left = w.left ∙ next;
        edge = λ u l' h.
            ⊎_elim
            (λ d. inr (ap cell d.0, ap m' d.0 ∙ a))
            (λ d.
            ⊎_elim
            (λ c.
            ⊎_elim
            (λ x. inl (inl (b u d.0 ∙ x.0, x.1)))
            (λ x. let o = b (cell u) (λ y. absurd (omega (arith, ap m y))) in inl (inr (x.0, omega (arith, b u d.0), omega arith)))
            c)
            (λ c. let o = ap m' c.0 in inl (inr (omega arith, omega (arith, b u d.0), omega arith)))
            (w.edge u l' (omega (arith, b u d.0))))
            (eqb_cases u s);
        seen = λ u l'.
            ⊎_elim
            (λ d. inr (ap m₀ d.0 ∙ old, omega (arith, ap m' d.0), rw (d.0, a) next))
            (λ d.
            ⊎_elim
            (λ c. inl (b u d.0 ∙ c))
            (λ c. inr (c.0, omega (arith, b u d.0), rw (b u d.0) (c.2 ∙ next)))
            (w.seen u l'))
            (eqb_cases u s);
        marked = λ u.
            w.marked u
            ∙ ⊎_elim
            (λ d. rw (member_cons, d.1, d.0, or-true, lt-ltb 0 (m' s) (omega arith)))
            (λ d. rw (member_cons, d.1, b u d.0))
            (eqb_cases u s);
        fresh = w.fresh ∙ rw (is_unmarked m₀ s old);
      }
    where
      next : chain cell limit (suc k) s ≡ chain cell limit k (cell s)
      next = chain_step cell limit k s l

      old : m₀ s ≡ 0
      old = ⊎_elim (λ c. sym c ∙ z) (λ c. c.0) (w.seen s l)

  -- ---- the ways out: after the last unit

  pub marking_end : {k s : ℕ} {m : ℕ → ℕ} → Marking cell limit n s₀ m₀ k s m → k ≡ 0 → chain cell limit n s₀ ≡ eqb s END
  marking_end {k} {s} w z = w.left ∙ rw z (chain_end cell limit s)

  pub marking_fresh : {k s : ℕ} {m : ℕ → ℕ} → Marking cell limit n s₀ m₀ k s m → k ≡ 0 → all (unmarked m₀) (units cell n s₀) ≡ true
  unfolding units all
  marking_fresh {k} {s} w z = w.fresh ∙ rw z

  pub marking_done : {k s : ℕ} {m : ℕ → ℕ} → Marking cell limit n s₀ m₀ k s m → k ≡ 0 → s ≡ END → ChainMarked cell limit n s₀ m₀ m
  unfolding units member
  marking_done {k} {s} {m} w z e =
      record {
        closed = record { at = λ u l h. ⊎_elim (λ c. c) (λ c. inl (omega arith, c.0 ∙ e)) (w.edge u l h) };
        marked = λ u l. sym (w.marked u ∙ rw z (or-false (ltb 0 (m u))));
      }

  -- ---- before it: no unit; a mark that says what is left; a mark that says something else

  pub marking_out : {k s : ℕ} {m : ℕ → ℕ} → Marking cell limit n s₀ m₀ k s m → 0 < k → limit ≤ s → chain cell limit n s₀ ≡ false
  marking_out {k} {s} w p h = w.left ∙ chain_out cell limit k s p h

  -- the chain is right, and has a unit of an older one
  pub marking_met : {k s : ℕ} {m : ℕ → ℕ} → Marking cell limit n s₀ m₀ k s m → 0 < k → s < limit → m s ≡ k
      → (chain cell limit n s₀ ≡ true) × (all (unmarked m₀) (units cell n s₀) ≡ false) × ChainMarked cell limit n s₀ m₀ m
  unfolding units all
  marking_met {k = zero} w p l e = absurd (omega arith)
  marking_met {k = suc k} {s} {m} w p l e =
      let c : Closed cell limit m = record { at = λ u l' h. ⊎_elim (λ x. x) (λ x. let o = ap m x.0 in inr (omega (arith, x.0), omega arith, omega arith)) (w.edge u l' h) } in
      let old : m₀ s ≡ suc k = ⊎_elim (λ x. sym x ∙ e) (λ x. absurd (omega arith)) (w.seen s l) in (
        w.left ∙ closed_chain c k s l e,
        w.fresh ∙ rw (is_marked m₀ s (omega arith)),
        record {
          closed = c;
          marked = λ u l'. sym (w.marked u ∙ absorb (ltb 0 (m u)) (member u (units cell (suc k) s)) (closed_units c k s l e u));
        },
      )
    where
      absorb : (a b : Bool) → (b ≡ true → a ≡ true) → (a || b) ≡ a
      absorb true b h = refl
      absorb false true h = sym (h refl)
      absorb false false h = refl

  pub marking_clash : {k s : ℕ} {m : ℕ → ℕ} → limit ≤ END → Closed cell limit m₀ → Marking cell limit n s₀ m₀ k s m → s < limit → 0 < m s → m s ≢ k
      → chain cell limit n s₀ ≡ false
  marking_clash {k} {s} {m} b c w l p d = w.left ∙ go (chain cell limit k s) refl
    where
      go : (t : Bool) → chain cell limit k s ≡ t → t ≡ false
      go false e = refl
      go true e =
          ⊎_elim
          (λ x. let q : suc (m₀ s - 1) ≡ m₀ s = omega arith in absurd (d (chain_unique cell limit b (m s) k s (rw x (rw q at (closed_chain c (m₀ s - 1) s l (omega arith)))) e)))
          (λ x. absurd (d (chain_unique cell limit b (m s) k s (x.2 ∙ e) e)))
          (w.seen s l)
