-- Chains: one start has one chain; its units are below the limit, all different and not free. The limit lies below the special values.
use mathlib.Core.Path.{◌≡◌, refl, sym, ap, ap₂, ◌∙◌}
use mathlib.Core.Logic.{◌≢◌, inl, inr}
use mathlib.Core.Bool.{Bool, true, false, cond}
use mathlib.Core.List.{List, [], ◌∷◌}
use Prim.Native.Nat.{ℕ, zero, suc, ◌-◌, ◌≤◌, ◌<◌}
use native.Mathlib.Omega.{arith}
use native.Mathlib.Decide.{dec_lt}
use lib.Dec.{ltb}
use lib.ListN.{length}
use borrow.Author.Tests.{eq-eqb, lt-ltb, le-ltb, ltb-true, eqb-true}
use Rattle.format.specs.Basics.Lists.{bit, count}
use Rattle.format.specs.Layout.Chain.{END, FREE, chain, units, follow, start_of}
use Rattle.theory.specs.Links.{Linked}
use Rattle.theory.proofs.Counts.{eqb_cases, bit_self, pigeonhole}
use Rattle.theory.proofs.Tests.{both, and_true_of}

-- ---- the test, and the list of units

pub length_units : (f : ℕ → ℕ) (n s : ℕ) → length (units f n s) ≡ n
unfolding units
length_units f zero s = refl
length_units f (suc n) s = ap suc (length_units f n (f s))

pub chain_linked : (f : ℕ → ℕ) (N n s : ℕ) → chain f N n s ≡ true → Linked f N (units f n s) × (start_of (units f n s) ≡ s)
unfolding units chain
chain_linked f N zero s t = (tt, sym (eqb-true s END t))
chain_linked f N (suc n) s t =
    let q = both (ltb s N) (chain f N n (f s)) t in
    let r = chain_linked f N n (f s) q.1 in
    ((ltb-true s N q.0, sym r.1, r.0), refl)

pub linked_chain : (f : ℕ → ℕ) (N n s : ℕ) (us : List ℕ) → Linked f N us → length us ≡ n → start_of us ≡ s → (chain f N n s ≡ true) × (units f n s ≡ us)
unfolding chain units
linked_chain f N n s us l e h = rw (← e, ← h) (go us l)
  where
    go : (us : List ℕ) → Linked f N us → (chain f N (length us) (start_of us) ≡ true) × (units f (length us) (start_of us) ≡ us)
    go [] l = (eq-eqb END END refl, refl)
    go (u ∷ us) l =
        let r = go us l.2 in
        (and_true_of (ltb u N) (chain f N (length us) (f u)) (lt-ltb u N l.0) (rw l.1 r.0), rw (l.1, r.1))

-- ---- one step along a chain

chain_suc : (f : ℕ → ℕ) (N m s : ℕ) → chain f N (suc m) s ≡ true → (s < N) × (chain f N m (f s) ≡ true)
unfolding chain
chain_suc f N m s t = let q = both (ltb s N) (chain f N m (f s)) t in (ltb-true s N q.0, q.1)

units_suc : (f : ℕ → ℕ) (m s : ℕ) → units f (suc m) s ≡ (s ∷ units f m (f s))
unfolding units
units_suc f m s = refl

module _ (f : ℕ → ℕ) (n s : ℕ) (h : 0 < n) where
  one_less : n ≡ suc (n - 1)
  one_less = omega arith

  pub chain_next : (N : ℕ) → chain f N n s ≡ true → (s < N) × (chain f N (n - 1) (f s) ≡ true)
  chain_next N t = chain_suc f N (n - 1) s (ap (λ k. chain f N k s) (sym one_less) ∙ t)

  pub units_next : units f n s ≡ (s ∷ units f (n - 1) (f s))
  units_next = ap (λ k. units f k s) one_less ∙ units_suc f (n - 1) s

-- ---- the units of a chain

-- a chain by its table's cells at its units alone
pub linked_agree : (f g : ℕ → ℕ) (N : ℕ) (us : List ℕ) → ((s : ℕ) → 0 < count s us → g s ≡ f s) → Linked f N us → Linked g N us
linked_agree f g N [] e h = tt
linked_agree f g N (u ∷ us) e h =
    (h.0, e u (omega (arith, bit_self u)) ∙ h.1, linked_agree f g N us (λ s q. e s (omega arith)) h.2)

pub linked_below : (f : ℕ → ℕ) (N : ℕ) (us : List ℕ) → Linked f N us → (s : ℕ) → 0 < count s us → s < N
linked_below f N [] h s q = omega arith
linked_below f N (u ∷ us) h s q =
    elim (eqb_cases s u) [
      | inl e ↦ omega arith
      | inr e ↦ linked_below f N us h.2 s (omega (arith, ap bit e.1))
    ]

module _ (f : ℕ → ℕ) (N : ℕ) (lim : N ≤ END) where
  -- a head is an end, or below N
  head_cases : (us : List ℕ) → Linked f N us → start_of us ≢ FREE
  head_cases [] h = omega arith
  head_cases (u ∷ us) h = omega arith

  pub linked_not_free : (us : List ℕ) → Linked f N us → (s : ℕ) → 0 < count s us → f s ≢ FREE
  linked_not_free [] h s q = omega arith
  linked_not_free (u ∷ us) h s q =
      elim (eqb_cases s u) [
        | inl e ↦ let r = head_cases us h.2 in λ z. r (sym h.1 ∙ ap f (sym e.0) ∙ z)
        | inr e ↦ linked_not_free us h.2 s (omega (arith, ap bit e.1))
      ]

  -- one start, one chain
  pub linked_unique : (us vs : List ℕ) → Linked f N us → Linked f N vs → start_of us ≡ start_of vs → us ≡ vs
  linked_unique [] [] h k e = refl
  linked_unique [] (v ∷ vs) h k e = absurd (omega arith)
  linked_unique (u ∷ us) [] h k e = absurd (omega arith)
  linked_unique (u ∷ us) (v ∷ vs) h k e = ap₂ ◌∷◌ e (linked_unique us vs h.2 k.2 (sym h.1 ∙ ap f e ∙ k.1))

  pub chain_unique : (n m s : ℕ) → chain f N n s ≡ true → chain f N m s ≡ true → n ≡ m
  chain_unique n m s p q =
      let a = chain_linked f N n s p in
      let b = chain_linked f N m s q in
      sym (length_units f n s) ∙ ap length (linked_unique (units f n s) (units f m s) a.0 b.0 (a.1 ∙ sym b.1)) ∙ length_units f m s

  -- from a unit on, a chain is a chain
  tail_at : (us : List ℕ) → Linked f N us → (s : ℕ) → 0 < count s us → (vs : List ℕ) × Linked f N vs × (start_of vs ≡ s) × (length vs ≤ length us)
  tail_at [] h s q = absurd (omega arith)
  tail_at (u ∷ us) h s q =
      elim (eqb_cases s u) [
        | inl e ↦ (u ∷ us, h, sym e.0, omega arith)
        | inr e ↦ let r = tail_at us h.2 s (omega (arith, ap bit e.1)) in (r.0, r.1, r.2, omega arith)
      ]

  -- no unit stands in a chain twice
  pub linked_once : (us : List ℕ) → Linked f N us → (s : ℕ) → count s us ≤ 1
  linked_once [] h s = omega arith
  linked_once (u ∷ us) h s =
      let r = linked_once us h.2 s in
      elim (eqb_cases s u) [
        | inl e ↦
            elim (dec_lt 0 (count s us)) [
              | yes p ↦
                  let t = tail_at us h.2 s p in
                  let z = ap length (linked_unique t.0 (u ∷ us) t.1 h (t.2 ∙ e.0)) in
                  omega arith
              | no q ↦ omega (arith, ap bit e.1)
            ]
        | inr e ↦ omega (arith, ap bit e.1)
      ]

  pub linked_short : (us : List ℕ) → Linked f N us → length us ≤ N
  linked_short us h = pigeonhole us N (linked_below f N us h) (linked_once us h)

  pub chain_short : (n s : ℕ) → chain f N n s ≡ true → n ≤ N
  chain_short n s h = omega (arith, linked_short (units f n s) (chain_linked f N n s h).0, length_units f n s)

-- ---- following a chain whose length is not known: the limit is fuel enough

follow_chain : (f : ℕ → ℕ) (N n m s : ℕ) → N ≤ END → n ≤ m → chain f N n s ≡ true → follow f N m s ≡ units f n s
unfolding follow units chain
follow_chain f N zero zero s lim h t = refl
follow_chain f N zero (suc m) s lim h t = let e = eqb-true s END t in rw (le-ltb s N (omega arith))
follow_chain f N (suc n) zero s lim h t = absurd (omega arith)
follow_chain f N (suc n) (suc m) s lim h t =
    let q = both (ltb s N) (chain f N n (f s)) t in
    rw q.0 (ap (λ (x : List ℕ). s ∷ x) (follow_chain f N n m (f s) lim (omega arith) q.1))

-- what is followed is the chain, whatever its length
pub follow_is : (f : ℕ → ℕ) (N n s : ℕ) → N ≤ END → chain f N n s ≡ true → follow f N N s ≡ units f n s
follow_is f N n s lim t =
    let l = linked_short f N lim (units f n s) (chain_linked f N n s t).0 in
    follow_chain f N n N s lim (omega (arith, length_units f n s)) t

pub follow_units : (f : ℕ → ℕ) (N n s : ℕ) → units f (length (follow f N n s)) s ≡ follow f N n s
unfolding follow units
follow_units f N zero s = refl
follow_units f N (suc n) s = go (ltb s N) (follow_units f N n (f s))
  where
    go : (b : Bool) → units f (length (follow f N n (f s))) (f s) ≡ follow f N n (f s) → units f (length (cond b (s ∷ follow f N n (f s)) [])) s ≡ cond b (s ∷ follow f N n (f s)) []
    go true h = ap (λ r. s ∷ r) h
    go false h = refl

pub units_agree : (f h : ℕ → ℕ) (n s : ℕ) → ((x : ℕ) → 0 < count x (units f n s) → h x ≡ f x) → units h n s ≡ units f n s
unfolding units
units_agree f h zero s e = refl
units_agree f h (suc n) s e =
    let q = bit_self s in
    rw (e s (omega arith)) (ap (λ (x : List ℕ). s ∷ x) (units_agree f h n (f s) (λ x p. e x (omega arith))))

first_counts : (s : ℕ) (xs : List ℕ) → 0 < count s (s ∷ xs)
first_counts s xs = let q = bit_self s in omega arith

more_counts : (x s : ℕ) (xs : List ℕ) → 0 < count x xs → 0 < count x (s ∷ xs)
more_counts x s xs h = omega arith

pub follow_agree : (f h : ℕ → ℕ) (N n s : ℕ) → ((x : ℕ) → 0 < count x (follow f N n s) → h x ≡ f x) → follow h N n s ≡ follow f N n s
unfolding follow
follow_agree f h N zero s e = refl
follow_agree f h N (suc n) s e = go (ltb s N) e (λ k. follow_agree f h N n (f s) k)
  where
    go : (b : Bool) → ((x : ℕ) → 0 < count x (cond b (s ∷ follow f N n (f s)) []) → h x ≡ f x)
        → (((x : ℕ) → 0 < count x (follow f N n (f s)) → h x ≡ f x) → follow h N n (f s) ≡ follow f N n (f s))
        → cond b (s ∷ follow h N n (h s)) [] ≡ cond b (s ∷ follow f N n (f s)) []
    go true k r = rw (k s (first_counts s (follow f N n (f s)))) (ap (λ (x : List ℕ). s ∷ x) (r (λ x p. k x (more_counts x s (follow f N n (f s)) p))))
    go false k r = refl
