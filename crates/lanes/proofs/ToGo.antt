-- The lanes that are still to go, one at a time: whether they are right, how often they meet a unit, and in what order they stand.
use Prim.Native.Nat.{ℕ, zero, suc, ◌+◌, ◌-◌, ◌≤◌, ◌<◌}
use mathlib.Core.Path.{◌≡◌, refl, sym, ap, ◌∙◌}
use mathlib.Core.Logic.{◌⊎◌, inl, inr, ⊎_elim}
use mathlib.Core.Bool.{Bool, true, false, ◌&&◌}
use mathlib.Core.List.{List, [], ◌∷◌, ◌++◌}
use native.Mathlib.Omega.{arith}
use lib.Dec.{ltb, eqb}
use borrow.Author.Tests.{lt-ltb, le-ltb}
use Rattle.format.specs.Basics.Lists.{bit, count}
use Rattle.format.specs.Layout.Chain.{chain, units}
use Rattle.theory.proofs.Tests.{both}
use Rattle.lanes.specs.Lanes.{Lane, rights, sums, Meets}

-- ---- definitions, one step at a time

module _ (cell : ℕ → ℕ) where
  pub rights_cons : (limit : ℕ) (a : Lane) (ls : List Lane) → rights cell limit (a ∷ ls) ≡ (chain cell limit a.left a.here && rights cell limit ls)
  unfolding rights
  rights_cons limit a ls = refl

  pub sums_cons : (a : Lane) (ls : List Lane) (u : ℕ) → sums cell (a ∷ ls) u ≡ count u (units cell a.left a.here) + sums cell ls u
  unfolding sums
  sums_cons a ls u = refl

  pub count_step : (k s u : ℕ) → 0 < k → count u (units cell k s) ≡ bit (eqb u s) + count u (units cell (k - 1) (cell s))
  unfolding units
  count_step zero s u p = absurd (omega arith)
  count_step (suc k) s u p = let e : suc k - 1 ≡ k = omega arith in rw e

pub meets_cons : (c v : ℕ) (a : Lane) (ls : List Lane) → Meets c v (a ∷ ls) → ((c ≡ a.here) × (v ≡ suc a.left)) ⊎ Meets c v ls
unfolding Meets
meets_cons c v a ls h = h

pub meets_head : (c v : ℕ) (a : Lane) (ls : List Lane) → c ≡ a.here → v ≡ suc a.left → Meets c v (a ∷ ls)
unfolding Meets
meets_head c v a ls h e = inl (h, e)

pub meets_tail : (c v : ℕ) (a : Lane) (ls : List Lane) → Meets c v ls → Meets c v (a ∷ ls)
unfolding Meets
meets_tail c v a ls h = inr h

pub meets_none : (c v : ℕ) → Meets c v [] → ⊥
unfolding Meets
meets_none c v h = h

pub marked_bit : (n : ℕ) → 0 < n → bit (ltb 0 n) ≡ 1
marked_bit n h = rw (lt-ltb 0 n h)

pub unmarked_bit : (n : ℕ) → n ≡ 0 → bit (ltb 0 n) ≡ 0
unmarked_bit n h = rw (le-ltb 0 n (omega arith))

module _ (cell : ℕ → ℕ) where
  pub meets_right : (limit c v : ℕ) (bs : List Lane) → Meets c v bs → rights cell limit bs ≡ true → (r : ℕ) → v ≡ suc r → chain cell limit r c ≡ true
  meets_right limit c v [] h g r e = absurd (meets_none c v h)
  meets_right limit c v (a ∷ bs) h g r e =
      let q = both (chain cell limit a.left a.here) (rights cell limit bs) (sym (rights_cons cell limit a bs) ∙ g) in
      ⊎_elim
      (λ x. let i : r ≡ a.left = omega (arith, x.1) in rw (i, x.0) q.0)
      (λ x. meets_right limit c v bs x q.1 r e)
      (meets_cons c v a bs h)

  pub meets_sums : (c v : ℕ) (bs : List Lane) → Meets c v bs → (r : ℕ) → v ≡ suc r → (x : ℕ) → count x (units cell r c) ≤ sums cell bs x
  meets_sums c v [] h r e x = absurd (meets_none c v h)
  meets_sums c v (a ∷ bs) h r e x =
      ⊎_elim
      (λ y. let i : r ≡ a.left = omega (arith, y.1) in rw (i, y.0) (omega (arith, sums_cons cell a bs x)))
      (λ y. omega (arith, meets_sums c v bs y r e x, sums_cons cell a bs x))
      (meets_cons c v a bs h)

-- ---- lanes in another order

swap : (a b c : Bool) → (a && (b && c)) ≡ (b && (a && c))
swap true true c = refl
swap true false c = refl
swap false true c = refl
swap false false c = refl

module _ (cell : ℕ → ℕ) where
  pub rights_move : (limit : ℕ) (bs : List Lane) (a : Lane) (cs : List Lane) → rights cell limit (bs ++ (a ∷ cs)) ≡ rights cell limit (a ∷ (bs ++ cs))
  unfolding rights
  rights_move limit [] a cs = refl
  rights_move limit (b ∷ bs) a cs =
      ap (λ (t : Bool). chain cell limit b.left b.here && t) (rights_move limit bs a cs)
      ∙ swap (chain cell limit b.left b.here) (chain cell limit a.left a.here) (rights cell limit (bs ++ cs))

  pub sums_move : (bs : List Lane) (a : Lane) (cs : List Lane) (u : ℕ) → sums cell (bs ++ (a ∷ cs)) u ≡ sums cell (a ∷ (bs ++ cs)) u
  unfolding sums
  sums_move [] a cs u = refl
  sums_move (b ∷ bs) a cs u = omega (arith, sums_move bs a cs u)

pub meets_front : (c v : ℕ) (bs : List Lane) (a : Lane) (cs : List Lane) → Meets c v (bs ++ (a ∷ cs)) → Meets c v (a ∷ (bs ++ cs))
unfolding Meets
meets_front c v [] a cs h = h
meets_front c v (b ∷ bs) a cs h = ⊎_elim (λ x. inr (inl x)) (λ x. ⊎_elim inl (λ y. inr (inr y)) (meets_front c v bs a cs x)) h

pub meets_back : (c v : ℕ) (bs : List Lane) (a : Lane) (cs : List Lane) → Meets c v (a ∷ (bs ++ cs)) → Meets c v (bs ++ (a ∷ cs))
unfolding Meets
meets_back c v [] a cs h = h
meets_back c v (b ∷ bs) a cs h = ⊎_elim (λ x. inr (meets_back c v bs a cs (inl x))) (λ x. ⊎_elim inl (λ y. inr (meets_back c v bs a cs (inr y))) x) h
