-- The steps of chains that are marked side by side: each is a step of the first lane.
use Prim.Native.Nat.{ℕ, zero, suc, ◌+◌, ◌-◌, ◌≤◌, ◌<◌}
use mathlib.Core.Path.{◌≡◌, refl, sym, ap, ◌∙◌}
use mathlib.Core.Logic.{◌≢◌, inl, inr, ⊎_elim}
use mathlib.Core.Bool.{Bool, true, false, ◌&&◌}
use mathlib.Core.List.{List, ◌∷◌}
use native.Mathlib.Omega.{arith}
use native.Mathlib.Decide.{dec_lt}
use lib.Dec.{ltb, eqb}
use borrow.Author.Tests.{eq-eqb, ne_eqb}
use Rattle.format.specs.Basics.Lists.{bit, count}
use Rattle.format.specs.Layout.Chain.{END, chain, units}
use Rattle.theory.proofs.Counts.{eqb_cases, bit_self}
use Rattle.theory.proofs.Tests.{both, clash, false_of}
use Rattle.theory.proofs.Chains.{chain_unique}
use Rattle.theory.proofs.Marks.{chain_end, chain_step, chain_out}
use Rattle.lanes.specs.Lanes.{Lane, rights, sums, Side}
use Rattle.lanes.proofs.ToGo.{rights_cons, sums_cons, count_step, meets_cons, meets_head, meets_tail, marked_bit, unmarked_bit, meets_right, meets_sums}

-- ---- a step of the first lane: it marks its unit

module _ {cell : ℕ → ℕ} {limit : ℕ} {goal : Bool} {T : ℕ → ℕ} {shared : Bool} {ls : List Lane} {m : ℕ → ℕ} where
  pub side_step : {k s : ℕ} (m' : ℕ → ℕ) → Side cell limit goal T shared (record { left = k; here = s } ∷ ls) m → 0 < k → s < limit → m s ≡ 0
      → m' s ≡ k → ((u : ℕ) → u ≢ s → m' u ≡ m u) → Side cell limit goal T shared (record { left = k - 1; here = cell s } ∷ ls) m'
  side_step {k = zero} m' w p l z a b = absurd (omega arith)
  side_step {k = suc k} {s} m' w p l z a b =
      let e : suc k - 1 ≡ k = omega arith in
      rw e record {
        left = w.left ∙ rights_cons cell limit (record { left = suc k; here = s }) ls ∙ rw (chain_step cell limit k s l) (sym (rights_cons cell limit (record { left = k; here = cell s }) ls));
        edge = λ u l' h.
            ⊎_elim
            (λ d. inr (meets_head _ _ _ _ (ap cell d.0) (ap m' d.0 ∙ a)))
            (λ d.
            ⊎_elim
            (λ c.
            ⊎_elim
            (λ x. inl (inl (b u d.0 ∙ x.0, x.1)))
            (λ x. let o = b (cell u) (λ y. absurd (omega (arith, ap m y))) in inl (inr (x.0, omega (arith, b u d.0), omega arith)))
            c)
            (λ c.
            ⊎_elim
            (λ x. let o = ap m' x.0 in inl (inr (omega (arith, x.0), omega (arith, b u d.0, x.1), omega (arith, o))))
            (λ x. inr (meets_tail _ _ _ _ (rw (b u d.0) x)))
            (meets_cons _ _ _ _ c))
            (w.edge u l' (omega (arith, b u d.0))))
            (eqb_cases u s);
        truth = λ g u l' h.
            ⊎_elim
            (λ d. rw (d.0, a) (both (chain cell limit (suc k) s) (rights cell limit ls) (sym (w.left ∙ rights_cons cell limit _ ls) ∙ g)).0)
            (λ d. rw (b u d.0) (w.truth g u l' (omega (arith, b u d.0))))
            (eqb_cases u s);
        single = λ g f u l'.
            ⊎_elim
            (λ d.
            let q = unmarked_bit (m u) (ap m d.0 ∙ z) in
            let r = marked_bit (m' u) (omega (arith, ap m' d.0)) in
            let i = ap bit d.1 in
            omega (arith, w.single g f u l', sums_cons cell (record { left = suc k; here = s }) ls u, sums_cons cell (record { left = k; here = cell s }) ls u, step u))
            (λ d.
            let q : bit (ltb 0 (m' u)) ≡ bit (ltb 0 (m u)) = ap (λ (n : ℕ). bit (ltb 0 n)) (b u d.0) in
            let i = ap bit d.1 in
            omega (arith, w.single g f u l', sums_cons cell (record { left = suc k; here = s }) ls u, sums_cons cell (record { left = k; here = cell s }) ls u, step u))
            (eqb_cases u s);
        some = λ g u l' h.
            ⊎_elim
            (λ d. omega (arith, ap m' d.0))
            (λ d.
            let i = ap bit d.1 in
            omega (arith, w.some g u l' h, b u d.0, sums_cons cell (record { left = suc k; here = s }) ls u, sums_cons cell (record { left = k; here = cell s }) ls u, step u))
            (eqb_cases u s);
        back = λ g u l' h.
            ⊎_elim
            (λ d.
            let i = ap bit d.1 in
            w.back g u l' (omega (arith, sums_cons cell (record { left = suc k; here = s }) ls u, step u)))
            (λ d.
            let i = ap bit d.1 in
            w.back g u l' (omega (arith, b u d.0, sums_cons cell (record { left = suc k; here = s }) ls u, sums_cons cell (record { left = k; here = cell s }) ls u, step u)))
            (eqb_cases u s);
        double = w.double;
      }
    where
      step : (u : ℕ) → count u (units cell (suc k) s) ≡ bit (eqb u s) + count u (units cell k (cell s))
      step u = let e : suc k - 1 ≡ k = omega arith in rw e at (count_step cell (suc k) s u p)

  -- ---- a lane that has come to its end

  pub side_done : {k s : ℕ} → Side cell limit goal T shared (record { left = k; here = s } ∷ ls) m → k ≡ 0 → s ≡ END → Side cell limit goal T shared ls m
  unfolding units
  side_done {k} {s} w z e =
      record {
        left = w.left ∙ rights_cons cell limit _ ls ∙ rw (z, chain_end cell limit s, eq-eqb s END e);
        edge = λ u l h.
            ⊎_elim inl
            (λ c. ⊎_elim (λ x. inl (inl (omega (arith, x.1), x.0 ∙ e))) inr (meets_cons _ _ _ _ c))
            (w.edge u l h);
        truth = w.truth;
        single = λ g f u l. w.single g f u l ∙ ap (λ (n : ℕ). bit (ltb 0 (m u)) + n) (none u);
        some = λ g u l h. omega (arith, w.some g u l h, none u);
        back = λ g u l h. w.back g u l (omega (arith, none u));
        double = w.double;
      }
    where
      none : (u : ℕ) → sums cell (record { left = k; here = s } ∷ ls) u ≡ sums cell ls u
      none u = sums_cons cell (record { left = k; here = s }) ls u ∙ rw z (omega arith)

  -- ---- the ways out

  pub side_off : {k s : ℕ} → Side cell limit goal T shared (record { left = k; here = s } ∷ ls) m → k ≡ 0 → s ≢ END → goal ≡ false
  side_off {k} {s} w z d = w.left ∙ rights_cons cell limit _ ls ∙ rw (z, chain_end cell limit s, ne_eqb s END d)

  pub side_out : {k s : ℕ} → Side cell limit goal T shared (record { left = k; here = s } ∷ ls) m → 0 < k → limit ≤ s → goal ≡ false
  side_out {k} {s} w p h = w.left ∙ rights_cons cell limit _ ls ∙ rw (chain_out cell limit k s p h)

  pub side_clash : {k s : ℕ} → limit ≤ END → Side cell limit goal T shared (record { left = k; here = s } ∷ ls) m → s < limit → 0 < m s → m s ≢ k → goal ≡ false
  side_clash {k} {s} b w l p d =
      false_of goal (λ g.
      let r = both (chain cell limit k s) (rights cell limit ls) (sym (w.left ∙ rights_cons cell limit _ ls) ∙ g) in
      d (chain_unique cell limit b (m s) k s (w.truth g s l p) r.0))

  -- ---- a lane that meets a mark of as much as it has left: it is dropped

  module _ {k s : ℕ} (w : Side cell limit goal T shared (record { left = k; here = s } ∷ ls) m) where
    -- where a mark leads to, as long as it is no greater than what the lane has left: its chain is right if the other lanes are
    follow_right : (r u : ℕ) → u < limit → m u ≡ suc r → r < k → rights cell limit ls ≡ true → chain cell limit (suc r) u ≡ true
    follow_right zero u l e h g =
        chain_step cell limit 0 u l
        ∙ ⊎_elim
        (λ c. ⊎_elim (λ x. chain_end cell limit (cell u) ∙ eq-eqb (cell u) END x.1) (λ x. absurd (omega (arith, x.1, x.2))) c)
        (λ c. ⊎_elim (λ x. absurd (omega (arith, x.1))) (λ x. meets_right cell limit (cell u) (m u) ls x g 0 e) (meets_cons _ _ _ _ c))
        (w.edge u l (omega arith))
    follow_right (suc r) u l e h g =
        chain_step cell limit (suc r) u l
        ∙ ⊎_elim
        (λ c. ⊎_elim (λ x. absurd (omega (arith, x.0))) (λ x. follow_right r (cell u) x.0 (omega (arith, x.1)) (omega arith) g) c)
        (λ c. ⊎_elim (λ x. absurd (omega (arith, x.1))) (λ x. meets_right cell limit (cell u) (m u) ls x g (suc r) e) (meets_cons _ _ _ _ c))
        (w.edge u l (omega arith))

    -- and its units are marked, or still to be met by those
    follow_units : (r u : ℕ) → u < limit → m u ≡ suc r → r < k → (v : ℕ) → 0 < count v (units cell (suc r) u) → 0 < m v + sums cell ls v
    unfolding units
    follow_units zero u l e h v p =
        ⊎_elim (λ d. omega (arith, ap m d.0)) (λ d. absurd (omega (arith, ap bit d.1))) (eqb_cases v u)
    follow_units (suc r) u l e h v p =
        ⊎_elim
        (λ d. omega (arith, ap m d.0))
        (λ d.
        let q : 0 < count v (units cell (suc r) (cell u)) = omega (arith, ap bit d.1) in
        ⊎_elim
        (λ c. ⊎_elim (λ x. absurd (omega (arith, x.0))) (λ x. follow_units r (cell u) x.0 (omega (arith, x.1)) (omega arith) v q) c)
        (λ c. ⊎_elim (λ x. absurd (omega (arith, x.1))) (λ x. omega (arith, q, meets_sums cell (cell u) (m u) ls x (suc r) e v)) (meets_cons _ _ _ _ c))
        (w.edge u l (omega arith)))
        (eqb_cases v u)

    pub side_meet : 0 < k → s < limit → m s ≡ k → Side cell limit goal T true ls m
    side_meet p l e =
        record {
          left = w.left ∙ rights_cons cell limit _ ls ∙ absorb (chain cell limit k s) (rights cell limit ls) (λ g. rw up at (follow_right (k - 1) s l (e ∙ sym up) (omega arith) g));
          edge = λ u l' h.
              ⊎_elim inl
              (λ c. ⊎_elim (λ x. let o = ap m x.0 in inl (inr (omega (arith, x.0), omega (arith, x.1, o), omega (arith, o)))) inr (meets_cons _ _ _ _ c))
              (w.edge u l' h);
          truth = w.truth;
          single = λ g f. absurd (clash refl f);
          some = λ g u l' h.
              elim (dec_lt 0 (count u (units cell k s))) [
                | yes q ↦ follow_units (k - 1) s l (e ∙ sym up) (omega arith) u (rw (sym up) at q)
                | no q ↦ omega (arith, w.some g u l' h, sums_cons cell (record { left = k; here = s }) ls u)
              ];
          back = λ g u l' h. w.back g u l' (omega (arith, sums_cons cell (record { left = k; here = s }) ls u));
          double = λ g f. twice shared refl g;
        }
      where
        up : suc (k - 1) ≡ k
        up = omega arith

        absorb : (a b : Bool) → (b ≡ true → a ≡ true) → (a && b) ≡ b
        absorb true b h = refl
        absorb false true h = h refl
        absorb false false h = refl

        twice : (b : Bool) → shared ≡ b → goal ≡ true → (u : ℕ) × (u < limit) × (1 < T u)
        twice true f g = w.double g f
        twice false f g = (
          s,
          l,
          omega (arith, w.single g f s l, marked_bit (m s) (omega arith), sums_cons cell (record { left = k; here = s }) ls s, count_step cell k s s p, bit_self s),
        )
