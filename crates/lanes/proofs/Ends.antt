-- Chains that are marked side by side: how it begins, in what order the lanes may stand, and how it ends.
use Prim.Native.Nat.{ℕ, suc, ◌+◌, ◌-◌, ◌≤◌, ◌<◌}
use mathlib.Core.Path.{◌≡◌, refl, sym, ap, ◌∙◌}
use mathlib.Core.Logic.{inl, inr, ⊎_elim}
use mathlib.Core.Bool.{Bool, true, false}
use mathlib.Core.List.{List, [], ◌∷◌, ◌++◌}
use native.Mathlib.Omega.{arith}
use native.Mathlib.Decide.{dec_lt}
use lib.Dec.{ltb}
use borrow.Author.Tests.{lt-ltb, le-ltb, ltb-true}
use Rattle.format.specs.Basics.Lists.{bit, count, member}
use Rattle.theory.specs.Marks.{Closed, Owning}
use Rattle.theory.proofs.Marks.{closed_chain}
use Rattle.lanes.specs.Lanes.{Lane, rights, sums, Meets, Side}
use Rattle.lanes.proofs.ToGo.{meets_none, marked_bit, unmarked_bit, rights_move, sums_move, meets_front, meets_back}

-- ---- any lane may be the next

module _ {cell : ℕ → ℕ} {limit : ℕ} {goal : Bool} {T : ℕ → ℕ} {shared : Bool} {m : ℕ → ℕ} where
  side_same : {bs cs : List Lane} → rights cell limit bs ≡ rights cell limit cs → ((u : ℕ) → sums cell bs u ≡ sums cell cs u)
      → ((c v : ℕ) → Meets c v bs → Meets c v cs) → Side cell limit goal T shared bs m → Side cell limit goal T shared cs m
  side_same r t n w =
      record {
        left = w.left ∙ r;
        edge = λ u l h. ⊎_elim inl (λ c. inr (n _ _ c)) (w.edge u l h);
        truth = w.truth;
        single = λ g f u l. w.single g f u l ∙ ap (λ (x : ℕ). bit (ltb 0 (m u)) + x) (t u);
        some = λ g u l h. omega (arith, w.some g u l h, t u);
        back = λ g u l h. w.back g u l (omega (arith, t u));
        double = w.double;
      }

  pub side_front : (bs : List Lane) (a : Lane) (cs : List Lane) → Side cell limit goal T shared (bs ++ (a ∷ cs)) m → Side cell limit goal T shared (a ∷ (bs ++ cs)) m
  side_front bs a cs = side_same (rights_move cell limit bs a cs) (sums_move cell bs a cs) (λ c v. meets_front c v bs a cs)

  pub side_back : (bs : List Lane) (a : Lane) (cs : List Lane) → Side cell limit goal T shared (a ∷ (bs ++ cs)) m → Side cell limit goal T shared (bs ++ (a ∷ cs)) m
  side_back bs a cs = side_same (sym (rights_move cell limit bs a cs)) (λ u. sym (sums_move cell bs a cs u)) (λ c v. meets_back c v bs a cs)

-- ---- the end: no lane is left

pub side_closed : {cell : ℕ → ℕ} {limit : ℕ} {goal : Bool} {T : ℕ → ℕ} {shared : Bool} {m : ℕ → ℕ} → Side cell limit goal T shared [] m → Closed cell limit m
side_closed w = record { at = λ u l h. ⊎_elim (λ c. c) (λ c. absurd (meets_none _ _ c)) (w.edge u l h) }

pub side_right : {cell : ℕ → ℕ} {limit : ℕ} {goal : Bool} {T : ℕ → ℕ} {shared : Bool} {m : ℕ → ℕ} → Side cell limit goal T shared [] m → goal ≡ true
unfolding rights
side_right w = w.left

-- ---- the beginning: chains that are still whole, beside units that are owned already; and what is owned at the end

module _ {cell : ℕ → ℕ} {limit : ℕ} {owned : List ℕ} {m : ℕ → ℕ} {shared : Bool} (o : Owning cell limit owned m shared) where
  marked_count : (u : ℕ) → u < limit → 0 < m u → 0 < count u owned
  unfolding member
  marked_count u l h = ltb-true 0 (count u owned) (sym (o.marked u l) ∙ lt-ltb 0 (m u) h)

  count_marked : (u : ℕ) → u < limit → 0 < count u owned → 0 < m u
  unfolding member
  count_marked u l h = ltb-true 0 (m u) (o.marked u l ∙ lt-ltb 0 (count u owned) h)

  pub side_start : (ls : List Lane) → Side cell limit (rights cell limit ls) (λ u. count u owned + sums cell ls u) shared ls m
  side_start ls =
      record {
        left = refl;
        edge = λ u l h. inl (o.closed.at u l h);
        truth = λ g u l h. let e : suc (m u - 1) ≡ m u = omega arith in rw e at (closed_chain o.closed (m u - 1) u l (sym e));
        single = λ g f u l.
            elim (dec_lt 0 (m u)) [
              | yes p ↦ omega (arith, marked_bit (m u) p, marked_count u l p, o.single f u l)
              | no p ↦
                  let z : count u owned ≡ 0 = elim (dec_lt 0 (count u owned)) [
                    | yes q ↦ absurd (omega (arith, count_marked u l q))
                    | no q ↦ omega arith
                  ] in
                  omega (arith, unmarked_bit (m u) (omega arith))
            ];
        some = λ g u l h.
            elim (dec_lt 0 (count u owned)) [
              | yes p ↦ omega (arith, count_marked u l p)
              | no p ↦ omega arith
            ];
        back = λ g u l h.
            elim (dec_lt 0 (m u)) [
              | yes p ↦ omega (arith, marked_count u l p)
              | no p ↦ omega arith
            ];
        double = λ g f. let r = o.double f in (r.0, r.1, omega (arith, r.2));
      }

-- what is owned, where it is counted by T
pub side_owning : {cell : ℕ → ℕ} {limit : ℕ} {goal : Bool} {T : ℕ → ℕ} {shared : Bool} {m : ℕ → ℕ} (owned : List ℕ) → ((u : ℕ) → count u owned ≡ T u)
    → Side cell limit goal T shared [] m → Owning cell limit owned m shared
unfolding member sums
side_owning {m = m} owned t w =
    let g = side_right w in
    record {
      closed = side_closed w;
      marked = λ u l.
          elim (dec_lt 0 (m u)) [
            | yes p ↦ lt-ltb 0 (m u) p ∙ sym (lt-ltb 0 (count u owned) (omega (arith, t u, w.back g u l (omega arith))))
            | no p ↦
                le-ltb 0 (m u) (omega arith)
                ∙ sym
                (le-ltb 0 (count u owned)
                (elim (dec_lt 0 (count u owned)) [
                  | yes q ↦ absurd (omega (arith, w.some g u l (omega (arith, t u))))
                  | no q ↦ omega arith
                ]))
          ];
      single = λ f u l. omega (arith, t u, w.single g f u l, bit_one (ltb 0 (m u)));
      double = λ f. let r = w.double g f in (r.0, r.1, omega (arith, t r.0, r.2));
    }
  where
    bit_one : (b : Bool) → bit b ≤ 1
    bit_one true = omega arith
    bit_one false = omega arith
