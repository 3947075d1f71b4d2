-- Equal names have the same place in the order and are legal together, and a name is equal to at most one of ordered siblings.
use Prim.Native.Nat.{ℕ, ◌-◌, ◌≤◌, ◌<◌}
use mathlib.Core.Path.{◌≡◌, refl, sym, ap, ◌∙◌}
use mathlib.Core.Logic.{◌≢◌, ◌⊎◌, inl, inr}
use mathlib.Core.Bool.{Bool, true, false, not, ◌&&◌, ◌||◌}
use mathlib.Core.List.{List, [], ◌∷◌, map}
use native.Mathlib.Omega.{arith}
use lib.Dec.{eqb, leb, ltb}
use lib.ListN.{length, length-map}
use borrow.Author.Tests.{leb-true, ltb-true, lt-ltb, eqb-true, eqb-false, ne_eqb, not-true}
use Rattle.format.specs.Basics.Lists.{all}
use Rattle.format.specs.Layout.Name.{Name, slash, illegal, legal_unit, legal_name, small_by20, small_by50, fold, name_less, name_equal}
use Rattle.theory.proofs.Tests.{both, and_true_of, clash, neither}
use Rattle.theory.proofs.NameOrder.{equal_same}
use Rattle.theory.proofs.Trees.Names.{names_ordered}
use Rattle.theory.proofs.SmallLetters.{by_20, by_50}

pub equal_folded : (a b : Name) → name_equal a b ≡ true → map fold a ≡ map fold b
unfolding name_equal
equal_folded a b h = equal_same (map fold a) (map fold b) h

folded_length : (a b : Name) → map fold a ≡ map fold b → length a ≡ length b
folded_length a b e = sym (length-map a fold) ∙ ap length e ∙ length-map b fold

-- what equals n stands at one place of the order
pub equal_lower_not_upper : (n a b : Name) → name_equal n a ≡ true → name_less a b ≡ true → name_equal n b ≡ false
equal_lower_not_upper n a b p l = go (name_equal n b) refl
  where
    go : (t : Bool) → name_equal n b ≡ t → t ≡ false
    go false e = refl
    go true e =
        let below = names_ordered.equal_left n a b p ∙ l in
        absurd (clash below (names_ordered.equal_left n b b e ∙ names_ordered.strict b))

pub equal_upper_not_lower : (n a b : Name) → name_equal n b ≡ true → name_less a b ≡ true → name_equal n a ≡ false
equal_upper_not_lower n a b p l = go (name_equal n a) refl
  where
    go : (t : Bool) → name_equal n a ≡ t → t ≡ false
    go false e = refl
    go true e = absurd (clash p (equal_lower_not_upper n a b e l))

pub equal_not_two_above : (n a b c : Name) → name_equal n a ≡ true → name_less a b ≡ true → name_less b c ≡ true → name_equal n c ≡ false
equal_not_two_above n a b c p l k = equal_lower_not_upper n a c p (names_ordered.trans a b c l k)

-- ---- legal names

abbrev High : ℕ → Type 0
High u = (0x80 ≤ u) × (u < 0x1_0000)

-- what a unit is folded to: itself, a capital letter, or a unit from 80 hex on, as it is itself
fold_cases : (u : ℕ) → (fold u ≡ u) ⊎ (((0x61 ≤ u) × (u ≤ 0x7A) × (fold u ≡ u - 0x20)) ⊎ (High u × High (fold u)))
unfolding fold
fold_cases u = first (small_by20 u) refl
  where
    last : (t : Bool) → small_by20 u ≡ false → small_by50 u ≡ false → eqb u 0xFF ≡ t
        → (fold u ≡ u) ⊎ (((0x61 ≤ u) × (u ≤ 0x7A) × (fold u ≡ u - 0x20)) ⊎ (High u × High (fold u)))
    last true h k e = let f : fold u ≡ 0x178 = rw (h, k, e) in let k : u ≡ 0xFF = eqb-true u 0xFF e in inr (inr ((omega (arith, k), omega (arith, k)), (omega (arith, f), omega (arith, f))))
    last false h k e = inl (rw (h, k, e))

    second : (t : Bool) → small_by20 u ≡ false → small_by50 u ≡ t
        → (fold u ≡ u) ⊎ (((0x61 ≤ u) × (u ≤ 0x7A) × (fold u ≡ u - 0x20)) ⊎ (High u × High (fold u)))
    second true h k =
        let f : fold u ≡ u - 0x50 = rw (h, k) in
        let b = by_50 u k in
        inr (inr ((omega (arith, b.0), omega (arith, b.1)), (omega (arith, f, b.0), omega (arith, f, b.1))))
    second false h k = last (eqb u 0xFF) h k refl

    first : (t : Bool) → small_by20 u ≡ t
        → (fold u ≡ u) ⊎ (((0x61 ≤ u) × (u ≤ 0x7A) × (fold u ≡ u - 0x20)) ⊎ (High u × High (fold u)))
    first true h =
        let f : fold u ≡ u - 0x20 = rw h in
        elim (by_20 u h) [
          | inl a ↦ inr (inl (a.0, a.1, f))
          | inr b ↦ inr (inr ((omega (arith, b.0), omega (arith, b.1)), (omega (arith, f, b.0), omega (arith, f, b.1))))
        ]
    first false h = second (small_by50 u) h refl

-- a unit below 80 hex that is not a letter is folded to from itself alone
fold_keeps_other : (u w k : ℕ) → fold u ≡ fold w → w ≢ k → ((k < 0x41) ⊎ ((0x5A < k) × (k < 0x61))) → u ≢ k
fold_keeps_other u w k e h p z =
    elim (fold_cases u) [
      | inl a ↦
          elim (fold_cases w) [
            | inl b ↦ h (omega (arith, a, b))
            | inr (inl b) ↦ other p (λ l. omega (arith, a, b.0, b.1, b.2)) (λ l m. omega (arith, a, b.0, b.1, b.2))
            | inr (inr b) ↦ other p (λ l. omega (arith, a, b.1.0)) (λ l m. omega (arith, a, b.1.0))
          ]
      | inr (inl a) ↦ other p (λ l. omega (arith, a.0)) (λ l m. omega (arith, a.0))
      | inr (inr a) ↦ other p (λ l. omega (arith, a.0.0)) (λ l m. omega (arith, a.0.0))
    ]
  where
    other : {A : Type 0} → ((k < 0x41) ⊎ ((0x5A < k) × (k < 0x61))) → (k < 0x41 → A) → (0x5A < k → k < 0x61 → A) → A
    other (inl q) f g = f q
    other (inr q) f g = g q.0 q.1

fold_low : (u w : ℕ) → fold u ≡ fold w → w < 0x1_0000 → u < 0x1_0000
fold_low u w e h =
    elim (fold_cases u) [
      | inr (inl a) ↦ omega (arith, a.1)
      | inr (inr a) ↦ a.0.1
      | inl a ↦
          elim (fold_cases w) [
            | inl b ↦ omega (arith, a, b, e, h)
            | inr (inl b) ↦ omega (arith, a, b.1, b.2, e)
            | inr (inr b) ↦ omega (arith, a, b.1.1, e)
          ]
    ]

legal_unit_lem : (u w : ℕ) → fold u ≡ fold w → legal_unit w ≡ true → legal_unit u ≡ true
unfolding legal_unit illegal
legal_unit_lem u w e h =
    let r = both (ltb w 0x1_0000) (not (eqb w 0) && not (eqb w slash || eqb w 0x5C || eqb w 0x3A || eqb w 0x21)) h in
    let q = both (not (eqb w 0)) (not (eqb w slash || eqb w 0x5C || eqb w 0x3A || eqb w 0x21)) r.1 in
    let a = not-true (eqb w 0) q.0 in
    let b = not-true (eqb w slash || eqb w 0x5C || eqb w 0x3A || eqb w 0x21) q.1 in
    let b4 = neither (eqb w slash || eqb w 0x5C || eqb w 0x3A) (eqb w 0x21) b in
    let b3 = neither (eqb w slash || eqb w 0x5C) (eqb w 0x3A) b4.0 in
    let b2 = neither (eqb w slash) (eqb w 0x5C) b3.0 in
    let c0 = ne_eqb u 0 (fold_keeps_other u w 0 e (eqb-false w 0 a) (inl (omega arith))) in
    let c1 = ne_eqb u slash (fold_keeps_other u w slash e (eqb-false w slash b2.0) (inl (omega arith))) in
    let c2 = ne_eqb u 0x5C (fold_keeps_other u w 0x5C e (eqb-false w 0x5C b2.1) (inr (omega arith, omega arith))) in
    let c3 = ne_eqb u 0x3A (fold_keeps_other u w 0x3A e (eqb-false w 0x3A b3.1) (inl (omega arith))) in
    let c4 = ne_eqb u 0x21 (fold_keeps_other u w 0x21 e (eqb-false w 0x21 b4.1) (inl (omega arith))) in
    rw (lt-ltb u 0x1_0000 (fold_low u w e (ltb-true w 0x1_0000 r.0)), c0, c1, c2, c3, c4)

legal_units : (a b : List ℕ) → map fold a ≡ map fold b → all legal_unit b ≡ true → all legal_unit a ≡ true
unfolding all
legal_units [] b e h = refl
legal_units (x ∷ a) [] e h = absurd (omega (arith, ap length e))
legal_units (x ∷ a) (y ∷ b) e h =
    let p : fold x ≡ fold y = cc in
    let q : map fold a ≡ map fold b = cc in
    and_true_of (legal_unit x) (all legal_unit a) (legal_unit_lem x y p (both (legal_unit y) (all legal_unit b) h).0)
    (legal_units a b q (both (legal_unit y) (all legal_unit b) h).1)

pub legal_name_lem : (n m : Name) → name_equal n m ≡ true → legal_name m ≡ true → legal_name n ≡ true
unfolding legal_name
legal_name_lem n m e h =
    let k = equal_folded n m e in
    let l = folded_length n m k in
    let a = (both (leb 1 (length m) && leb (length m) 31) (all legal_unit m) h).0 in
    and_true_of (leb 1 (length n) && leb (length n) 31) (all legal_unit n) (rw l a)
    (legal_units n m k (both (leb 1 (length m) && leb (length m) 31) (all legal_unit m) h).1)
