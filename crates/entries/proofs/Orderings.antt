-- The order of two names, and of two units, as an answer: when each answer is right, and what it says.
use Prim.Native.Nat.{ℕ, ◌+◌, ◌<◌}
use mathlib.Core.Path.{◌≡◌, refl, sym, ◌∙◌, subst}
use mathlib.Core.Bool.{true, false}
use mathlib.Core.Logic.{inl, inr}
use lib.ListN.{length}
use native.Mathlib.Omega.{arith}
use Rattle.format.specs.Layout.Name.{Name, name_less, name_equal, fold}
use Rattle.std.specs.declared.cmp.Ordering.{Ordering}
use Rattle.std.specs.declared.cmp.Ordering.TheVariants.{Less, Equal, Greater}
use Rattle.kinds.specs.Ordering.{ordering, unit_ordering}
use Rattle.theory.proofs.Tests.{clash, false_of}
use Rattle.std.specs.Ordering.{nat_cmp, MatchOrdering}
use Rattle.std.proofs.lemmas.Cmp.{ranked}
use Rattle.std.proofs.lemmas.Bool.Decides.{nat_tests}
use Rattle.theory.proofs.NameOrder.{less_by, equal_by, by_three, by_apart, by_once, less_is, equal_is}
use Rattle.theory.proofs.NameCompare.{Comparing, Turn, shorter_less, comparing_start, comparing_end, turn_less, turn_more, turn_on}
use Rattle.entries.proofs.NameLaws.{unit_inside}

module _ (a b : Name) where
  -- ---- by the order of `fold`

  pub is_less : less_by fold a b ≡ true → Less ≡ ordering a b
  unfolding ordering
  is_less t = rw (less_is a b, t)

  pub is_same : equal_by fold a b ≡ true → Equal ≡ ordering a b
  unfolding ordering
  is_same t = rw (less_is a b, (by_apart fold a b t).0, equal_is a b, t)

  pub is_more : less_by fold b a ≡ true → Greater ≡ ordering a b
  unfolding ordering
  is_more t =
      let u = false_of (less_by fold a b) (λ s. by_once fold a b s t) in
      let v = false_of (equal_by fold a b) (λ s. clash t (by_apart fold a b s).1) in
      rw (less_is a b, u, equal_is a b, v)

  -- ---- what an answer says

  abbrev pub Told : Ordering → Type 0
  Told Less = name_less a b ≡ true
  Told Equal = (name_equal a b ≡ true) × (name_less a b ≡ false)
  Told Greater = (name_less b a ≡ true) × (name_less a b ≡ false)

  told_right : Told (ordering a b)
  told_right =
      elim (by_three fold a b) [
        | inl t ↦ subst Told (is_less t) (less_is a b ∙ t)
        | inr (inl t) ↦ subst Told (is_same t) (equal_is a b ∙ t, less_is a b ∙ (by_apart fold a b t).0)
        | inr (inr t) ↦ subst Told (is_more t) (less_is b a ∙ t, less_is a b ∙ false_of (less_by fold a b) (λ s. by_once fold a b s t))
      ]

  pub told : {r o : Ordering} → r ≡ ordering a b → r ≡ o → Told o
  told e h = subst Told (sym e ∙ h) told_right

module _ (u w : ℕ) where
  pub unit_compared : nat_cmp (fold u) (fold w) ≡ unit_ordering u w
  unfolding unit_ordering
  unit_compared = grind (arith, nat_tests)

  pub unit_told : {r o : Ordering} → r ≡ unit_ordering u w → r ≡ o → MatchOrdering o (fold u < fold w) (fold u ≡ fold w) (fold w < fold u)
  unit_told {r} {o} e h = ranked (fold u) (fold w) o (sym h ∙ e ∙ sym unit_compared)

-- ---- what decides

-- the lengths of two names
pub shorter_decides : (a b : Name) (r : Ordering) → r ≡ nat_cmp (length a) (length b) → (r ≡ Equal → ⊥) → r ≡ ordering a b
shorter_decides a b Less e n = is_less a b (shorter_less fold a b (ranked _ _ _ e))
shorter_decides a b Equal e n = absurd (n refl)
shorter_decides a b Greater e n = is_more a b (shorter_less fold b a (ranked _ _ _ e))

module _ {a b : Name} {i : ℕ} (u w : ℕ) (t : Turn fold a b i (fold u) (fold w)) where
  -- two units that differ
  pub turn_decides : (r : Ordering) → r ≡ unit_ordering u w → (r ≡ Equal → ⊥) → r ≡ ordering a b
  turn_decides Less e n = is_less a b (turn_less t (unit_told u w e refl))
  turn_decides Equal e n = absurd (n refl)
  turn_decides Greater e n = is_more a b (turn_more t (unit_told u w e refl))

  -- two that do not
  pub turn_alike : {r : Ordering} → r ≡ unit_ordering u w → r ≡ Equal → Comparing fold a b (i + 1)
  turn_alike e h = let s = unit_told u w e h in turn_on t (omega (arith, s)) (omega (arith, s))

-- what comparing a name unit by unit cites
pub ruleset comparing = (unit_inside, shorter_decides, is_same, comparing_start, comparing_end)
