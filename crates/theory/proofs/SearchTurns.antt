-- The searches of a growth one by one: where each begins, what it finds that was not found before, and which cells it looks at.
use Prim.Native.Nat.{ℕ, zero, suc, ◌≤◌, ◌<◌}
use mathlib.Core.Path.{◌≡◌, refl, sym, ◌∙◌, ap}
use mathlib.Core.Logic.{◌≢◌}
use mathlib.Core.Bool.{false, not, ◌&&◌, and-true, and-false}
use mathlib.Core.List.{List, [], ◌∷◌, ◌++◌}
use native.Mathlib.Omega.{arith}
use native.Mathlib.Decide.{ℕ_discrete, dec_lt}
use lib.Dec.{ltb}
use lib.ListN.{get_or}
use borrow.Author.Tests.{lt-ltb, le-ltb}
use Rattle.format.specs.Basics.Lists.{count, member}
use Rattle.format.specs.Layout.Chain.{is_free}
use Rattle.format.specs.Layout.Space.{Space}
use Rattle.format.specs.Calls.Search.{free_from, lowest_free, search, searches, growth_searches}
use Rattle.format.specs.Claims.Search.{free_beside, InTurn, InTurns, SearchInTurn}
use Rattle.theory.proofs.Counts.{bit_self, bit_other, count_append}
use Rattle.theory.proofs.Picks.{pick_same}
use Rattle.theory.proofs.Searches.{from_below, from_above, Lowest, lowest}

module _ (sp : Space) where
  -- one more unit that was found is free beside no longer, and no other changes
  beside_other : (before : List ℕ) (u x : ℕ) → x ≢ u → free_beside sp (before ++ (u ∷ [])) x ≡ free_beside sp before x
  unfolding free_beside member
  beside_other before u x z =
      let e : count x (before ++ (u ∷ [])) ≡ count x before = omega (arith, count_append x before (u ∷ []), bit_other x u z) in
      ap (λ n. is_free sp.cell x && not (ltb 0 n)) e

  beside_self : (before : List ℕ) (u : ℕ) → free_beside sp (before ++ (u ∷ [])) u ≡ false
  unfolding free_beside member
  beside_self before u = rw (lt-ltb 0 (count u (before ++ (u ∷ []))) (omega (arith, count_append u before (u ∷ []), bit_self u))) (and-false (is_free sp.cell u))

  -- free beside those found before, and free from a place on, are the same
  abbrev Passed : List ℕ → ℕ → Type 0
  Passed before a = (x : ℕ) → x < sp.limit → free_beside sp before x ≡ free_from sp a x

  passed_next : (before : List ℕ) (a u : ℕ) → Lowest sp a u → Passed before a → Passed (before ++ (u ∷ [])) (suc u)
  passed_next before a u r p x k =
      elim (ℕ_discrete x u) [
        | yes e ↦ ap (free_beside sp (before ++ (u ∷ []))) e ∙ beside_self before u ∙ sym (from_below sp (suc u) x (omega arith))
        | no e ↦ beside_other before u x e ∙ p x k ∙ same e
      ]
    where
      same : x ≢ u → free_from sp a x ≡ free_from sp (suc u) x
      same e =
          elim (dec_lt u x) [
            | yes h ↦ from_above sp a x (omega (arith, r.low)) ∙ sym (from_above sp (suc u) x h)
            | no h ↦ passed (omega arith) ∙ sym (from_below sp (suc u) x (omega arith))
          ]
        where
          passed : x < u → free_from sp a x ≡ false
          passed h = elim (dec_lt x a) [ yes l ↦ from_below sp a x l | no l ↦ from_above sp a x (omega arith) ∙ r.none x (omega arith) h ]

  in_turn : (a : ℕ) (before : List ℕ) → Passed before a → InTurn sp a before (search sp a)
  unfolding search lowest_free
  in_turn a before p = record { begins = refl; lowest = sym (ap (λ l. get_or l 0 sp.limit) (pick_same (free_from sp a) (free_beside sp before) sp.limit p)); exact = refl }

  turns : (n a : ℕ) (before : List ℕ) → a ≤ sp.limit → Passed before a → InTurns sp a before (searches sp n a)
  unfolding searches search InTurns
  turns zero a before h p = tt
  turns (suc n) a before h p =
      let u = lowest_free sp a in (
        in_turn a before p,
        elim (dec_lt u sp.limit) [
          | yes l ↦ rw (lt-ltb u sp.limit l) (turns n (suc u) (before ++ (u ∷ [])) l (passed_next before a u (lowest sp a h) p))
          | no l ↦ rw (le-ltb u sp.limit (omega arith)) tt
        ],
      )

  pub search_in_turn : SearchInTurn sp
  unfolding growth_searches free_beside member
  search_in_turn n = turns n 0 [] (omega arith) (λ x k. and-true (is_free sp.cell x) ∙ sym (from_above sp 0 x (omega arith)))
