-- Tables that are changed along chains: freeing, chaining, and both.
use mathlib.Core.Path.{◌≡◌, refl, sym, ap, ◌∙◌}
use mathlib.Core.Logic.{inl, inr, ◌≢◌}
use mathlib.Core.List.{List, [], ◌∷◌}
use Prim.Native.Nat.{ℕ, ◌≤◌, ◌<◌, ◌+◌}
use native.Mathlib.Omega.{arith}
use native.Mathlib.Decide.{dec_lt}
use borrow.Author.Tests.{eq-eqb, ne_eqb}
use Rattle.format.specs.Basics.Lists.{bit, count}
use Rattle.format.specs.Layout.Chain.{END, FREE, start_of}
use Rattle.theory.specs.Links.{Linked, freed, chained, rechain}
use Rattle.theory.proofs.Counts.{eqb_cases, bit_self}
use Rattle.theory.proofs.Chains.{linked_agree}

pub freed_out : (us : List ℕ) (f : ℕ → ℕ) (s : ℕ) → count s us ≡ 0 → freed us f s ≡ f s
unfolding freed
freed_out [] f s q = refl
freed_out (u ∷ us) f s q =
    elim (eqb_cases s u) [
      | inl e ↦ absurd (omega (arith, ap bit e.1))
      | inr e ↦ rw e.1 (freed_out us f s (omega arith))
    ]

pub freed_in : (us : List ℕ) (f : ℕ → ℕ) (s : ℕ) → 0 < count s us → freed us f s ≡ FREE
unfolding freed
freed_in [] f s q = absurd (omega arith)
freed_in (u ∷ us) f s q =
    elim (eqb_cases s u) [
      | inl e ↦ rw e.1
      | inr e ↦ rw e.1 (freed_in us f s (omega (arith, ap bit e.1)))
    ]

-- where their cells are free already
pub freed_free : (us : List ℕ) (f : ℕ → ℕ) → ((u : ℕ) → 0 < count u us → f u ≡ FREE) → (s : ℕ) → freed us f s ≡ f s
freed_free us f h s =
    elim (dec_lt 0 (count s us)) [
      | yes k ↦ freed_in us f s k ∙ sym (h s k)
      | no k ↦ freed_out us f s (omega arith)
    ]

pub chained_out : (ws : List ℕ) (f : ℕ → ℕ) (s : ℕ) → count s ws ≡ 0 → chained ws f s ≡ f s
unfolding chained
chained_out [] f s q = refl
chained_out (w ∷ ws) f s q =
    elim (eqb_cases s w) [
      | inl e ↦ absurd (omega (arith, ap bit e.1))
      | inr e ↦ rw e.1 (chained_out ws f s (omega arith))
    ]

-- units that are all different become a chain
pub chained_linked : (ws : List ℕ) (f : ℕ → ℕ) (N : ℕ) → ((s : ℕ) → count s ws ≤ 1) → ((s : ℕ) → 0 < count s ws → s < N) → Linked (chained ws f) N ws
unfolding chained
chained_linked [] f N d b = tt
chained_linked (w ∷ ws) f N d b = (
  b w (omega (arith, bit_self w)),
  rw (eq-eqb w w refl),
  linked_agree (chained ws f) (chained (w ∷ ws) f) N ws
      (λ s q. rw (ne_eqb s w (λ e. omega (arith, d s, ap bit (eq-eqb s w e)))))
      (chained_linked ws f N (λ s. omega (arith, d s)) (λ s q. b s (omega arith))),
)

pub chained_ext : (ws : List ℕ) (f g : ℕ → ℕ) (s : ℕ) → f s ≡ g s → chained ws f s ≡ chained ws g s
unfolding chained
chained_ext [] f g s e = e
chained_ext (w ∷ ws) f g s e = rw (chained_ext ws f g s e)

-- ---- freeing and chaining at once

pub freed_ext : (us : List ℕ) (f h : ℕ → ℕ) (s : ℕ) → f s ≡ h s → freed us f s ≡ freed us h s
unfolding freed
freed_ext [] f h s e = e
freed_ext (u ∷ us) f h s e = rw (freed_ext us f h s e)

pub rechain_ext : (us ws : List ℕ) (f h : ℕ → ℕ) (s : ℕ) → f s ≡ h s → rechain us ws f s ≡ rechain us ws h s
unfolding rechain
rechain_ext us ws f h s e = chained_ext ws (freed us f) (freed us h) s (freed_ext us f h s e)

pub rechain_out : (us ws : List ℕ) (f : ℕ → ℕ) (s : ℕ) → count s us ≡ 0 → count s ws ≡ 0 → rechain us ws f s ≡ f s
unfolding rechain
rechain_out us ws f s p q = chained_out ws (freed us f) s q ∙ freed_out us f s p

-- no cell becomes a mark
start_not : (ws : List ℕ) (c : ℕ) → c ≢ END → count c ws ≡ 0 → start_of ws ≢ c
start_not [] c n q e = n (sym e)
start_not (w ∷ ws) c n q e = omega (arith, ap bit (eq-eqb c w (sym e)))

chained_not : (ws : List ℕ) (f : ℕ → ℕ) (s c : ℕ) → c ≢ END → count c ws ≡ 0 → 0 < count s ws → chained ws f s ≢ c
unfolding chained
chained_not [] f s c n q p = absurd (omega arith)
chained_not (w ∷ ws) f s c n q p =
    elim (eqb_cases s w) [
      | inl e ↦ rw e.1 (start_not ws c n (omega arith))
      | inr e ↦ rw e.1 (chained_not ws f s c n (omega arith) (omega (arith, ap bit e.1)))
    ]

pub rechain_not : (us ws : List ℕ) (f : ℕ → ℕ) (s c : ℕ) → c ≢ END → c ≢ FREE → count c ws ≡ 0 → 0 < count s us + count s ws → rechain us ws f s ≢ c
unfolding rechain
rechain_not us ws f s c n m q p =
    elim (dec_lt 0 (count s ws)) [
      | yes k ↦ chained_not ws (freed us f) s c n q k
      | no k ↦ λ e. m (sym e ∙ chained_out ws (freed us f) s (omega arith) ∙ freed_in us f s (omega arith))
    ]

pub rechain_same : (us : List ℕ) (f : ℕ → ℕ) (N : ℕ) → Linked f N us → (s : ℕ) → rechain us us f s ≡ f s
unfolding chained rechain
rechain_same us f N h s =
    elim (dec_lt 0 (count s us)) [
      | yes p ↦ again us (freed us f) h p
      | no q ↦ chained_out us (freed us f) s (omega arith) ∙ freed_out us f s (omega arith)
    ]
  where
    again : (vs : List ℕ) (g : ℕ → ℕ) → Linked f N vs → 0 < count s vs → chained vs g s ≡ f s
    again [] g k p = absurd (omega arith)
    again (v ∷ vs) g k p =
        elim (eqb_cases s v) [
          | inl e ↦ rw e.1 (sym k.1 ∙ ap f (sym e.0))
          | inr e ↦ rw e.1 (again vs g k.2 (omega (arith, ap bit e.1)))
        ]
