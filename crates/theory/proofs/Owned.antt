-- A chain becomes another: what is owned stays in order, and the allocated units are counted by their owners.
use mathlib.Core.Path.{◌≡◌, sym, ap, ◌∙◌}
use mathlib.Core.Logic.{◌≢◌, inl, inr}
use mathlib.Core.Bool.{not}
use mathlib.Core.List.{List, []}
use Prim.Native.Nat.{ℕ, ◌+◌, ◌≤◌, ◌<◌}
use native.Mathlib.Omega.{arith}
use native.Mathlib.Decide.{ℕ_discrete, dec_lt}
use lib.ListN.{length, get_or, set, length-set}
use lib.Seq.{get_or-set_same, get_or-set_other}
use borrow.Author.Tests.{eq-eqb, ne_eqb}
use Rattle.format.specs.Basics.Lists.{bit, count}
use Rattle.format.specs.Layout.Chain.{END, FREE, is_free, is_allocated, free_below, allocated_below}
use Rattle.theory.specs.Sums.{owners, lengths}
use Rattle.theory.specs.Links.{Linked, freed, chained, rechain}
use Rattle.theory.specs.Owned.{Owned, MayBecome}
use Rattle.theory.proofs.Counts.{sum_ext, sum_add, sum_count}
use Rattle.theory.proofs.Picks.{length_pick, pick_both}
use Rattle.theory.proofs.OwnerCounts.{owners_at, owners_two, owners_set, owner_place, sum_owners}
use Rattle.theory.proofs.Chains.{linked_agree, linked_below, linked_not_free}
use Rattle.theory.proofs.Relinks.{freed_out, freed_in, chained_out, chained_linked}

module _ (N : ℕ) (lim : N ≤ END) (sys : List ℕ) (f : ℕ → ℕ) (L : List (List ℕ)) (o : Owned N sys f L) where
  pub owners_below : (s : ℕ) → 0 < owners s L → s < N
  owners_below s q = let r = owner_place s L q in linked_below f N (get_or L r.0 []) (o.chains r.0 r.1) s r.2

  pub owners_not_free : (s : ℕ) → 0 < owners s L → f s ≢ FREE
  owners_not_free s q = let r = owner_place s L q in linked_not_free f N lim (get_or L r.0 []) (o.chains r.0 r.1) s r.2

  -- a unit has an owner, or its cell is free
  pub owned_or_free : (s : ℕ) → s < N → bit (not (is_free f s)) ≡ count s sys + owners s L
  owned_or_free s h =
      let d = o.single s in
      elim (dec_lt 0 (owners s L)) [
        | yes p ↦ omega (arith, ap (λ b. bit (not b)) (ne_eqb (f s) FREE (owners_not_free s p)))
        | no q ↦
            elim (dec_lt 0 (count s sys)) [
              | yes p ↦ omega (arith, ap (λ b. bit (not b)) (ne_eqb (f s) FREE (o.system s p)))
              | no r ↦ omega (arith, ap (λ b. bit (not b)) (eq-eqb (f s) FREE (o.others s h (omega arith))))
            ]
      ]

  -- the allocated units are the system's and the chains'
  pub allocated_is : allocated_below f N ≡ length sys + lengths L
  allocated_is =
      let p = length_pick (is_allocated f) N in
      let a = sum_ext (λ s. bit (not (is_free f s))) (λ s. count s sys + owners s L) N owned_or_free in
      let b = sum_add (λ s. count s sys) (λ s. owners s L) N in
      let c = sum_count sys N o.within in
      let d = sum_owners L N owners_below in
      omega arith

  pub free_count : length sys + lengths L + length (free_below f N) ≡ N
  free_count = omega (arith, allocated_is, pick_both (is_free f) N)

  -- the chain at i becomes the chain ws, whose units were its own or free
  module _ (i : ℕ) (hi : i < length L) (ws : List ℕ) (k : MayBecome N f (get_or L i []) ws) where
    -- a unit of another owner does not come to the chain, and its cell stays
    pub untouched : (s : ℕ) → f s ≢ FREE → count s (get_or L i []) ≡ 0 → count s ws ≡ 0
    untouched s nf z =
        elim (dec_lt 0 (count s ws)) [
          | yes p ↦ absurd (elim (k.from s p).1 [ inl a ↦ omega arith | inr a ↦ nf a ])
          | no q ↦ omega arith
        ]

    pub came_free : (s : ℕ) → 0 < count s ws → count s (get_or L i []) ≡ 0 → count s sys + owners s L ≡ 0
    came_free s p z =
        let r = k.from s p in
        elim r.1 [
          | inl a ↦ absurd (omega arith)
          | inr a ↦
              elim (dec_lt 0 (owners s L)) [
                | yes k ↦ absurd (owners_not_free s k a)
                | no q ↦ elim (dec_lt 0 (count s sys)) [ yes k ↦ absurd (o.system s k a) | no q' ↦ omega arith ]
              ]
        ]

    module _ (g : ℕ → ℕ) (is : (s : ℕ) → s < N → g s ≡ rechain (get_or L i []) ws f s) where
      pub stays : (s : ℕ) → s < N → f s ≢ FREE → count s (get_or L i []) ≡ 0 → g s ≡ f s
      unfolding rechain chained
      stays s h nf z = is s h ∙ chained_out ws (freed (get_or L i []) f) s (untouched s nf z) ∙ freed_out (get_or L i []) f s z

      new_chain : Linked g N ws
      unfolding chained rechain
      new_chain =
          linked_agree (chained ws (freed (get_or L i []) f)) g N ws (λ s q. is s (k.from s q).0)
          (chained_linked ws (freed (get_or L i []) f) N k.diff (λ s q. (k.from s q).0))

      pub owned_rechained : Owned N sys g (set L i ws)
      unfolding rechain chained
      owned_rechained =
          record {
            chains = λ j hj.
                elim (ℕ_discrete j i) [
                  | yes e ↦ rw (e, get_or-set_same L i ws [] hi) new_chain
                  | no q ↦
                      rw (get_or-set_other L i j ws [] q)
                      (let h : j < length L = rw (length-set L i ws) at hj in
                      let c = o.chains j h in
                      linked_agree f g N (get_or L j [])
                      (λ s p.
                      stays s (linked_below f N (get_or L j []) c s p) (linked_not_free f N lim (get_or L j []) c s p)
                      (omega (arith, owners_two s j i L q, o.single s)))
                      c)
                ];
            single = λ s.
                let a = owners_set s i L ws hi in
                let b = owners_at s i L in
                let d = o.single s in
                let e = k.diff s in
                elim (dec_lt 0 (count s ws)) [
                  | yes p ↦
                      elim (dec_lt 0 (count s (get_or L i []))) [
                        | yes k ↦ omega arith
                        | no q ↦ omega (arith, came_free s p (omega arith))
                      ]
                  | no q ↦ omega arith
                ];
            others = λ s h z.
                let a = owners_set s i L ws hi in
                let b' = owners_at s i L in
                let b = chained_out ws (freed (get_or L i []) f) s (omega arith) in
                elim (dec_lt 0 (count s (get_or L i []))) [
                  | yes y ↦ is s h ∙ b ∙ freed_in (get_or L i []) f s y
                  | no q ↦ is s h ∙ b ∙ freed_out (get_or L i []) f s (omega arith) ∙ o.others s h (omega arith)
                ];
            within = o.within;
            system = λ s p e.
                o.system s p (sym (stays s (o.within s p) (o.system s p) (omega (arith, owners_at s i L, o.single s))) ∙ e);
          }
