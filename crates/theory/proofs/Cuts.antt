-- A chain that keeps its front: only the cells behind it are written.
use mathlib.Core.Path.{◌≡◌, refl, sym, ap, ap₂, ◌∙◌}
use mathlib.Core.Logic.{inl, inr}
use mathlib.Core.Bool.{Bool, true, false, cond}
use mathlib.Core.List.{List, [], ◌∷◌, ◌++◌, append_assoc}
use Prim.Native.Nat.{ℕ, zero, suc, ◌-◌, ◌≤◌, ◌<◌}
use native.Mathlib.Omega.{arith}
use native.Mathlib.Decide.{dec_lt}
use lib.Dec.{eqb}
use lib.ListN.{length, take, drop, get_or}
use native.Mathlib.Numerals.{sub-one}
use lib.Seq.{split_at, take-suc, take_all, take-take, get_or-take, drop-cons}
use borrow.Author.Tests.{eq-eqb, ne_eqb}
use Rattle.format.specs.Basics.Lists.{bit, count}
use Rattle.format.specs.Layout.Chain.{END, FREE, start_of}
use Rattle.theory.specs.Links.{Linked, freed, chained, rechain}
use Rattle.theory.proofs.Counts.{eqb_cases, count_append, count_split}
use Rattle.theory.proofs.Chains.{linked_once}
use Rattle.theory.proofs.Relinks.{freed_out, chained_out, chained_ext}

-- ---- what is written of a table when the chain's front stays: the cells of the units that go and those of the units that come

chained_skip : (ks bs : List ℕ) (f : ℕ → ℕ) (s : ℕ) → count s ks ≡ 0 → chained (ks ++ bs) f s ≡ chained bs f s
unfolding chained
chained_skip [] bs f s q = refl
chained_skip (a ∷ ks) bs f s q =
    elim (eqb_cases s a) [
      | inl e ↦ absurd (omega (arith, ap bit e.1))
      | inr e ↦ rw e.1 (chained_skip ks bs f s (omega arith))
    ]

freed_skip : (ks bs : List ℕ) (f : ℕ → ℕ) (s : ℕ) → count s ks ≡ 0 → freed (ks ++ bs) f s ≡ freed bs f s
unfolding freed
freed_skip [] bs f s q = refl
freed_skip (a ∷ ks) bs f s q =
    elim (eqb_cases s a) [
      | inl e ↦ absurd (omega (arith, ap bit e.1))
      | inr e ↦ rw e.1 (freed_skip ks bs f s (omega arith))
    ]

head_seam : (ks bs cs : List ℕ) (l : ℕ) → start_of (ks ++ l ∷ bs) ≡ start_of (ks ++ l ∷ cs)
head_seam [] bs cs l = refl
head_seam (a ∷ ks) bs cs l = refl

-- the front's cells are written as they were
chained_front : (ks rest vs : List ℕ) (l : ℕ) (f g : ℕ → ℕ) (N s : ℕ) → Linked f N (ks ++ l ∷ rest) → 0 < count s ks → chained (ks ++ l ∷ vs) g s ≡ f s
unfolding chained
chained_front [] rest vs l f g N s h q = absurd (omega arith)
chained_front (a ∷ ks) rest vs l f g N s h q =
    elim (eqb_cases s a) [
      | inl e ↦ rw e.1 (head_seam ks vs rest l ∙ sym h.1 ∙ ap f (sym e.0))
      | inr e ↦ rw e.1 (chained_front ks rest vs l f g N s h.2 (omega (arith, ap bit e.1)))
    ]

-- a chain that keeps its front up to l: the cells of the rest become free, and from l on the new units are linked.
-- A shorter chain: no new units. A longer one: no rest
pub rechain_kept_front : (ks rest vs : List ℕ) (l : ℕ) (f : ℕ → ℕ) (N : ℕ) → N ≤ END → Linked f N (ks ++ l ∷ rest) → ((s : ℕ) → count s (ks ++ l ∷ vs) ≤ 1) →
    (s : ℕ) → rechain (ks ++ l ∷ rest) (ks ++ l ∷ vs) f s ≡ chained (l ∷ vs) (freed rest f) s
unfolding rechain chained freed
rechain_kept_front ks rest vs l f N lim h d s =
    let a = count_append s ks (l ∷ rest) in
    let b = count_append s ks (l ∷ vs) in
    let c = linked_once f N lim (ks ++ l ∷ rest) h s in
    let e = d s in
    elim (dec_lt 0 (count s ks)) [
      | yes p ↦
          chained_front ks rest vs l f (freed (ks ++ l ∷ rest) f) N s h p ∙ sym (freed_out rest f s (omega arith))
          ∙ sym (chained_out (l ∷ vs) (freed rest f) s (omega arith))
      | no q ↦
          chained_skip ks (l ∷ vs) (freed (ks ++ l ∷ rest) f) s (omega arith)
          ∙ elim (eqb_cases s l) [
            | inl k ↦ rw k.1
            | inr k ↦
                rw k.1 (chained_ext vs (freed (ks ++ l ∷ rest) f) (freed rest f) s (freed_skip ks (l ∷ rest) f s (omega arith) ∙ rw k.1))
          ]
    ]

-- one more unit at the end, as a loop writes it
pub chained_snoc : (ks : List ℕ) (l x : ℕ) (f : ℕ → ℕ) (s : ℕ) → ((t : ℕ) → count t (ks ++ l ∷ x ∷ []) ≤ 1) →
    chained (ks ++ l ∷ x ∷ []) f s ≡ cond (eqb s x) END (cond (eqb s l) x (chained (ks ++ l ∷ []) f s))
unfolding chained
chained_snoc [] l x f s d =
    elim (eqb_cases s l) [
      | inl e ↦ rw (e.1, ne_eqb s x (λ k. omega (arith, d s, ap bit e.1, ap bit (eq-eqb s x k))))
      | inr e ↦ rw e.1
    ]
chained_snoc (a ∷ ks) l x f s d =
    let r = chained_snoc ks l x f s (λ t. omega (arith, d t)) in
    let o = count_append s ks (l ∷ x ∷ []) in
    elim (eqb_cases s a) [
      | inl e ↦
          rw (
            e.1,
            ne_eqb s x (λ k. omega (arith, d s, ap bit e.1, ap bit (eq-eqb s x k))),
            ne_eqb s l (λ k. omega (arith, d s, ap bit e.1, ap bit (eq-eqb s l k))),
          )
          (head_seam ks (x ∷ []) [] l)
      | inr e ↦ rw e.1 r
    ]

cond_same : (b : Bool) (a : ℕ) → a ≡ cond b a a
cond_same true a = refl
cond_same false a = refl

pub freed_snoc : (us : List ℕ) (x : ℕ) (f : ℕ → ℕ) (s : ℕ) → freed (us ++ x ∷ []) f s ≡ cond (eqb s x) FREE (freed us f s)
unfolding freed
freed_snoc [] x f s = refl
freed_snoc (u ∷ us) x f s = elim (eqb_cases s u) [ inl e ↦ rw e.1 (cond_same (eqb s x) FREE) | inr e ↦ rw e.1 (freed_snoc us x f s) ]

-- ---- shorter and longer

module _ (f : ℕ → ℕ) (N : ℕ) (lim : N ≤ END) (us : List ℕ) (h : Linked f N us) where
  -- shorter: the new last cell is an end, and the cells of the units after it are free
  pub rechain_shorter : (j : ℕ) → j < length us → (s : ℕ) → rechain us (take (suc j) us) f s ≡ cond (eqb s (get_or us j 0)) END (freed (drop (suc j) us) f s)
  unfolding chained
  rechain_shorter j l s =
      ap₂ (λ a b. rechain a b f s) (split_at us j 0 l) (take-suc us j 0 l)
      ∙ rechain_kept_front (take j us) (drop (suc j) us) [] (get_or us j 0) f N lim (rw (← (split_at us j 0 l)) h)
      (λ t. rw (← (take-suc us j 0 l)) (omega (arith, count_split t (suc j) us, linked_once f N lim us h t)))
      s

  -- longer: from the old last cell on the new units are linked
  pub rechain_longer : (j : ℕ) (vs : List ℕ) → suc j ≡ length us → ((s : ℕ) → count s (us ++ vs) ≤ 1) → (s : ℕ) → rechain us (us ++ vs) f s ≡ chained (get_or us j 0 ∷ vs) f s
  unfolding freed
  rechain_longer j vs e d s =
      let l : j < length us = omega arith in
      let p : us ≡ take j us ++ get_or us j 0 ∷ [] = sym (take_all (suc j) us (omega arith)) ∙ take-suc us j 0 l in
      let q : us ++ vs ≡ take j us ++ get_or us j 0 ∷ vs = ap (λ a. a ++ vs) p ∙ append_assoc (take j us) (get_or us j 0 ∷ []) vs in
      ap₂ (λ a b. rechain a b f s) p q
      ∙ rechain_kept_front (take j us) [] vs (get_or us j 0) f N lim (rw (← p) h) (λ t. rw (← q) (d t)) s

-- ---- writing only what changes

-- Where two lists begin with the same k units, freeing what the old one has behind them and chaining the new one from the last of them on
-- is all there is to write.
module _ (old new : List ℕ) (f : ℕ → ℕ) (N : ℕ) (lim : N ≤ END) (h : Linked f N old) (d : (s : ℕ) → count s new ≤ 1) where
  pub rechain_changes : (k : ℕ) → k ≤ length old → k ≤ length new → take k old ≡ take k new → (s : ℕ)
      → chained (drop (k - 1) new) (freed (drop k old) f) s ≡ rechain old new f s
  unfolding rechain
  rechain_changes zero a b e s = refl
  rechain_changes (suc j) a b e s =
      let p = split_at old j 0 a in
      let q = split_at new j 0 b in
      let front : take j old ≡ take j new = sym (take-take j (suc j) old (omega arith)) ∙ ap (take j) e ∙ take-take j (suc j) new (omega arith) in
      let last : get_or old j 0 ≡ get_or new j 0 = sym (get_or-take (suc j) old j 0 (omega arith)) ∙ ap (λ l. get_or l j 0) e ∙ get_or-take (suc j) new j 0 (omega arith) in
      let o : old ≡ take j new ++ get_or new j 0 ∷ drop (suc j) old = p ∙ ap₂ (λ ks l. ks ++ l ∷ drop (suc j) old) front last in
      let c : drop (suc j - 1) new ≡ get_or new j 0 ∷ drop (suc j) new = ap (λ n. drop n new) (sub-one (suc j)) ∙ drop-cons new j 0 b in
      ap (λ l. chained l (freed (drop (suc j) old) f) s) c
      ∙ sym (ap₂ (λ a b. rechain a b f s) o q
      ∙ rechain_kept_front (take j new) (drop (suc j) old) (drop (suc j) new) (get_or new j 0) f N lim (rw (← o) h) (λ t. rw (← q) (d t)) s)
