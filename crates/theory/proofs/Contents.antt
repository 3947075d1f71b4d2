-- What units hold, laid end to end: its length, where a number of it lies, and that units can be given another content.
use mathlib.Core.Path.{◌≡◌, refl, sym, ap, ap₂, ◌∙◌}
use mathlib.Core.Logic.{◌≢◌, inl, inr}
use mathlib.Core.List.{List, [], ◌∷◌, ◌++◌, append_assoc}
use Prim.Native.Nat.{ℕ, zero, suc, ◌+◌, ◌*◌, ◌≤◌, ◌<◌}
use native.Mathlib.Omega.{arith}
use lib.ListN.{length, take, drop, get_or, set, length-append, length-drop, take-append-drop, get_or-append}
use lib.Seq.{set-append_left, get_or-append-add, length-take-le, take_at, drop_at, take-append-le}
use borrow.Author.Tests.{eq-eqb, ne_eqb}
use native.Mathlib.Nat.{not-suc-le-zero, zero-mul, zero-add}
use Rattle.format.specs.Basics.Lists.{bit, count}
use Rattle.format.specs.Layout.Space.{laid}
use Rattle.theory.specs.Blocks.{scatter}
use Rattle.theory.proofs.Counts.{eqb_cases, bit_self, count_at, count_split}
use Rattle.theory.proofs.Sets.{set_append_right}

pub laid_agree : (d e : ℕ → List ℕ) (us : List ℕ) → ((s : ℕ) → 0 < count s us → e s ≡ d s) → laid e us ≡ laid d us
laid_agree d e [] h = refl
laid_agree d e (u ∷ us) h = ap₂ ◌++◌ (h u (omega (arith, bit_self u))) (laid_agree d e us (λ s q. h s (omega arith)))

pub laid_append : (d : ℕ → List ℕ) (us vs : List ℕ) → laid d (us ++ vs) ≡ laid d us ++ laid d vs
laid_append d [] vs = refl
laid_append d (u ∷ us) vs = rw (laid_append d us vs) (sym (append_assoc (d u) (laid d us) (laid d vs)))

module _ (B : ℕ) (d : ℕ → List ℕ) where
  pub laid_length : (us : List ℕ) → ((s : ℕ) → 0 < count s us → length (d s) ≡ B) → length (laid d us) ≡ length us * B
  laid_length [] h = omega arith
  laid_length (u ∷ us) h =
      omega (arith, length-append (d u) (laid d us), laid_length us (λ s q. h s (omega arith)), h u (omega (arith, bit_self u)))

  -- where a number of the content lies
  pub laid_at : (us : List ℕ) → ((s : ℕ) → 0 < count s us → length (d s) ≡ B) → (i j : ℕ) → i < length us → j < B →
      get_or (laid d us) (i * B + j) 0 ≡ get_or (d (get_or us i 0)) j 0
  laid_at [] h i j p q = absurd (omega arith)
  laid_at (u ∷ us) h zero j p q =
      let k = h u (omega (arith, bit_self u)) in
      let e : zero * B + j ≡ j = omega arith in
      rw e (get_or-append (d u) (laid d us) 0 j (omega arith))
  laid_at (u ∷ us) h (suc i) j p q =
      let k = h u (omega (arith, bit_self u)) in
      let e : suc i * B + j ≡ length (d u) + (i * B + j) = omega arith in
      rw e (get_or-append-add (d u) (laid d us) (i * B + j) 0 ∙ laid_at us (λ s l. h s (omega arith)) i j (omega arith) q)

  pub scatter_out : (ws c : List ℕ) (s : ℕ) → count s ws ≡ 0 → scatter B ws c d s ≡ d s
  scatter_out [] c s z = refl
  scatter_out (w ∷ ws) c s z =
      elim (eqb_cases s w) [
        | inl e ↦ absurd (omega (arith, ap bit e.1))
        | inr e ↦ rw e.1 (scatter_out ws (drop B c) s (omega arith))
      ]

  -- the chain has the content that was laid over it
  pub laid_scatter : (ws c : List ℕ) → ((s : ℕ) → count s ws ≤ 1) → length c ≡ length ws * B → laid (scatter B ws c d) ws ≡ c
  laid_scatter [] [] h e = refl
  laid_scatter [] (x ∷ c) h e = absurd (omega arith)
  laid_scatter (w ∷ ws) c h e =
      let r = laid_scatter ws (drop B c) (λ s. omega (arith, h s)) (rw (length-drop B c) (omega arith)) in
      let k =
      laid_agree (scatter B ws (drop B c) d) (scatter B (w ∷ ws) c d) ws
      (λ s q. rw (ne_eqb s w (λ z. omega (arith, h s, ap bit (eq-eqb s w z))))) in
      rw (eq-eqb w w refl) (ap (λ t. take B c ++ t) (k ∙ r) ∙ take-append-drop B c)

  pub length_scatter : (ws c : List ℕ) → length c ≡ length ws * B → (s : ℕ) → length (d s) ≡ B → length (scatter B ws c d s) ≡ B
  length_scatter [] c e s h = h
  length_scatter (w ∷ ws) c e s h =
      elim (eqb_cases s w) [
        | inl k ↦ rw k.1 (length-take-le B c (omega arith))
        | inr k ↦ rw k.1 (length_scatter ws (drop B c) (rw (length-drop B c) (omega arith)) s h)
      ]

  -- its own content laid over a chain changes nothing
  pub scatter_same : (ws : List ℕ) → ((s : ℕ) → 0 < count s ws → length (d s) ≡ B) → (s : ℕ) → scatter B ws (laid d ws) d s ≡ d s
  scatter_same [] h s = refl
  scatter_same (w ∷ ws) h s =
      let k = h w (omega (arith, bit_self w)) in
      elim (eqb_cases s w) [
        | inl e ↦ rw (e.1, take_at (d w) (laid d ws) B k) (ap d (sym e.0))
        | inr e ↦ rw (e.1, drop_at (d w) (laid d ws) B k) (scatter_same ws (λ t q. h t (omega arith)) s)
      ]

  -- the content of a chain's front
  pub laid_take : (us : List ℕ) → ((s : ℕ) → 0 < count s us → length (d s) ≡ B) → (m : ℕ) → m ≤ length us → laid d (take m us) ≡ take (m * B) (laid d us)
  laid_take us h m l =
      let k = laid_length (take m us) (λ s q. h s (omega (arith, count_split s m us))) in
      let e = ap (laid d) (sym (take-append-drop m us)) ∙ laid_append d (take m us) (drop m us) in
      rw e (sym (take_at (laid d (take m us)) (laid d (drop m us)) (m * B) (rw (length-take-le m us l) at k)))

pub scatter_ext : (B : ℕ) (ws c : List ℕ) (d d' : ℕ → List ℕ) (s : ℕ) → (count s ws ≡ 0 → d' s ≡ d s) → scatter B ws c d' s ≡ scatter B ws c d s
scatter_ext B [] c d d' s h = h refl
scatter_ext B (w ∷ ws) c d d' s h =
    elim (eqb_cases s w) [
      | inl e ↦ rw e.1
      | inr e ↦ rw e.1 (scatter_ext B ws (drop B c) d d' s (λ q. h (omega (arith, ap bit e.1))))
    ]

-- one number of one unit's content
pub laid_one : (B : ℕ) (d d' : ℕ → List ℕ) (us : List ℕ) → ((s : ℕ) → count s us ≤ 1) → ((s : ℕ) → 0 < count s us → length (d s) ≡ B)
    → (k j v : ℕ) → k < length us → j < B → d' (get_or us k 0) ≡ set (d (get_or us k 0)) j v
    → ((s : ℕ) → 0 < count s us → s ≢ get_or us k 0 → d' s ≡ d s) → laid d' us ≡ set (laid d us) (k * B + j) v
laid_one B d d' [] o f k j v hk hj here there = absurd (not-suc-le-zero hk)
laid_one B d d' (u ∷ us) o f zero j v hk hj here there =
    let r : laid d' us ≡ laid d us =
    laid_agree d d' us (λ s q. there s (omega arith) (λ e. omega (arith, o s, ap bit (eq-eqb s u e)))) in
    rw (here, r, zero-mul, zero-add) (sym (set-append_left (d u) (laid d us) j v (omega (arith, f u (omega (arith, bit_self u))))))
laid_one B d d' (u ∷ us) o f (suc k) j v hk hj here there =
    let hk' : k < length us = omega arith in
    let n : u ≢ get_or us k 0 = λ q. omega (arith, o (get_or us k 0), ap bit (eq-eqb (get_or us k 0) u (sym q)), count_at us k 0 hk') in
    let r =
    laid_one B d d' us (λ s. omega (arith, o s)) (λ s q. f s (omega arith)) k j v hk' hj here (λ s q. there s (omega arith)) in
    let e : suc k * B + j ≡ length (d u) + (k * B + j) = omega (arith, f u (omega (arith, bit_self u))) in
    rw (there u (omega (arith, bit_self u)) n, r, e) (sym (set_append_right (d u) (laid d us) (k * B + j) v))

-- more units behind a chain do not change its first bytes
pub laid_prefix : (d : ℕ → List ℕ) (B : ℕ) (us ex : List ℕ) (n : ℕ) → ((s : ℕ) → 0 < count s us → length (d s) ≡ B) → n ≤ length us * B
    → take n (laid d (us ++ ex)) ≡ take n (laid d us)
laid_prefix d B us ex n f h =
    ap (take n) (laid_append d us ex) ∙ take-append-le n (laid d us) (laid d ex) (rw (laid_length B d us f) h)
