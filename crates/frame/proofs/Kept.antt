-- What is read where nothing was written.
use mathlib.Core.Path.{◌≡◌, refl, ap, ◌∙◌, subst}
use mathlib.Core.Logic.{◌≢◌}
use Prim.Native.Nat.{ℕ, ◌+◌, ◌*◌, ◌≤◌, ◌<◌}
use native.Mathlib.Nat.{mul-le-mul_right, add_assoc}
use native.Mathlib.Decide.{dec_lt}
use native.Mathlib.Omega.{arith}
use lib.ListN.{length, get_or}
use lib.Seq.{sets, length-sets}
use Rattle.format.specs.Basics.Bytes.{Bytes, part, number}
use Rattle.format.specs.Layout.Geometry.{Geometry, sector_place}
use Rattle.theory.proofs.Sets.{get_or_sets_out}
use Rattle.frame.specs.Kept.{Where, Kept}
use Rattle.theory.proofs.Bytes.{number_same, part_same}

-- two different units do not meet
pub apart : (U u w : ℕ) → u < w → u * U + U ≤ w * U
apart U u w h = omega (arith, mul-le-mul_right U h)

-- a byte of a sector is one of one sector alone, and none of the header
pub place_eq : (g : Geometry) (s t j k : ℕ) → j < g.sector_bytes → k < g.sector_bytes → sector_place g s + j ≡ sector_place g t + k → (s ≡ t) × (j ≡ k)
unfolding sector_place
place_eq g s t j k hj hk e = go (dec_lt s t) (dec_lt t s)
  where
    go : Dec (s < t) → Dec (t < s) → (s ≡ t) × (j ≡ k)
    go (yes a) b = absurd (omega (arith, apart g.sector_bytes s t a))
    go (no a) (yes b) = absurd (omega (arith, apart g.sector_bytes t s b))
    go (no a) (no b) = let q : s ≡ t = omega arith in (q, omega (arith, ap (λ (x : ℕ). x * g.sector_bytes) q))

pub place_head : (g : Geometry) (s j k : ℕ) → k < g.sector_bytes → k ≢ sector_place g s + j
unfolding sector_place
place_head g s j k h e = omega arith

-- a byte of a sector below N lies in the image
pub place_in_lem : (g : Geometry) (n s k : ℕ) → s < n → k ≤ g.sector_bytes → sector_place g s + k ≤ (n + 1) * g.sector_bytes
unfolding sector_place
place_in_lem g n s k h hk = omega (arith, mul-le-mul_right g.sector_bytes h)

pub kept_refl : (g : Geometry) (P : Where) (a : Bytes) → Kept g P a a
kept_refl g P a = record { size = refl; head = λ k h. refl; body = λ s k h p. refl }

pub kept_trans : (g : Geometry) (P : Where) (a b c : Bytes) → Kept g P a b → Kept g P b c → Kept g P a c
kept_trans g P a b c x y =
    record {
      size = y.size ∙ x.size;
      head = λ k h. y.head k h ∙ x.head k h;
      body = λ s k h p. y.body s k h p ∙ x.body s k h p;
    }

pub kept_sub : (g : Geometry) (P Q : Where) (a b : Bytes) → ((s k : ℕ) → k < g.sector_bytes → Q s k → P s k) → Kept g P a b → Kept g Q a b
kept_sub g P Q a b f x = record { size = x.size; head = x.head; body = λ s k h q. x.body s k h (f s k h q) }

-- a run put into a sector
pub kept_sets : (g : Geometry) (P : Where) (a : Bytes) (t j : ℕ) (vs : Bytes) → j + length vs ≤ g.sector_bytes
    → ((k : ℕ) → j ≤ k → k < j + length vs → P t k → ⊥) → Kept g P a (sets a (sector_place g t + j) vs)
kept_sets g P a t j vs fits off =
    record {
      size = length-sets a (sector_place g t + j) vs;
      head = λ k h. get_or_sets_out a (sector_place g t + j) vs k 0 (λ m l e. place_head g t (j + m) k h (e ∙ add_assoc (sector_place g t) j m));
      body = λ s k h p. get_or_sets_out a (sector_place g t + j) vs (sector_place g s + k) 0
          (λ m l e.
          let q = place_eq g s t k (j + m) h (omega arith) (e ∙ add_assoc (sector_place g t) j m) in
          off (j + m) (omega arith) (omega arith) (subst (λ (x : ℕ). P t x) q.1 (subst (λ (x : ℕ). P x k) q.0 p)));
    }

-- ---- reading

module _ (g : Geometry) (P : Where) (a b : Bytes) (x : Kept g P a b) where
  pub number_head : (k n : ℕ) → k + n ≤ g.sector_bytes → number (part b k n) ≡ number (part a k n)
  number_head k n h = number_same b a k k n (λ i l. x.head (k + i) (omega arith))

  pub part_head : (k n : ℕ) → k + n ≤ g.sector_bytes → part b k n ≡ part a k n
  part_head k n h = part_same b a k n x.size (λ i l. x.head (k + i) (omega arith))

  byte_body : (s k n : ℕ) → k + n ≤ g.sector_bytes → ((i : ℕ) → i < n → P s (k + i))
      → (i : ℕ) → i < n → get_or b (sector_place g s + k + i) 0 ≡ get_or a (sector_place g s + k + i) 0
  byte_body s k n h p i l = rw (add_assoc (sector_place g s) k i) (x.body s (k + i) (omega arith) (p i l))

  pub number_body : (s k n : ℕ) → k + n ≤ g.sector_bytes → ((i : ℕ) → i < n → P s (k + i))
      → number (part b (sector_place g s + k) n) ≡ number (part a (sector_place g s + k) n)
  number_body s k n h p = number_same b a (sector_place g s + k) (sector_place g s + k) n (byte_body s k n h p)

  pub part_body : (s k n : ℕ) → k + n ≤ g.sector_bytes → ((i : ℕ) → i < n → P s (k + i))
      → part b (sector_place g s + k) n ≡ part a (sector_place g s + k) n
  part_body s k n h p = part_same b a (sector_place g s + k) n x.size (byte_body s k n h p)
