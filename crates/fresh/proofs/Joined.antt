-- Blocks of one length, laid end to end: a part that lies in one block.
use Prim.Native.Nat.{ℕ, zero, suc, ◌+◌, ◌*◌, ◌≤◌, ◌<◌}
use mathlib.Core.Path.{◌≡◌, sym, ap, ◌∙◌}
use mathlib.Core.List.{◌++◌}
use native.Mathlib.Nat.{mod-eq_of_lt, mul-le-mul_right}
use native.Mathlib.Omega.{arith}
use native.Mathlib.Decide.{ℕ_discrete}
use lib.ListN.{length, take, drop, length-append, length-drop}
use lib.Seq.{take-append-le, drop-append-le, drop-append-add, take-length}
use Rattle.format.specs.Basics.Lists.{join_below}
use Rattle.format.specs.Basics.Bytes.{Bytes, part, number, u32at, le32}
use Rattle.theory.proofs.Bytes.{number_le32, length_le32}
use Rattle.format.specs.Fresh.Header.{bytes_at, numbers_below}

-- ---- two lists

pub part_front : (xs ys : Bytes) (k c : ℕ) → k + c ≤ length xs → part (xs ++ ys) k c ≡ part xs k c
unfolding part
part_front xs ys k c h =
    rw (drop-append-le k xs ys (omega arith)) (take-append-le c (drop k xs) ys (omega (arith, length-drop k xs)))

pub part_back : (xs ys : Bytes) (n k c : ℕ) → length xs ≡ n → part (xs ++ ys) (n + k) c ≡ part ys k c
unfolding part
part_back xs ys n k c e = rw (← e) (ap (take c) (drop-append-add xs ys k))

-- ---- many

module _ (w : ℕ) (f : ℕ → Bytes) where
  pub length_join : (n : ℕ) → ((i : ℕ) → i < n → length (f i) ≡ w) → length (join_below n f) ≡ n * w
  unfolding join_below
  length_join zero h = omega arith
  length_join (suc n) h =
      let r = length_join n (λ i l. h i (omega arith)) in
      omega (arith, length-append (join_below n f) (f n), r, h n (omega arith))

  pub part_join : (n : ℕ) → ((i : ℕ) → i < n → length (f i) ≡ w) → (i k c : ℕ) → i < n → k + c ≤ w
      → part (join_below n f) (i * w + k) c ≡ part (f i) k c
  unfolding join_below
  part_join zero h i k c l q = absurd (omega arith)
  part_join (suc n) h i k c l q =
      let e = length_join n (λ i l. h i (omega arith)) in
      elim (ℕ_discrete i n) [
        | yes z ↦ rw z (part_back (join_below n f) (f n) (n * w) k c e)
        | no z ↦
            let less : suc i ≤ n = omega arith in
            part_front (join_below n f) (f n) (i * w + k) c (omega (arith, e, mul-le-mul_right w less))
            ∙ part_join n (λ i l. h i (omega arith)) i k c (omega arith) q
      ]

-- ---- numbers of 32 bits

pub length_numbers : (n : ℕ) (f : ℕ → ℕ) → length (numbers_below n f) ≡ n * 4
unfolding numbers_below
length_numbers n f = length_join 4 (bytes_at f) n (λ i l. length_le32 (f i))

pub number_at : (n : ℕ) (f : ℕ → ℕ) (i : ℕ) → i < n → f i < 4294967296 → u32at (numbers_below n f) (4 * i) ≡ f i
unfolding numbers_below u32at part
number_at n f i l h =
    let a : 4 * i ≡ i * 4 + 0 = omega arith in
    rw a (ap number (part_join 4 (bytes_at f) n (λ i l. length_le32 (f i)) i 0 4 l (omega arith)
    ∙ ap (λ n. take n (le32 (f i))) (sym (length_le32 (f i))) ∙ take-length (le32 (f i)))
    ∙ number_le32 (f i) ∙ mod-eq_of_lt h)
