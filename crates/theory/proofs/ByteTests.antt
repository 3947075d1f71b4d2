-- Tests on bytes as tests on the numbers that they make, and parts of a list of bytes.
use mathlib.Core.Path.{◌≡◌, refl, sym, ◌∙◌, ap}
use mathlib.Core.Logic.{inl, inr}
use mathlib.Core.Bool.{◌&&◌}
use mathlib.Core.List.{[], ◌∷◌}
use Prim.Native.Nat.{ℕ, suc, ◌+◌, ◌*◌, ◌≤◌, ◌<◌}
use native.Mathlib.Omega.{arith}
use native.Mathlib.Decide.{dec_lt}
use lib.Dec.{eqb}
use lib.ListN.{length, get_or, take, drop, length-drop, length-take, get_or-eq_default}
use lib.Seq.{take-add, drop-drop, get_or-take, get_or-drop, length-take-le}
use borrow.Author.Tests.{eq-eqb, ne_eqb}
use Rattle.format.specs.Basics.Lists.{all, equal}
use Rattle.format.specs.Basics.Bytes.{Bytes, is_zero, all_zero, number, part}
use Rattle.theory.proofs.Counts.{eqb_cases}
use Rattle.theory.proofs.Sets.{sub_take}
use Rattle.theory.proofs.Tests.{all_append}

-- bytes are all zero exactly if they make the number 0
pub zero_number : (xs : Bytes) → all_zero xs ≡ eqb (number xs) 0
unfolding all_zero all is_zero number
zero_number [] = refl
zero_number (x ∷ xs) =
    rw (zero_number xs)
    (elim (eqb_cases x 0) [
      | inl a ↦
          elim (eqb_cases (number xs) 0) [
            | inl b ↦ rw (a.1, b.1) (sym (eq-eqb (x + 256 * number xs) 0 (omega arith)))
            | inr b ↦ rw (a.1, b.1) (sym (ne_eqb (x + 256 * number xs) 0 (λ z. b.0 (omega arith))))
          ]
      | inr a ↦ rw a.1 (sym (ne_eqb (x + 256 * number xs) 0 (λ z. a.0 (omega arith))))
    ])

pub zero_split : (b : Bytes) (i n m : ℕ) → all_zero (part b i (n + m)) ≡ (all_zero (part b i n) && all_zero (part b (i + n) m))
unfolding all_zero part
zero_split b i n m = rw (take-add, drop-drop) (all_append is_zero (take n (drop i b)) (take m (drop (i + n) b)))

-- numbers below 256, and no others
pub record Octets (xs : Bytes) : Type 0 where
  pub byte : (i : ℕ) → get_or xs i 0 < 256

octets_tail : {x : ℕ} {xs : Bytes} → Octets (x ∷ xs) → Octets xs
octets_tail h = record { byte = λ i. h.byte (suc i) }

-- two runs of bytes of one length are equal exactly if their numbers are
pub equal_number : (xs ys : Bytes) → length xs ≡ length ys → Octets xs → Octets ys → equal xs ys ≡ eqb (number xs) (number ys)
unfolding equal number
equal_number [] [] l p q = refl
equal_number [] (y ∷ ys) l p q = absurd (omega arith)
equal_number (x ∷ xs) [] l p q = absurd (omega arith)
equal_number (x ∷ xs) (y ∷ ys) l p q =
    let a = p.byte 0 in
    let b = q.byte 0 in
    rw (equal_number xs ys (omega arith) (octets_tail p) (octets_tail q))
    (elim (eqb_cases x y) [
      | inl e ↦
          elim (eqb_cases (number xs) (number ys)) [
            | inl d ↦ rw (e.1, d.1) (sym (eq-eqb (x + 256 * number xs) (y + 256 * number ys) (omega arith)))
            | inr d ↦ rw (e.1, d.1) (sym (ne_eqb (x + 256 * number xs) (y + 256 * number ys) (λ z. d.0 (omega arith))))
          ]
      | inr e ↦ rw e.1 (sym (ne_eqb (x + 256 * number xs) (y + 256 * number ys) (λ z. e.0 (omega arith))))
    ])

pub octets_part : (b : Bytes) (i n : ℕ) → ((j : ℕ) → get_or b j 0 < 256) → Octets (part b i n)
unfolding part
octets_part b i n h =
    record {
      byte = λ j.
          elim (dec_lt j n) [
            | yes l ↦ rw (get_or-take n (drop i b) j 0 l, get_or-drop) (h (i + j))
            | no l ↦ rw (get_or-eq_default (take n (drop i b)) 0 {n = j} (omega (arith, length-take n (drop i b)))) (omega arith)
          ];
    }

pub part_part : (b : Bytes) (p m o n : ℕ) → o + n ≤ m → part (part b p m) o n ≡ part b (p + o) n
unfolding part
part_part b p m o n h = sub_take n o m (drop p b) h ∙ ap (take n) (drop-drop o p b)

pub length_part : (b : Bytes) (i n : ℕ) → i + n ≤ length b → length (part b i n) ≡ n
unfolding part
length_part b i n h = length-take-le n (drop i b) (rw length-drop (omega arith))
