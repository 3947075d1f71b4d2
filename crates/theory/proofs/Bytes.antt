-- Numbers in bytes: by their bytes, where nothing was written, and read back.
use mathlib.Core.Path.{◌≡◌, refl, sym, ap, ◌∙◌}
use mathlib.Core.List.{[], ◌∷◌, ◌++◌}
use Prim.Native.Nat.{ℕ, zero, suc, ◌+◌, ◌-◌, ◌*◌, ◌/◌, ◌%◌, ◌≤◌, ◌<◌}
use native.Mathlib.Nat.{div-div-eq-div-mul, div-add-mod', mod-eq_of_lt, add-suc, suc-add, zero-add, add-zero, add_assoc, mul-add-mod_self_right}
use native.Mathlib.Numerals.{add-one}
use native.Mathlib.Omega.{arith}
use lib.Arith.{mod-mul}
use lib.ListN.{length, get_or, set, take, drop, length-take, length-drop}
use lib.Seq.{sets, get_or-take, get_or-drop, ext_get_or, take-nil, drop-nil, take-length}
use Rattle.format.specs.Basics.Bytes.{Bytes, part, number, u16at, u32at, u64at, le16, le32, le64, put_bytes, put16, put32, put64}
use Rattle.theory.proofs.Sets.{get_or_sets_in}

pub number_cons : (b : Bytes) (i n : ℕ) → number (part b i (suc n)) ≡ get_or b i 0 + 256 * number (part b (suc i) n)
unfolding number part
number_cons [] i n = rw (drop-nil i, take-nil n)
number_cons (x ∷ xs) zero n = refl
number_cons (x ∷ xs) (suc i) n = number_cons xs i n

-- a number is known by its bytes
pub number_same : (a b : Bytes) (p q n : ℕ) → ((i : ℕ) → i < n → get_or a (p + i) 0 ≡ get_or b (q + i) 0) → number (part a p n) ≡ number (part b q n)
unfolding part
number_same a b p q zero h = refl
number_same a b p q (suc n) h =
    let z : get_or a p 0 ≡ get_or b q 0 = simp add-zero at (h 0 (omega arith)) in
    let r = number_same a b (suc p) (suc q) n (λ i l. rw (suc-add, suc-add, ← add-suc, ← add-suc) (h (suc i) (omega arith))) in
    number_cons a p n ∙ (omega (arith, z, r)) ∙ sym (number_cons b q n)

pub part_same : (a b : Bytes) (p n : ℕ) → length a ≡ length b → ((i : ℕ) → i < n → get_or a (p + i) 0 ≡ get_or b (p + i) 0) → part a p n ≡ part b p n
unfolding part
part_same a b p n e h =
    ext_get_or 0 (take n (drop p a)) (take n (drop p b))
    (length-take n (drop p a) ∙ ap (λ (x : ℕ). Prim.Native.Nat.min n x) (length-drop p a ∙ ap (λ (x : ℕ). x - p) e ∙ sym (length-drop p b)) ∙ sym (length-take n (drop p b)))
    (λ i l. let k : i < n = omega (arith, length-take n (drop p a)) in
    get_or-take n (drop p a) i 0 k ∙ get_or-drop p a i 0 ∙ h i k ∙ sym (get_or-take n (drop p b) i 0 k ∙ get_or-drop p b i 0))

-- what was put is read back
pub number_put : (b : Bytes) (p : ℕ) (vs : Bytes) → p + length vs ≤ length b → number (part (sets b p vs) p (length vs)) ≡ number vs
unfolding part
number_put b p vs h =
    number_same (sets b p vs) vs p 0 (length vs) (λ i l. rw zero-add (get_or_sets_in b p vs i 0 l h))
    ∙ ap number (take-length vs)

pub number_le32 : (v : ℕ) → number (le32 v) ≡ v % 4294967296
unfolding number le32 le16
number_le32 v =
    let a : v % 65536 ≡ v / 256 % 256 * 256 + v % 256 = mod-mul v {m = 256} {c = 256} (omega arith) (omega arith) in
    let b : v % 16777216 ≡ v / 65536 % 256 * 65536 + v % 65536 = mod-mul v {m = 256} {c = 65536} (omega arith) (omega arith) in
    let c : v % 4294967296 ≡ v / 16777216 % 256 * 16777216 + v % 16777216 = mod-mul v {m = 256} {c = 16777216} (omega arith) (omega arith) in
    let d : v / 65536 / 256 ≡ v / 16777216 = div-div-eq-div-mul v 65536 256 in
    rw d (omega (arith, a, b, c))

pub number_append : (xs ys : Bytes) → length xs ≡ 4 → number (xs ++ ys) ≡ number xs + 4294967296 * number ys
unfolding number
number_append [] ys e = absurd (omega arith)
number_append (a ∷ []) ys e = absurd (omega arith)
number_append (a ∷ b ∷ []) ys e = absurd (omega arith)
number_append (a ∷ b ∷ c ∷ []) ys e = absurd (omega arith)
number_append (a ∷ b ∷ c ∷ d ∷ []) ys e = omega arith
number_append (a ∷ b ∷ c ∷ d ∷ x ∷ xs) ys e = absurd (omega arith)

pub length_le32 : (v : ℕ) → length (le32 v) ≡ 4
unfolding le32 le16
length_le32 v = refl

pub length_le64 : (v : ℕ) → length (le64 v) ≡ 8
unfolding le64 le32 le16
length_le64 v = refl

pub number_le64 : (v : ℕ) → v < 18446744073709551616 → number (le64 v) ≡ v
unfolding le64
number_le64 v h =
    let e = number_le32 v in
    let f = number_le32 (v / 4294967296) in
    let q : v / 4294967296 < 4294967296 = omega arith in
    let r : v / 4294967296 % 4294967296 ≡ v / 4294967296 = mod-eq_of_lt q in
    number_append (le32 v) (le32 (v / 4294967296)) (length_le32 v) ∙ omega (arith, e, f, r, div-add-mod' v 4294967296)

pub u32_put : (b : Bytes) (p v : ℕ) → p + 4 ≤ length b → v < 4294967296 → u32at (put32 b p v) p ≡ v
unfolding u32at put32 put_bytes le32 le16
u32_put b p v h l = number_put b p (le32 v) h ∙ number_le32 v ∙ mod-eq_of_lt l

pub u64_put : (b : Bytes) (p v : ℕ) → p + 8 ≤ length b → v < 18446744073709551616 → u64at (put64 b p v) p ≡ v
unfolding u64at put64 put_bytes le64 le32 le16
u64_put b p v h l = number_put b p (le64 v) h ∙ number_le64 v l

-- ---- as code reads and writes them, byte by byte

number_none : (b : Bytes) (i : ℕ) → number (part b i 0) ≡ 0
unfolding number part
number_none b i = refl

number_next : (b : Bytes) (i n : ℕ) → number (part b i (suc n)) ≡ get_or b i 0 + 256 * number (part b (i + 1) n)
number_next b i n = rw add-one (number_cons b i n)

pub u16_bytes : (b : Bytes) (o : ℕ) → u16at b o ≡ get_or b o 0 + 256 * get_or b (o + 1) 0
unfolding u16at
u16_bytes b o = rw (number_next b o 1, number_next b (o + 1) 0, number_none) (omega arith)

pub u32_bytes : (b : Bytes) (o : ℕ) → u32at b o ≡ get_or b o 0 + 256 * get_or b (o + 1) 0 + 65536 * get_or b (o + 2) 0 + 16777216 * get_or b (o + 3) 0
unfolding u32at
u32_bytes b o =
    rw (number_next b o 3, number_next b (o + 1) 2, number_next b (o + 1 + 1) 1, number_next b (o + 1 + 1 + 1) 0, number_none)
    (simp add_assoc (omega arith))

pub u64_halves : (b : Bytes) (o : ℕ) → u64at b o ≡ u32at b o + 4294967296 * u32at b (o + 4)
unfolding u64at u32at
u64_halves b o =
    rw (
      number_next b o 7,
      number_next b (o + 1) 6,
      number_next b (o + 1 + 1) 5,
      number_next b (o + 1 + 1 + 1) 4,
      number_next b o 3,
      number_next b (o + 1) 2,
      number_next b (o + 1 + 1) 1,
      number_next b (o + 1 + 1 + 1) 0,
      number_none,
    )
    (simp add_assoc (omega arith))

pub u32_lt : (b : Bytes) (o : ℕ) → ((i : ℕ) → get_or b i 0 < 256) → u32at b o < 4294967296
u32_lt b o h = omega (arith, u32_bytes b o, h o, h (o + 1), h (o + 2), h (o + 3))

pub put16_sets : (b : Bytes) (o v : ℕ) → put16 b o v ≡ set (set b o (v % 256)) (o + 1) (v / 256 % 256)
unfolding put16 put_bytes le16
put16_sets b o v = let a : suc o ≡ o + 1 = omega arith in rw (← a)

pub put32_sets : (b : Bytes) (o v : ℕ)
    → put32 b o v ≡ set (set (set (set b o (v % 256)) (o + 1) (v / 256 % 256)) (o + 2) (v / 65536 % 256)) (o + 3) (v / 16777216 % 256)
unfolding put32 put_bytes le32 le16
put32_sets b o v =
    let a : suc o ≡ o + 1 = omega arith in
    let c : suc (suc o) ≡ o + 2 = omega arith in
    let d : suc (suc (suc o)) ≡ o + 3 = omega arith in
    rw (← a, ← c, ← d, div-div-eq-div-mul)

-- a byte of the low half
low_byte : (v k m : ℕ) → v / k ≡ v / 4294967296 * m * 256 + v % 4294967296 / k → v % 4294967296 / k % 256 ≡ v / k % 256
low_byte v k m h = rw (h, mul-add-mod_self_right)

pub put64_halves : (b : Bytes) (o v : ℕ) → put64 b o v ≡ put32 (put32 b o (v % 4294967296)) (o + 4) (v / 4294967296)
unfolding put64 put32 put_bytes le64 le32 le16
put64_halves b o v =
    let e0 : v % 4294967296 % 256 ≡ v % 256 = omega arith in
    let e1 = low_byte v 256 65536 (omega arith) in
    let e2 = low_byte v 65536 256 (omega arith) in
    let e3 = low_byte v 16777216 1 (omega arith) in
    let a : o + 4 ≡ suc (suc (suc (suc o))) = omega arith in
    simp (a, add_assoc, div-div-eq-div-mul, e0, e1, e2, e3)
