-- An entry of 128 bytes as the writes build it up: zeros, then field by field.
use mathlib.Core.Path.{◌≡◌, refl, sym, ap, ◌∙◌}
use mathlib.Core.List.{[], ◌∷◌, ◌++◌, append_assoc}
use Prim.Native.Nat.{ℕ, zero, suc, ◌+◌, ◌-◌, ◌*◌, ◌≤◌, ◌<◌}
use native.Mathlib.Omega.{arith}
use native.Mathlib.Numerals.{add-one}
use lib.ListN.{length, take, drop, get_or, replicate, length-replicate, length-drop, drop_of_length-le}
use lib.Seq.{sets, sets-eq, length-sets, length-take-le, take_all, drop-cons}
use Rattle.format.specs.Basics.Lists.{fit}
use Rattle.format.specs.Basics.Bytes.{Bytes, le16, le32, le64, put_bytes, put16, put32, put64}
use Rattle.format.specs.Layout.Name.{Name}
use Rattle.format.specs.Layout.Entry.{Field, left_field, child_field, right_field, field_byte}
use Rattle.format.specs.Layout.NewEntry.{no_links, blank_entry, utf16_bytes, entry_rest, new_entry}
use Rattle.theory.proofs.Sets.{sets_append_left, sets_append_right, lent_back}
use Rattle.theory.proofs.Fits.{length_fit}
use Rattle.frame.proofs.MadeEntries.{units_long, blank_long}

-- ---- a put within what was put

-- what is put into a part that stands there is put into that part
pub put_within : (b xs ys : Bytes) (p k : ℕ) → p + length xs ≤ length b → k + length ys ≤ length xs → sets (sets b p xs) (p + k) ys ≡ sets b p (sets xs k ys)
put_within b xs ys p k h l =
    let t = length-take-le p b (omega arith) in
    let s = length-sets xs k ys in
    let r = drop (p + length xs) b in
    ap (λ (c : Bytes). sets c (p + k) ys) (sets-eq xs b p h ∙ append_assoc (take p b) xs r)
    ∙ ap (λ (i : ℕ). sets (take p b ++ (xs ++ r)) (i + k) ys) (sym t)
    ∙ sets_append_right (take p b) (xs ++ r) k ys
    ∙ ap (λ (c : Bytes). take p b ++ c) (sets_append_left xs r k ys l)
    ∙ sym (sets-eq (sets xs k ys) b p (omega arith) ∙ append_assoc (take p b) (sets xs k ys) (drop (p + length (sets xs k ys)) b)
    ∙ ap (λ (i : ℕ). take p b ++ (sets xs k ys ++ drop (p + i) b)) s)

-- ---- the links

pub link_inside : (k : Field) → field_byte k ≤ 76
link_inside left_field = omega arith
link_inside child_field = omega arith
link_inside right_field = omega arith

pub three_links : (b : Bytes) (p : ℕ) → put32 (put32 (put32 b (p + 68) 0xFFFF_FFFF) (p + 72) 0xFFFF_FFFF) (p + 76) 0xFFFF_FFFF ≡ put_bytes b (p + 68) no_links
unfolding put32 put_bytes no_links le32 le16
three_links b p =
    let f : p + 72 ≡ suc (suc (suc (suc (p + 68)))) = omega arith in
    let g : p + 76 ≡ suc (suc (suc (suc (suc (suc (suc (suc (p + 68)))))))) = omega arith in
    rw (f, g)

-- ---- the blank entry

pub blank_built : (b : Bytes) (p : ℕ) → p + 128 ≤ length b → put_bytes (sets b p (replicate 128 0)) (p + 68) no_links ≡ put_bytes b p blank_entry
unfolding put_bytes blank_entry no_links le32 le16
blank_built b p h = put_within b (replicate 128 0) no_links p 68 h (omega arith)

-- the zeros come by a part that is lent
pub blank_lent : (b : Bytes) (p : ℕ) (x : Bytes) → p + 128 ≤ length b → x ≡ replicate (length (take (p + 128 - p) (drop p b))) 0
    → put_bytes (take p b ++ (x ++ drop (p + 128 - p) (drop p b))) (p + 68) no_links ≡ put_bytes b p blank_entry
blank_lent b p x h e =
    let n : p + 128 - p ≡ 128 = omega arith in
    let l : length (take (p + 128 - p) (drop p b)) ≡ 128 = length-take-le (p + 128 - p) (drop p b) (omega (arith, length-drop p b)) ∙ n in
    let z : Bytes = replicate 128 0 in
    rw (e, l) (ap (λ (c : Bytes). put_bytes c (p + 68) no_links) (lent_back b z p (p + 128) (omega (arith, length-replicate {A = ℕ} 128 0)) h) ∙ blank_built b p h)

-- ---- the units of a name, one after the other: those from unit i on are left

pub record Units (b₀ : Bytes) (p : ℕ) (n : Name) (b : Bytes) (i : ℕ) : Type 0 where
  pub long : length b ≡ length b₀
  pub rest : put_bytes b₀ p (utf16_bytes n) ≡ put_bytes b (p + 2 * i) (utf16_bytes (drop i n))

module _ {b₀ : Bytes} {p : ℕ} {n : Name} {b : Bytes} {i : ℕ} (u : Units b₀ p n b i) where
  pub units_step : i < length n → Units b₀ p n (put16 b (p + 2 * i) (get_or n i 0)) (i + 1)
  unfolding put_bytes put16 utf16_bytes le16
  units_step h = record {
    long = length-sets b (p + 2 * i) (le16 (get_or n i 0)) ∙ u.long;
    rest =
        let e : p + 2 * (i + 1) ≡ suc (suc (p + 2 * i)) = omega arith in
        u.rest ∙ rw (e, add-one, drop-cons n i 0 h);
  }

  pub units_end : length n ≤ i → b ≡ put_bytes b₀ p (utf16_bytes n)
  unfolding put_bytes utf16_bytes
  units_end h = sym (u.rest ∙ rw (drop_of_length-le n {i = i} h))

-- ---- a new entry

drop_zeros : (m k : ℕ) → drop {A = ℕ} k (replicate m 0) ≡ replicate (m - k) 0
drop_zeros m zero = let e : m - 0 ≡ m = omega arith in rw e
drop_zeros zero (suc k) = let e : 0 - suc k ≡ 0 = omega arith in rw e
drop_zeros (suc m) (suc k) = let e : suc m - suc k ≡ m - k = omega arith in rw e (drop_zeros m k)

-- the 64 bytes of the name
name_built : (n : Name) → length n ≤ 31 → sets (replicate 64 0) 0 (utf16_bytes n) ≡ fit 64 (utf16_bytes n)
unfolding fit
name_built n h =
    let l = units_long n in
    let u = utf16_bytes n in
    let z : Bytes = replicate 64 0 in
    let k : 0 + length u ≡ length u = omega arith in
    sets-eq u z 0 (omega (arith, l, length-replicate {A = ℕ} 64 0))
    ∙ rw (take_all 64 u (omega (arith, l)), k) (ap (λ (r : Bytes). u ++ r) (drop_zeros 64 (length u)))

-- what comes behind them
blank_rest : Bytes
blank_rest = replicate 4 0 ++ (no_links ++ replicate 48 0)

rest_built : (m k s z : ℕ) → sets (sets (sets (sets (sets blank_rest 0 (le16 m)) 2 (k ∷ [])) 3 (1 ∷ [])) 52 (le32 s)) 56 (le64 z) ≡ entry_rest m k s z
unfolding blank_rest entry_rest no_links le16 le32 le64
rest_built m k s z = refl

blank_parts : blank_entry ≡ replicate 64 0 ++ blank_rest
unfolding blank_rest blank_entry no_links le16 le32
blank_parts = refl

behind : (a t ys : Bytes) (j : ℕ) → length a ≡ 64 → sets (a ++ t) (64 + j) ys ≡ a ++ sets t j ys
behind a t ys j q = ap (λ (i : ℕ). sets (a ++ t) (i + j) ys) (sym q) ∙ sets_append_right a t j ys

-- an entry of which the name stands: what comes behind is put there
rest_put : (a m k s z : Bytes) → length a ≡ 64
    → sets (sets (sets (sets (sets (a ++ blank_rest) 64 m) 66 k) 67 (1 ∷ [])) 116 s) 120 z
    ≡ a ++ sets (sets (sets (sets (sets blank_rest 0 m) 2 k) 3 (1 ∷ [])) 52 s) 56 z
rest_put a m k s z q =
    let t1 = sets blank_rest 0 m in
    let t2 = sets t1 2 k in
    let t3 = sets t2 3 (1 ∷ []) in
    let t4 = sets t3 52 s in
    ap (λ (c : Bytes). sets (sets (sets (sets c 66 k) 67 (1 ∷ [])) 116 s) 120 z) (behind a blank_rest m 0 q)
    ∙ ap (λ (c : Bytes). sets (sets (sets c 67 (1 ∷ [])) 116 s) 120 z) (behind a t1 k 2 q)
    ∙ ap (λ (c : Bytes). sets (sets c 116 s) 120 z) (behind a t2 (1 ∷ []) 3 q)
    ∙ ap (λ (c : Bytes). sets c 120 z) (behind a t3 s 52 q)
    ∙ behind a t4 z 56 q

-- the blank entry with all of it
entry_built : (n : Name) (k s z : ℕ) → length n ≤ 31
    → sets (sets (sets (sets (sets (sets blank_entry 0 (utf16_bytes n)) 64 (le16 (2 * length n + 2))) 66 (k ∷ [])) 67 (1 ∷ [])) 116 (le32 s)) 120 (le64 z)
    ≡ new_entry n k s z
unfolding new_entry
entry_built n k s z h =
    let u = utf16_bytes n in
    let m = 2 * length n + 2 in
    let f : Bytes → Bytes = λ c. sets (sets (sets (sets (sets c 64 (le16 m)) 66 (k ∷ [])) 67 (1 ∷ [])) 116 (le32 s)) 120 (le64 z) in
    ap (λ (c : Bytes). f (sets c 0 u)) blank_parts
    ∙ ap f (sets_append_left (replicate 64 0) blank_rest 0 u (omega (arith, units_long n, length-replicate {A = ℕ} 64 0)))
    ∙ ap (λ (c : Bytes). f (c ++ blank_rest)) (name_built n h)
    ∙ rest_put (fit 64 u) (le16 m) (k ∷ []) (le32 s) (le64 z) (length_fit 64 u)
    ∙ ap (λ (c : Bytes). fit 64 u ++ c) (rest_built m k s z)

-- so it is built up where it stands
pub new_built : (b : Bytes) (p : ℕ) (n : Name) (k s z : ℕ) → p + 128 ≤ length b → length n ≤ 31
    → put64
    (put32 (put_bytes (put_bytes (put16 (put_bytes (put_bytes b p blank_entry) p (utf16_bytes n)) (p + 64) (2 * length n + 2)) (p + 66) (k ∷ [])) (p + 67) (1 ∷ [])) (p + 116) s)
    (p + 120) z
    ≡ put_bytes b p (new_entry n k s z)
unfolding put_bytes put16 put32 put64 le16 le32 le64
new_built b p n k s z h l =
    let u = utf16_bytes n in
    let m = 2 * length n + 2 in
    let e1 = sets blank_entry 0 u in
    let e2 = sets e1 64 (le16 m) in
    let e3 = sets e2 66 (k ∷ []) in
    let e4 = sets e3 67 (1 ∷ []) in
    let e5 = sets e4 116 (le32 s) in
    let l1 = length-sets blank_entry 0 u ∙ blank_long in
    let l2 = length-sets e1 64 (le16 m) ∙ l1 in
    let l3 = length-sets e2 66 (k ∷ []) ∙ l2 in
    let l4 = length-sets e3 67 (1 ∷ []) ∙ l3 in
    let l5 = length-sets e4 116 (le32 s) ∙ l4 in
    let at : Bytes → ℕ → Bytes → Bytes = λ c i ys. sets c (p + i) ys in
    let o : p ≡ p + 0 = omega arith in
    ap (λ (c : Bytes). at (at (at (at (at c 64 (le16 m)) 66 (k ∷ [])) 67 (1 ∷ [])) 116 (le32 s)) 120 (le64 z))
    (ap (λ (i : ℕ). sets (sets b p blank_entry) i u) o ∙ put_within b blank_entry u p 0 (omega (arith, blank_long)) (omega (arith, blank_long, units_long n)))
    ∙ ap (λ (c : Bytes). at (at (at (at c 66 (k ∷ [])) 67 (1 ∷ [])) 116 (le32 s)) 120 (le64 z)) (put_within b e1 (le16 m) p 64 (omega (arith, l1)) (omega (arith, l1)))
    ∙ ap (λ (c : Bytes). at (at (at c 67 (1 ∷ [])) 116 (le32 s)) 120 (le64 z)) (put_within b e2 (k ∷ []) p 66 (omega (arith, l2)) (omega (arith, l2)))
    ∙ ap (λ (c : Bytes). at (at c 116 (le32 s)) 120 (le64 z)) (put_within b e3 (1 ∷ []) p 67 (omega (arith, l3)) (omega (arith, l3)))
    ∙ ap (λ (c : Bytes). at c 120 (le64 z)) (put_within b e4 (le32 s) p 116 (omega (arith, l4)) (omega (arith, l4)))
    ∙ put_within b e5 (le64 z) p 120 (omega (arith, l5)) (omega (arith, l5))
    ∙ ap (sets b p) (entry_built n k s z l)
