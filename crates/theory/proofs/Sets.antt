-- What a run of stores does to a part of a list.
use mathlib.Core.Path.{◌≡◌, refl, ap, ◌∙◌, sym}
use mathlib.Core.Logic.{◌≢◌}
use mathlib.Core.List.{List, [], ◌∷◌, ◌++◌, append_assoc}
use Prim.Native.Nat.{ℕ, zero, suc, ◌+◌, ◌-◌, ◌≤◌, ◌<◌}
use native.Mathlib.Nat.{add-suc, suc-add, add-zero}
use native.Mathlib.Omega.{arith}
use lib.ListN.{length, get_or, take, drop, set, length-set}
use native.Mathlib.Numerals.{add-one}
use lib.Seq.{sets-eq, drop-drop, drop-cons, set_at, append_snoc, take-suc, length-take-le, sets, take-take, drop-set-add, drop-set-lt, take-set-le, take-set-lt, set-append_left, get_or-set_same, get_or-set_other}

module _ {A : Type 0} where
  pub drop_sets_add : (n : ℕ) (l : List A) (i : ℕ) (vs : List A) → drop n (sets l (n + i) vs) ≡ sets (drop n l) i vs
  drop_sets_add n l i [] = refl
  drop_sets_add n l i (v ∷ vs) = rw (← add-suc, drop_sets_add n (set l (n + i) v) (suc i) vs, drop-set-add)

  pub drop_sets_lt : (n : ℕ) (l : List A) (i : ℕ) (vs : List A) → i + length vs ≤ n → drop n (sets l i vs) ≡ drop n l
  drop_sets_lt n l i [] h = refl
  drop_sets_lt n l i (v ∷ vs) h = drop_sets_lt n (set l i v) (suc i) vs (omega arith) ∙ drop-set-lt n l i v (omega arith)

  pub take_sets_le : (n : ℕ) (l : List A) (i : ℕ) (vs : List A) → n ≤ i → take n (sets l i vs) ≡ take n l
  take_sets_le n l i [] h = refl
  take_sets_le n l i (v ∷ vs) h = take_sets_le n (set l i v) (suc i) vs (omega arith) ∙ take-set-le n l i v h

  pub take_sets_in : (n : ℕ) (l : List A) (i : ℕ) (vs : List A) → i + length vs ≤ n → take n (sets l i vs) ≡ sets (take n l) i vs
  take_sets_in n l i [] h = refl
  take_sets_in n l i (v ∷ vs) h = rw (take_sets_in n (set l i v) (suc i) vs (omega arith), take-set-lt n l i v (omega arith))

  pub sets_append_left : (xs ys : List A) (i : ℕ) (vs : List A) → i + length vs ≤ length xs → sets (xs ++ ys) i vs ≡ sets xs i vs ++ ys
  sets_append_left xs ys i [] h = refl
  sets_append_left xs ys i (v ∷ vs) h =
      rw (set-append_left xs ys i v (omega arith)) (sets_append_left (set xs i v) ys (suc i) vs (omega (arith, length-set xs i v)))

  pub set_append_right : (xs ys : List A) (i : ℕ) (v : A) → set (xs ++ ys) (length xs + i) v ≡ xs ++ set ys i v
  set_append_right [] ys i v = simp native.Mathlib.Nat.zero-add
  set_append_right (x ∷ xs) ys i v = rw suc-add (ap (λ (r : List A). x ∷ r) (set_append_right xs ys i v))

  pub sets_append_right : (xs ys : List A) (i : ℕ) (vs : List A) → sets (xs ++ ys) (length xs + i) vs ≡ xs ++ sets ys i vs
  sets_append_right xs ys i [] = refl
  sets_append_right xs ys i (v ∷ vs) = rw (set_append_right, ← add-suc) (sets_append_right xs (set ys i v) (suc i) vs)

  pub get_or_sets_out : (l : List A) (i : ℕ) (vs : List A) (j : ℕ) (d : A) → ((k : ℕ) → k < length vs → j ≢ i + k) → get_or (sets l i vs) j d ≡ get_or l j d
  get_or_sets_out l i [] j d h = refl
  get_or_sets_out l i (v ∷ vs) j d h =
      get_or_sets_out (set l i v) (suc i) vs j d (λ k b e. h (suc k) (omega arith) (omega arith))
      ∙ get_or-set_other l i j v d (λ e. h 0 (omega arith) (omega arith))

  pub get_or_sets_in : (l : List A) (i : ℕ) (vs : List A) (k : ℕ) (d : A) → k < length vs → i + length vs ≤ length l → get_or (sets l i vs) (i + k) d ≡ get_or vs k d
  get_or_sets_in l i [] k d h b = absurd (native.Mathlib.Nat.not-suc-le-zero h)
  get_or_sets_in l i (v ∷ vs) zero d h b =
      rw add-zero (get_or_sets_out (set l i v) (suc i) vs i d (λ k c e. omega arith) ∙ get_or-set_same l i v d (omega arith))
  get_or_sets_in l i (v ∷ vs) (suc k) d h b =
      rw (add-suc, ← suc-add) (get_or_sets_in (set l i v) (suc i) vs k d (omega arith) (omega (arith, length-set l i v)))

  -- a part of a front that holds it whole
  pub sub_take : (w n m : ℕ) (l : List A) → n + w ≤ m → take w (drop n (take m l)) ≡ take w (drop n l)
  sub_take w zero m l h = take-take w m l (omega arith)
  sub_take w (suc n) zero l h = absurd (native.Mathlib.Nat.not-suc-le-zero (let q : suc (n + w) ≤ 0 = omega arith in q))
  sub_take w (suc n) (suc m) [] h = refl
  sub_take w (suc n) (suc m) (x ∷ xs) h = sub_take w n m xs (omega arith)

  -- one more element copied
  pub copy_more : (d s : List A) (i : ℕ) (z : A) → i < length d → i < length s
      → set (take i s ++ drop i d) i (get_or s i z) ≡ take (i + 1) s ++ drop (i + 1) d
  copy_more d s i z a b =
      rw (add-one)
      (ap (λ (r : List A). set (take i s ++ r) i (get_or s i z)) (drop-cons d i z a)
      ∙ set_at (take i s) (get_or d i z) (drop (suc i) d) (get_or s i z) i (length-take-le i s (omega arith))
      ∙ sym (append_snoc (take i s) (get_or s i z) (drop (suc i) d))
      ∙ ap (λ (r : List A). r ++ drop (suc i) d) (sym (take-suc s i z b)))

-- a part that was lent and comes back with others in it: a store of those from the part's start on
pub lent_back : (b x : List ℕ) (from to : ℕ) → from + length x ≡ to → to ≤ length b → take from b ++ (x ++ drop (to - from) (drop from b)) ≡ sets b from x
lent_back b x from to e h =
    let n : to - from ≡ length x = omega arith in
    rw (n, drop-drop (length x) from b) (sym (sets-eq x b from (omega arith) ∙ append_assoc (take from b) x (drop (from + length x) b)))
