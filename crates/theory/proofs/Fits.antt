-- A list cut, or with zeros added.
use mathlib.Core.Path.{◌≡◌, refl, ap, ◌∙◌}
use mathlib.Core.List.{List, ◌∷◌, ◌++◌, append-nil, []}
use Prim.Native.Nat.{ℕ, zero, suc, ◌+◌, ◌-◌, ◌≤◌}
use native.Mathlib.Omega.{arith}
use lib.ListN.{length, take, replicate, length-append, length-take, length-replicate, drop_of_length-le}
use lib.Seq.{take_all, take-append-add, sets, length-take-le, sets-eq, take-length}
use Rattle.format.specs.Basics.Lists.{fit}

pub length_fit : (n : ℕ) (xs : List ℕ) → length (fit n xs) ≡ n
unfolding fit
length_fit n xs = rw (length-append (take n xs) (replicate (n - length xs) 0), length-take n xs, length-replicate {A = ℕ} (n - length xs) 0) (omega arith)

pub fit_cut : (n : ℕ) (xs : List ℕ) → n ≤ length xs → fit n xs ≡ take n xs
unfolding fit
fit_cut n xs h = let e : n - length xs ≡ 0 = omega arith in rw e (append-nil (take n xs))

take_replicate : (j n a : ℕ) → j ≤ n → take j (replicate n a) ≡ replicate j a
take_replicate zero n a h = refl
take_replicate (suc j) zero a h = absurd (omega arith)
take_replicate (suc j) (suc n) a h = ap (λ t. a ∷ t) (take_replicate j n a (omega arith))

pub take_fit : (n m : ℕ) (xs : List ℕ) → length xs ≤ n → n ≤ m → take n (fit m xs) ≡ fit n xs
unfolding fit
take_fit n m xs h k =
    let j = n - length xs in
    let e : n ≡ length xs + j = omega arith in
    rw (take_all m xs (omega arith), take_all n xs h)
    (ap (λ t. take t (xs ++ replicate (m - length xs) 0)) e ∙ take-append-add xs (replicate (m - length xs) 0) j
    ∙ ap (λ t. xs ++ t) (take_replicate j (m - length xs) 0 (omega arith)))

-- zeros put over all that stands behind the first n
pub zeros_fit : (c d : List ℕ) (n m : ℕ) → length c ≡ m → n ≤ m → take n c ≡ take n d → n ≤ length d → sets c n (replicate (m - n) 0) ≡ fit m (take n d)
unfolding fit
zeros_fit c d n m l h e k =
    let r = length-replicate {A = ℕ} (m - n) 0 in
    let t = length-take-le n d k in
    let p : n + length (replicate {A = ℕ} (m - n) 0) ≡ m = omega arith in
    sets-eq (replicate (m - n) 0) c n (omega arith)
    ∙ ap (λ (x : List ℕ). take n c ++ replicate (m - n) 0 ++ x) (drop_of_length-le c {i = n + length (replicate {A = ℕ} (m - n) 0)} (omega arith))
    ∙ append-nil (take n c ++ replicate (m - n) 0)
    ∙ rw (e, take_all m (take n d) (omega arith), t)

pub fit_zero : (xs : List ℕ) → fit 0 xs ≡ []
fit_zero xs = fit_cut 0 xs (omega arith)

pub fit_same : (xs : List ℕ) → fit (length xs) xs ≡ xs
fit_same xs = fit_cut (length xs) xs (omega arith) ∙ take-length xs
