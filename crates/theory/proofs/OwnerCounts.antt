-- How often a unit stands in the lists of a list.
use mathlib.Core.Path.{◌≡◌, refl, ap}
use mathlib.Core.Logic.{◌≢◌}
use mathlib.Core.List.{List, [], ◌∷◌, ◌++◌}
use Prim.Native.Nat.{ℕ, zero, suc, ◌+◌, ◌≤◌, ◌<◌}
use native.Mathlib.Omega.{arith}
use native.Mathlib.Decide.{dec_lt}
use lib.ListN.{length, get_or, set}
use Rattle.format.specs.Basics.Lists.{count, list_below, join_below}
use Rattle.theory.specs.Sums.{sum_below, owners, lengths}
use Rattle.theory.proofs.Below.{get_or_below}
use Rattle.theory.proofs.Counts.{count_append, sum_add, sum_zero, sum_count}

pub owners_at : (s i : ℕ) (L : List (List ℕ)) → count s (get_or L i []) ≤ owners s L
owners_at s i [] = omega arith
owners_at s zero (l ∷ L) = omega arith
owners_at s (suc i) (l ∷ L) = let r = owners_at s i L in omega arith

pub owners_two : (s i j : ℕ) (L : List (List ℕ)) → i ≢ j → count s (get_or L i []) + count s (get_or L j []) ≤ owners s L
owners_two s i j [] q = omega arith
owners_two s zero zero (l ∷ L) q = absurd (q refl)
owners_two s zero (suc j) (l ∷ L) q = let r = owners_at s j L in omega arith
owners_two s (suc i) zero (l ∷ L) q = let r = owners_at s i L in omega arith
owners_two s (suc i) (suc j) (l ∷ L) q = let r = owners_two s i j L (omega arith) in omega arith

pub owners_set : (s i : ℕ) (L : List (List ℕ)) (ws : List ℕ) → i < length L → owners s (set L i ws) + count s (get_or L i []) ≡ owners s L + count s ws
owners_set s i [] ws h = omega arith
owners_set s zero (l ∷ L) ws h = omega arith
owners_set s (suc i) (l ∷ L) ws h = let r = owners_set s i L ws (omega arith) in omega arith

-- an owner has a place
pub owner_place : (s : ℕ) (L : List (List ℕ)) → 0 < owners s L → (i : ℕ) × (i < length L) × (0 < count s (get_or L i []))
owner_place s [] h = absurd (omega arith)
owner_place s (l ∷ L) h =
    elim (dec_lt 0 (count s l)) [
      | yes p ↦ (0, omega arith, p)
      | no q ↦ let r = owner_place s L (omega arith) in (suc r.0, omega arith, r.2)
    ]

-- ---- sums

pub sum_owners : (L : List (List ℕ)) (n : ℕ) → ((s : ℕ) → 0 < owners s L → s < n) → sum_below (λ s. owners s L) n ≡ lengths L
sum_owners [] n h = sum_zero n
sum_owners (l ∷ L) n h =
    let a = sum_add (λ s. count s l) (λ s. owners s L) n in
    let b = sum_count l n (λ s q. h s (omega arith)) in
    let r = sum_owners L n (λ s q. h s (omega arith)) in
    omega arith

pub lengths_set : (L : List (List ℕ)) (i : ℕ) (ws : List ℕ) → i < length L → lengths (set L i ws) + length (get_or L i []) ≡ lengths L + length ws
lengths_set [] i ws h = omega arith
lengths_set (l ∷ L) zero ws h = omega arith
lengths_set (l ∷ L) (suc i) ws h = let r = lengths_set L i ws (omega arith) in omega arith

-- ---- the lists f 0, f 1 .. f (n - 1)

owners_append : (s : ℕ) (L M : List (List ℕ)) → owners s (L ++ M) ≡ owners s L + owners s M
owners_append s [] M = omega arith
owners_append s (l ∷ L) M = let r = owners_append s L M in omega arith

pub count_join : (s n : ℕ) (f : ℕ → List ℕ) → count s (join_below n f) ≡ owners s (list_below n f)
unfolding join_below list_below
count_join s zero f = refl
count_join s (suc n) f = omega (arith, count_append s (join_below n f) (f n), count_join s n f, owners_append s (list_below n f) (f n ∷ []))

pub count_join_at : (s n : ℕ) (f : ℕ → List ℕ) (i : ℕ) → i < n → count s (f i) ≤ count s (join_below n f)
count_join_at s n f i h =
    omega (arith, count_join s n f, owners_at s i (list_below n f), ap (count s) (get_or_below n f i [] h))
