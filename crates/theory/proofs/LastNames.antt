-- The names of a path, its last one apart.
use Prim.Native.Nat.{ℕ, suc, ◌-◌}
use mathlib.Core.Path.{◌≡◌, refl, ap}
use mathlib.Core.Logic.{◌≢◌}
use mathlib.Core.Bool.{Bool, true}
use mathlib.Core.List.{List, [], ◌∷◌, ◌++◌}
use native.Mathlib.Omega.{arith}
use lib.ListN.{length, take, get_or}
use Rattle.format.specs.Basics.Lists.{all}
use Rattle.format.specs.Layout.Name.{Name}
use Rattle.format.specs.Calls.Paths.{Path, names, names_before, last_name}
use Rattle.theory.proofs.Tests.{both}

last_apart : (x : Name) (xs : List Name) → (x ∷ xs) ≡ take (length xs) (x ∷ xs) ++ (get_or (x ∷ xs) (length xs) [] ∷ [])
last_apart x [] = refl
last_apart x (y ∷ ys) = ap (λ (t : List Name). x ∷ t) (last_apart y ys)

last_passes : (q : Name → Bool) (x : Name) (xs : List Name) → all q (x ∷ xs) ≡ true → q (get_or (x ∷ xs) (length xs) []) ≡ true
unfolding all
last_passes q x [] h = (both (q x) true h).0
last_passes q x (y ∷ ys) h = last_passes q y ys (both (q x) (all q (y ∷ ys)) h).1

suc_less : (n : ℕ) → suc n - 1 ≡ n
suc_less n = omega arith

pub names_last : (p : Path) → names p ≢ [] → names p ≡ names_before p ++ (last_name p ∷ [])
unfolding names_before last_name
names_last p h = go (names p) h
  where
    go : (xs : List Name) → xs ≢ [] → xs ≡ take (length xs - 1) xs ++ (get_or xs (length xs - 1) [] ∷ [])
    go [] h = absurd (h refl)
    go (x ∷ xs) h = rw (suc_less (length xs)) (last_apart x xs)

pub last_legal : (q : Name → Bool) (p : Path) → names p ≢ [] → all q (names p) ≡ true → q (last_name p) ≡ true
unfolding last_name
last_legal q p h a = go (names p) h a
  where
    go : (xs : List Name) → xs ≢ [] → all q xs ≡ true → q (get_or xs (length xs - 1) []) ≡ true
    go [] h a = absurd (h refl)
    go (x ∷ xs) h a = rw (suc_less (length xs)) (last_passes q x xs a)
