-- The names of a path are what std's split gives at each slash: the first name, and the names of the rest from behind its slash.
use Prim.Native.Nat.{ℕ, suc, ◌≤◌, ◌<◌}
use mathlib.Core.Path.{◌≡◌, refl, sym, ap, ◌∙◌}
use mathlib.Core.Logic.{◌≢◌}
use mathlib.Core.List.{List, [], ◌∷◌}
use mathlib.Core.Bool.{Bool, true, false, ◌&&◌, cond}
use native.Mathlib.Omega.{arith}
use lib.Dec.{eqb}
use lib.ListN.{length, take, drop}
use Rattle.std.specs.List.{slice_split, onto_first, list_all}
use Rattle.format.specs.Basics.Lists.{all}
use Rattle.format.specs.Layout.Name.{Name, slash, legal_name}
use Rattle.format.specs.Calls.Paths.{Path, split, push_front, names, well_formed}
use Rattle.paths.specs.Found.{first_name}

onto_is : (u : ℕ) (ns : List Name) → onto_first u ns ≡ push_front u ns
unfolding push_front
onto_is u [] = refl
onto_is u (n ∷ ns) = refl

pub split_is : (p : Path) → slice_split (λ u. eqb u slash) p ≡ split p
unfolding split
split_is [] = refl
split_is (u ∷ us) = rw (split_is us) (ap (cond (eqb u slash) ([] ∷ split us)) (onto_is u (split us)))

pub all_is : {A : Type 0} (p : A → Bool) (xs : List A) → list_all p xs ≡ all p xs
unfolding all
all_is p [] = refl
all_is p (x ∷ xs) = ap (λ b. p x && b) (all_is p xs)

pub names_split : (p : Path) → length p ≢ 0 → names p ≡ split p
unfolding names
names_split [] h = absurd (h refl)
names_split (u ∷ us) h = refl

pub names_none : (p : Path) → length p ≡ 0 → names p ≡ []
unfolding names
names_none [] h = refl
names_none (u ∷ us) h = absurd (omega arith)

pub formed_none : (p : Path) → length p ≡ 0 → true ≡ well_formed p
unfolding well_formed all
formed_none p h = rw (names_none p h)

pub formed_some : (p : Path) → length p ≢ 0 → list_all legal_name (slice_split (λ u. eqb u slash) p) ≡ well_formed p
unfolding well_formed
formed_some p h = all_is legal_name (slice_split (λ u. eqb u slash) p) ∙ ap (all legal_name) (split_is p ∙ sym (names_split p h))

-- ---- the first name, and the rest

pub first_inside : (p : Path) → length (first_name p) ≤ length p
unfolding first_name
first_inside [] = omega arith
first_inside (u ∷ us) = by (eqb u slash) (first_inside us)
  where
    by : (a : Bool) → length (first_name us) ≤ length us → length (cond a [] (u ∷ first_name us)) ≤ suc (length us)
    by true h = omega arith
    by false h = omega arith

pub first_is : (p : Path) → take (length (first_name p)) p ≡ first_name p
unfolding first_name
first_is [] = refl
first_is (u ∷ us) = by (eqb u slash) (first_is us)
  where
    by : (a : Bool) → take (length (first_name us)) us ≡ first_name us → take (length (cond a [] (u ∷ first_name us))) (u ∷ us) ≡ cond a [] (u ∷ first_name us)
    by true h = refl
    by false h = ap (λ (ns : Name). u ∷ ns) h

front : (u : ℕ) (n : Name) (ns : List Name) → push_front u (n ∷ ns) ≡ (u ∷ n) ∷ ns
unfolding push_front
front u n ns = refl

-- a slash ends the first name
pub split_more : (p : Path) → length (first_name p) < length p → split p ≡ first_name p ∷ split (drop (suc (length (first_name p))) p)
unfolding first_name split
split_more [] h = absurd (omega arith)
split_more (u ∷ us) h = by (eqb u slash) (split_more us) h
  where
    by : (a : Bool) → (length (first_name us) < length us → split us ≡ first_name us ∷ split (drop (suc (length (first_name us))) us))
        → length (cond a [] (u ∷ first_name us)) < suc (length us)
        → cond a ([] ∷ split us) (push_front u (split us))
        ≡ cond a [] (u ∷ first_name us) ∷ split (drop (suc (length (cond a [] (u ∷ first_name us)))) (u ∷ us))
    by true ih h = refl
    by false ih h = ap (push_front u) (ih (omega arith)) ∙ front u (first_name us) (split (drop (suc (length (first_name us))) us))

-- there is no slash
pub split_last : (p : Path) → length p ≤ length (first_name p) → split p ≡ first_name p ∷ []
unfolding first_name split
split_last [] h = refl
split_last (u ∷ us) h = by (eqb u slash) (split_last us) h
  where
    by : (a : Bool) → (length us ≤ length (first_name us) → split us ≡ first_name us ∷ [])
        → suc (length us) ≤ length (cond a [] (u ∷ first_name us))
        → cond a ([] ∷ split us) (push_front u (split us)) ≡ cond a [] (u ∷ first_name us) ∷ []
    by true ih h = absurd (omega arith)
    by false ih h = ap (push_front u) (ih (omega arith)) ∙ front u (first_name us) []
