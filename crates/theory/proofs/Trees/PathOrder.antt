-- The order of paths is strict and total, as that of names is.
use mathlib.Core.Path.{◌≡◌, refl, sym, ap, ◌∙◌}
use mathlib.Core.Logic.{◌⊎◌, inl, inr}
use mathlib.Core.Bool.{Bool, true, false, ◌&&◌, ◌||◌}
use mathlib.Core.List.{List, [], ◌∷◌, map}
use Prim.Native.Nat.{ℕ}
use lib.Dec.{eqb}
use borrow.Author.Tests.{eq-eqb}
use Rattle.format.specs.Basics.Lists.{equal}
use Rattle.format.specs.Layout.Name.{Name, fold, name_less, name_equal}
use Rattle.format.specs.Layout.PathOrder.{path_less, same_path}
use Rattle.format.specs.Claims.PathOrder.{PathsOrdered}
use Rattle.theory.proofs.Tests.{clash, both, and_true_of, false_of}
use Rattle.theory.proofs.NameOrder.{equal_same, by_three, less_by, equal_by, ahead}
use Rattle.theory.proofs.Trees.Names.{names_ordered}

-- ---- equal names

units_self : (xs : List ℕ) → equal xs xs ≡ true
unfolding equal
units_self [] = refl
units_self (x ∷ xs) = and_true_of (eqb x x) (equal xs xs) (eq-eqb x x refl) (units_self xs)

pub name_self : (n : Name) → name_equal n n ≡ true
unfolding name_equal
name_self n = units_self (map fold n)

pub same_self : (p : List Name) → same_path p p ≡ true
unfolding same_path
same_self [] = refl
same_self (n ∷ p) = and_true_of (name_equal n n) (same_path p p) (name_self n) (same_self p)

-- equal names are equal to the same names
pub name_alike : (a b c : Name) → name_equal a b ≡ true → name_equal a c ≡ name_equal b c
unfolding name_equal
name_alike a b c h = ap (λ (u : List ℕ). equal u (map fold c)) (equal_same (map fold a) (map fold b) h)

name_three : (a b : Name) → (name_less a b ≡ true) ⊎ ((name_equal a b ≡ true) ⊎ (name_less b a ≡ true))
unfolding name_less name_equal less_by equal_by ahead
name_three a b = by_three fold a b

-- ---- the first name decides, and between equal ones the rest

module _ (a b : Name) (p q : List Name) where
  pub path_under : name_less a b ≡ true → path_less (a ∷ p) (b ∷ q) ≡ true
  unfolding path_less
  path_under h = rw h

  pub path_even : name_equal a b ≡ true → path_less (a ∷ p) (b ∷ q) ≡ path_less p q
  unfolding path_less
  path_even h = rw (names_ordered.equal_left a b b h, names_ordered.strict b, h)

  path_says : path_less (a ∷ p) (b ∷ q) ≡ true → (name_less a b ≡ true) ⊎ ((name_equal a b ≡ true) × (path_less p q ≡ true))
  unfolding path_less
  path_says h = go (name_less a b) refl h
    where
      go : (t : Bool) → name_less a b ≡ t → (t || (name_equal a b && path_less p q)) ≡ true → (name_less a b ≡ true) ⊎ ((name_equal a b ≡ true) × (path_less p q ≡ true))
      go true e k = inl e
      go false e k = inr (both (name_equal a b) (path_less p q) k)

path_strict : (p : List Name) → path_less p p ≡ false
unfolding path_less
path_strict [] = refl
path_strict (n ∷ p) = path_even n n p p (name_self n) ∙ path_strict p

path_trans : (p q r : List Name) → path_less p q ≡ true → path_less q r ≡ true → path_less p r ≡ true
unfolding path_less
path_trans [] [] r s t = absurd (clash s refl)
path_trans [] (b ∷ q) [] s t = absurd (clash t refl)
path_trans [] (b ∷ q) (c ∷ r) s t = refl
path_trans (a ∷ p) [] r s t = absurd (clash s refl)
path_trans (a ∷ p) (b ∷ q) [] s t = absurd (clash t refl)
path_trans (a ∷ p) (b ∷ q) (c ∷ r) s t = go (path_says a b p q s) (path_says b c q r t) (path_trans p q r)
  where
    go : (name_less a b ≡ true) ⊎ ((name_equal a b ≡ true) × (path_less p q ≡ true)) → (name_less b c ≡ true) ⊎ ((name_equal b c ≡ true) × (path_less q r ≡ true)) →
        (path_less p q ≡ true → path_less q r ≡ true → path_less p r ≡ true) → path_less (a ∷ p) (c ∷ r) ≡ true
    go (inl h) (inl k) m = path_under a c p r (names_ordered.trans a b c h k)
    go (inl h) (inr k) m = path_under a c p r (sym (names_ordered.equal_right b c a k.0) ∙ h)
    go (inr h) (inl k) m = path_under a c p r (names_ordered.equal_left a b c h.0 ∙ k)
    go (inr h) (inr k) m = path_even a c p r (name_alike a b c h.0 ∙ k.0) ∙ m h.1 k.1

pub path_asym : (p q : List Name) → path_less p q ≡ true → path_less q p ≡ false
path_asym p q h = false_of (path_less q p) (λ k. clash (path_trans p q p h k) (path_strict p))

-- equal paths are not in order
same_not_less : (p q : List Name) → same_path p q ≡ true → path_less p q ≡ false
unfolding path_less same_path
same_not_less [] [] h = refl
same_not_less [] (b ∷ q) h = absurd (clash h refl)
same_not_less (a ∷ p) [] h = refl
same_not_less (a ∷ p) (b ∷ q) h =
    let u = both (name_equal a b) (same_path p q) h in
    path_even a b p q u.0 ∙ same_not_less p q u.1

path_total : (p q : List Name) → (path_less p q ≡ true) ⊎ ((same_path p q ≡ true) ⊎ (path_less q p ≡ true))
unfolding path_less same_path
path_total [] [] = inr (inl refl)
path_total [] (b ∷ q) = inl refl
path_total (a ∷ p) [] = inr (inr refl)
path_total (a ∷ p) (b ∷ q) = go (name_three a b) (path_total p q)
  where
    go : (name_less a b ≡ true) ⊎ ((name_equal a b ≡ true) ⊎ (name_less b a ≡ true)) → (path_less p q ≡ true) ⊎ ((same_path p q ≡ true) ⊎ (path_less q p ≡ true)) →
        (path_less (a ∷ p) (b ∷ q) ≡ true) ⊎ (((name_equal a b && same_path p q) ≡ true) ⊎ (path_less (b ∷ q) (a ∷ p) ≡ true))
    go (inl h) r = inl (path_under a b p q h)
    go (inr (inr h)) r = inr (inr (path_under b a q p h))
    go (inr (inl h)) (inl k) = inl (path_even a b p q h ∙ k)
    go (inr (inl h)) (inr (inl k)) = inr (inl (and_true_of (name_equal a b) (same_path p q) h k))
    go (inr (inl h)) (inr (inr k)) = inr (inr (path_even b a q p (sym (name_alike a b a h) ∙ name_self a) ∙ k))

pub paths_ordered : PathsOrdered
paths_ordered =
    record {
      strict = path_strict;
      trans = path_trans;
      apart = λ p q l. false_of (same_path p q) (λ s. clash l (same_not_less p q s));
      total = path_total;
    }
