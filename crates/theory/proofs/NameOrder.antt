-- The order of names is strict, transitive and total, and equal names have one place in it, whatever function folds the units.
use Prim.Native.Nat.{ℕ, ◌<◌}
use mathlib.Core.Path.{◌≡◌, refl, ap, ap₂, sym, ◌∙◌}
use mathlib.Core.List.{List, [], ◌∷◌, map}
use mathlib.Core.Bool.{Bool, true, false, ◌&&◌, ◌||◌}
use mathlib.Core.Logic.{◌⊎◌, inl, inr}
use native.Mathlib.Omega.{arith}
use native.Mathlib.Decide.{ℕ_discrete, dec_lt}
use borrow.Author.Tests.{eq-eqb, ne_eqb, eqb-true, lt-ltb, le-ltb}
use lib.ListN.{length, length-map}
use lib.Dec.{ltb, eqb}
use Rattle.format.specs.Basics.Lists.{equal}
use Rattle.format.specs.Layout.Name.{Name, units_less, name_less, name_equal, fold}
use Rattle.theory.proofs.Tests.{clash, both, and_true_of}

-- ---- one number of each, then the rest

-- the lesser number comes first; between equal ones the rest decides
unfoldable pub ahead : ℕ → ℕ → Bool → Bool
ahead x y rest = ltb x y || (eqb x y && rest)

lies : (x y : ℕ) → (x < y) ⊎ ((x ≡ y) ⊎ (y < x))
lies x y = elim (dec_lt x y) [ yes h ↦ inl h | no h ↦ inr (elim (ℕ_discrete x y) [ yes e ↦ inl e | no e ↦ inr (omega arith) ]) ]

module _ (x y : ℕ) (b : Bool) where
  pub ahead_under : x < y → ahead x y b ≡ true
  unfolding ahead
  ahead_under h = rw (lt-ltb x y h)

  pub ahead_even : x ≡ y → ahead x y b ≡ b
  unfolding ahead
  ahead_even e = rw (le-ltb x y (omega arith), eq-eqb x y e)

  pub ahead_over : y < x → ahead x y b ≡ false
  unfolding ahead
  ahead_over h = rw (le-ltb x y (omega arith), ne_eqb x y (omega arith))

  ahead_says : ahead x y b ≡ true → (x < y) ⊎ ((x ≡ y) × (b ≡ true))
  ahead_says t =
      elim (lies x y) [
        | inl h ↦ inl h
        | inr (inl e) ↦ inr (e, sym (ahead_even e) ∙ t)
        | inr (inr h) ↦ absurd (clash t (ahead_over h))
      ]

ahead_trans : (x y z : ℕ) (a b c : Bool) → (a ≡ true → b ≡ true → c ≡ true) → ahead x y a ≡ true → ahead y z b ≡ true → ahead x z c ≡ true
ahead_trans x y z a b c k s t =
    elim (ahead_says x y a s) [
      | inl h ↦ elim (ahead_says y z b t) [ inl l ↦ ahead_under x z c (omega arith) | inr l ↦ ahead_under x z c (omega (arith, l.0)) ]
      | inr h ↦ elim (ahead_says y z b t) [ inl l ↦ ahead_under x z c (omega (arith, h.0)) | inr l ↦ ahead_even x z c (h.0 ∙ l.0) ∙ k h.1 l.1 ]
    ]

ahead_three : (x y : ℕ) (a e b : Bool) → (a ≡ true) ⊎ ((e ≡ true) ⊎ (b ≡ true))
    → (ahead x y a ≡ true) ⊎ (((eqb x y && e) ≡ true) ⊎ (ahead y x b ≡ true))
ahead_three x y a e b r =
    elim (lies x y) [
      | inl h ↦ inl (ahead_under x y a h)
      | inr (inl q) ↦
          elim r [
            | inl t ↦ inl (ahead_even x y a q ∙ t)
            | inr (inl t) ↦ inr (inl (and_true_of (eqb x y) e (eq-eqb x y q) t))
            | inr (inr t) ↦ inr (inr (ahead_even y x b (sym q) ∙ t))
          ]
      | inr (inr h) ↦ inr (inr (ahead_under y x b h))
    ]

-- ---- unit by unit

pub equal_same : (xs ys : List ℕ) → equal xs ys ≡ true → xs ≡ ys
unfolding equal
equal_same [] [] t = refl
equal_same [] (y ∷ ys) t = absurd (clash t refl)
equal_same (x ∷ xs) [] t = absurd (clash t refl)
equal_same (x ∷ xs) (y ∷ ys) t =
    let u = both (eqb x y) (equal xs ys) t in
    ap₂ ◌∷◌ (eqb-true x y u.0) (equal_same xs ys u.1)

units_strict : (xs : List ℕ) → units_less xs xs ≡ false
unfolding units_less ahead
units_strict [] = refl
units_strict (x ∷ xs) = ahead_even x x (units_less xs xs) refl ∙ units_strict xs

units_trans : (xs ys zs : List ℕ) → units_less xs ys ≡ true → units_less ys zs ≡ true → units_less xs zs ≡ true
unfolding units_less ahead
units_trans [] [] zs s t = absurd (clash s refl)
units_trans [] (y ∷ ys) [] s t = absurd (clash t refl)
units_trans [] (y ∷ ys) (z ∷ zs) s t = refl
units_trans (x ∷ xs) [] zs s t = absurd (clash s refl)
units_trans (x ∷ xs) (y ∷ ys) [] s t = absurd (clash t refl)
units_trans (x ∷ xs) (y ∷ ys) (z ∷ zs) s t =
    ahead_trans x y z (units_less xs ys) (units_less ys zs) (units_less xs zs) (units_trans xs ys zs) s t

units_three : (xs ys : List ℕ) → (units_less xs ys ≡ true) ⊎ ((equal xs ys ≡ true) ⊎ (units_less ys xs ≡ true))
unfolding units_less equal ahead
units_three [] [] = inr (inl refl)
units_three [] (y ∷ ys) = inl refl
units_three (x ∷ xs) [] = inr (inr refl)
units_three (x ∷ xs) (y ∷ ys) = ahead_three x y (units_less xs ys) (equal xs ys) (units_less ys xs) (units_three xs ys)

-- ---- names, for any folding f: the shorter first, then the folded units

module _ (f : ℕ → ℕ) where
  unfoldable pub less_by : Name → Name → Bool
  less_by a b = ahead (length a) (length b) (units_less (map f a) (map f b))

  unfoldable pub equal_by : Name → Name → Bool
  equal_by a b = equal (map f a) (map f b)

  pub by_strict : (a : Name) → less_by a a ≡ false
  unfolding less_by
  by_strict a = ahead_even (length a) (length a) (units_less (map f a) (map f a)) refl ∙ units_strict (map f a)

  pub by_trans : (a b c : Name) → less_by a b ≡ true → less_by b c ≡ true → less_by a c ≡ true
  unfolding less_by
  by_trans a b c s t =
      let u = map f a in
      let v = map f b in
      let w = map f c in
      ahead_trans (length a) (length b) (length c) (units_less u v) (units_less v w) (units_less u w) (units_trans u v w) s t

  pub by_three : (a b : Name) → (less_by a b ≡ true) ⊎ ((equal_by a b ≡ true) ⊎ (less_by b a ≡ true))
  unfolding less_by equal_by
  by_three a b =
      let u = map f a in
      let v = map f b in
      elim (ahead_three (length a) (length b) (units_less u v) (equal u v) (units_less v u) (units_three u v)) [
        | inl t ↦ inl t
        | inr (inl t) ↦ inr (inl (both (eqb (length a) (length b)) (equal u v) t).1)
        | inr (inr t) ↦ inr (inr t)
      ]

  -- equal names lie alike to every name
  pub by_equal : (a b c : Name) → equal_by a b ≡ true → (less_by a c ≡ less_by b c) × (less_by c a ≡ less_by c b)
  unfolding less_by equal_by
  by_equal a b c t =
      let e = equal_same (map f a) (map f b) t in
      let l : length a ≡ length b = sym (length-map a f) ∙ ap length e ∙ length-map b f in
      (ap₂ (λ n u. ahead n (length c) (units_less u (map f c))) l e, ap₂ (λ n u. ahead (length c) n (units_less (map f c) u)) l e)

  -- of two equal names neither is less
  pub by_apart : (a b : Name) → equal_by a b ≡ true → (less_by a b ≡ false) × (less_by b a ≡ false)
  by_apart a b t = let e = by_equal a b b t in (e.0 ∙ by_strict b, e.1 ∙ by_strict b)

  -- of two names one at most is less
  pub by_once : (a b : Name) → less_by a b ≡ true → less_by b a ≡ true → ⊥
  by_once a b s t = clash (by_trans a b a s t) (by_strict a)

-- ---- `format`'s order is that of `fold`

pub less_is : (a b : Name) → name_less a b ≡ less_by fold a b
unfolding name_less less_by ahead
less_is a b = refl

pub equal_is : (a b : Name) → name_equal a b ≡ equal_by fold a b
unfolding name_equal equal_by
equal_is a b = refl
