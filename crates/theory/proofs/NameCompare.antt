-- Comparing two names unit by unit: while the units are even, what is left of both decides.
use Prim.Native.Nat.{ℕ, zero, suc, ◌+◌, ◌≤◌, ◌<◌}
use mathlib.Core.Path.{◌≡◌, refl, ap₂, sym, ◌∙◌}
use mathlib.Core.List.{List, [], ◌∷◌, map}
use mathlib.Core.Bool.{true}
use native.Mathlib.Omega.{arith}
use borrow.Author.Tests.{eq-eqb}
use lib.ListN.{length, get_or, drop, drop_of_length-le, length-map}
use Rattle.format.specs.Basics.Lists.{equal}
use Rattle.format.specs.Layout.Name.{Name, units_less}
use Rattle.theory.proofs.NameOrder.{ahead, ahead_under, ahead_even, less_by, equal_by}

-- the first i units of both are even
pub record Comparing (f : ℕ → ℕ) (a b : Name) (i : ℕ) : Type 0 where
  pub long : length a ≡ length b
  pub less : less_by f a b ≡ units_less (drop i (map f a)) (drop i (map f b))
  pub more : less_by f b a ≡ units_less (drop i (map f b)) (drop i (map f a))
  pub even : equal_by f a b ≡ equal (drop i (map f a)) (drop i (map f b))

-- x and y are their folded units number i
pub record Turn (f : ℕ → ℕ) (a b : Name) (i x y : ℕ) : Type 0 where
  pub so_far : Comparing f a b i
  pub inside : i < length a
  pub one : x ≡ f (get_or a i 0)
  pub two : y ≡ f (get_or b i 0)

-- ---- the lengths

pub shorter_less : (f : ℕ → ℕ) (a b : Name) → length a < length b → less_by f a b ≡ true
unfolding less_by
shorter_less f a b h = ahead_under (length a) (length b) (units_less (map f a) (map f b)) h

pub comparing_start : (f : ℕ → ℕ) (a b : Name) → length a ≡ length b → Comparing f a b 0
unfolding less_by equal_by
comparing_start f a b e =
    record {
      long = e;
      less = ahead_even (length a) (length b) (units_less (map f a) (map f b)) e;
      more = ahead_even (length b) (length a) (units_less (map f b) (map f a)) (sym e);
      even = refl;
    }

-- ---- a turn

drop_map : (f : ℕ → ℕ) (a : List ℕ) (i : ℕ) → i < length a → drop i (map f a) ≡ f (get_or a i 0) ∷ drop (i + 1) (map f a)
drop_map f [] i h = absurd (omega arith)
drop_map f (x ∷ a) zero h = refl
drop_map f (x ∷ a) (suc i) h = let e : suc i + 1 ≡ suc (i + 1) = omega arith in rw e (drop_map f a i (omega arith))

units_cons : (x : ℕ) (xs : List ℕ) (y : ℕ) (ys : List ℕ) → units_less (x ∷ xs) (y ∷ ys) ≡ ahead x y (units_less xs ys)
unfolding units_less ahead
units_cons x xs y ys = refl

equal_cons : (x : ℕ) (xs : List ℕ) (y : ℕ) (ys : List ℕ) → x ≡ y → equal (x ∷ xs) (y ∷ ys) ≡ equal xs ys
unfolding equal
equal_cons x xs y ys e = rw (eq-eqb x y e)

module _ {f : ℕ → ℕ} {a b : Name} {i x y : ℕ} (t : Turn f a b i x y) where
  -- what is left of both behind the turn
  abbrev u : List ℕ
  u = drop (i + 1) (map f a)

  abbrev v : List ℕ
  v = drop (i + 1) (map f b)

  left_one : drop i (map f a) ≡ x ∷ u
  left_one = rw t.one (drop_map f a i t.inside)

  left_two : drop i (map f b) ≡ y ∷ v
  left_two = rw t.two (drop_map f b i (omega (arith, t.inside, t.so_far.long)))

  less_here : less_by f a b ≡ ahead x y (units_less u v)
  less_here = t.so_far.less ∙ ap₂ units_less left_one left_two ∙ units_cons x u y v

  more_here : less_by f b a ≡ ahead y x (units_less v u)
  more_here = t.so_far.more ∙ ap₂ units_less left_two left_one ∙ units_cons y v x u

  pub turn_less : x < y → less_by f a b ≡ true
  turn_less h = less_here ∙ ahead_under x y (units_less u v) h

  pub turn_more : y < x → less_by f b a ≡ true
  turn_more h = more_here ∙ ahead_under y x (units_less v u) h

  pub turn_on : x ≤ y → y ≤ x → Comparing f a b (i + 1)
  turn_on h k =
      let e : x ≡ y = omega arith in
      record {
        long = t.so_far.long;
        less = less_here ∙ ahead_even x y (units_less u v) e;
        more = more_here ∙ ahead_even y x (units_less v u) (sym e);
        even = t.so_far.even ∙ ap₂ equal left_one left_two ∙ equal_cons x u y v e;
      }

-- ---- the end

pub comparing_end : {f : ℕ → ℕ} {a b : Name} {i : ℕ} → Comparing f a b i → length a ≤ i → equal_by f a b ≡ true
unfolding equal
comparing_end {f} {a} {b} {i} c h =
    c.even
    ∙ ap₂ equal
    (drop_of_length-le (map f a) {i = i} (rw (length-map a f) h))
    (drop_of_length-le (map f b) {i = i} (rw (length-map b f) (omega (arith, c.long))))
