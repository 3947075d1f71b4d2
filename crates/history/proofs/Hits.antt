-- The streams of a tree that wanted names mean (`hits`), by the recursion of the rows.
use Prim.Native.Nat.{ℕ, ◌≤◌}
use mathlib.Core.Path.{◌≡◌, refl}
use mathlib.Core.Bool.{Bool, true, false, cond, ◌&&◌, and-false}
use mathlib.Core.List.{List, [], ◌∷◌, ◌++◌}
use native.Mathlib.Omega.{arith}
use lib.Dec.{eqb}
use Rattle.format.specs.Basics.Lists.{bit, count}
use Rattle.format.specs.Layout.Name.{Name, name_equal}
use Rattle.format.specs.Layout.Entry.{name, is_stream}
use Rattle.format.specs.Layout.Directory.{Directory}
use Rattle.format.specs.Layout.Tree.{Forest, empty, broken, node, entries}
use Rattle.format.specs.Layout.PathOrder.{same_path}
use Rattle.theory.proofs.Counts.{count_append}

-- ---- what is left of the wanted names after some names: none fits, or the rest

pub data Want : Type 0 where
  off : Want
  rest : List Name → Want

unfoldable pub advance : Want → Name → Want
advance off m = off
advance (rest []) m = off
advance (rest (n ∷ ns)) m = cond (name_equal n m) (rest ns) off

unfoldable pub strip : List Name → List Name → Want
strip ns [] = rest ns
strip [] (b ∷ bs) = off
strip (n ∷ ns) (b ∷ bs) = cond (name_equal n b) (strip ns bs) off

unfoldable pub is_none : List Name → Bool
is_none [] = true
is_none (n ∷ ns) = false

unfoldable pub is_done : Want → Bool
is_done off = false
is_done (rest ns) = is_none ns

pub strip_snoc : (ns before : List Name) (m : Name) → strip ns (before ++ (m ∷ [])) ≡ advance (strip ns before) m
unfolding strip advance
strip_snoc [] [] m = refl
strip_snoc (n ∷ ns) [] m = refl
strip_snoc [] (b ∷ before) m = refl
strip_snoc (n ∷ ns) (b ∷ before) m = go (name_equal n b) (strip_snoc ns before m)
  where
    go : (t : Bool) → strip ns (before ++ (m ∷ [])) ≡ advance (strip ns before) m → cond t (strip ns (before ++ (m ∷ []))) off ≡ advance (cond t (strip ns before) off) m
    go true h = h
    go false h = refl

pub same_path_strip : (ns q : List Name) → same_path ns q ≡ is_done (strip ns q)
unfolding same_path strip is_done is_none
same_path_strip [] [] = refl
same_path_strip [] (b ∷ q) = refl
same_path_strip (n ∷ ns) [] = refl
same_path_strip (n ∷ ns) (b ∷ q) = go (name_equal n b) (same_path_strip ns q)
  where
    go : (t : Bool) → same_path ns q ≡ is_done (strip ns q) → (t && same_path ns q) ≡ is_done (cond t (strip ns q) off)
    go true h = h
    go false h = refl

-- ---- the streams that are meant

unfoldable pub own_hit : Directory → Want → ℕ → List ℕ
own_hit d k y = cond (is_stream (d.entry y) && is_done (advance k (name (d.entry y)))) (y ∷ []) []

unfoldable pub hits : Directory → Want → Forest → List ℕ
hits d k empty = []
hits d k broken = []
hits d k (node l y b r) = hits d k l ++ (own_hit d k y ++ (hits d (advance k (name (d.entry y))) b ++ hits d k r))

pub own_hit_off : (d : Directory) (k : Want) (y : ℕ) → advance k (name (d.entry y)) ≡ off → own_hit d k y ≡ []
unfolding own_hit is_done
own_hit_off d k y e = rw (e, and-false (is_stream (d.entry y)))

pub hits_off : (d : Directory) (t : Forest) → hits d off t ≡ []
unfolding hits advance
hits_off d empty = refl
hits_off d broken = refl
hits_off d (node l y b r) = rw (hits_off d l, own_hit_off d off y refl, hits_off d b, hits_off d r)

pub hits_end : (d : Directory) (t : Forest) → hits d (rest []) t ≡ []
unfolding hits advance
hits_end d empty = refl
hits_end d broken = refl
hits_end d (node l y b r) = rw (hits_end d l, own_hit_off d (rest []) y refl, hits_off d b, hits_end d r)

pub own_hit_le : (d : Directory) (k : Want) (e y : ℕ) → count e (own_hit d k y) ≤ bit (eqb e y)
unfolding own_hit
own_hit_le d k e y = go (is_stream (d.entry y) && is_done (advance k (name (d.entry y))))
  where
    go : (t : Bool) → count e (cond t (y ∷ []) []) ≤ bit (eqb e y)
    go true = omega arith
    go false = omega arith

pub hits_le : (d : Directory) (k : Want) (x : ℕ) (t : Forest) → count x (hits d k t) ≤ count x (entries t)
unfolding hits entries
hits_le d k x empty = omega arith
hits_le d k x broken = omega arith
hits_le d k x (node l y b r) =
    let m = own_hit d k y in
    let hb = hits d (advance k (name (d.entry y))) b in
    let a1 = count_append x (entries l) (y ∷ (entries b ++ entries r)) in
    let a2 = count_append x (entries b) (entries r) in
    let b1 = count_append x (hits d k l) (m ++ (hb ++ hits d k r)) in
    let b2 = count_append x m (hb ++ hits d k r) in
    let b3 = count_append x hb (hits d k r) in
    let c = own_hit_le d k x y in
    omega (arith, hits_le d k x l, hits_le d (advance k (name (d.entry y))) x b, hits_le d k x r)
