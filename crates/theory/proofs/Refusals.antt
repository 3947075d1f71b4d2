-- A path that leads to no entry is refused by a number from 20 to 23, and where a stream is needed what is found is one.
use Prim.Native.Nat.{ℕ, zero, suc, ◌≤◌}
use mathlib.Core.Path.{◌≡◌, refl}
use mathlib.Core.Bool.{Bool, true, false, cond}
use mathlib.Core.List.{List, [], ◌∷◌}
use native.Mathlib.Omega.{arith}
use Rattle.format.specs.Layout.Name.{Name}
use Rattle.format.specs.Layout.Entry.{is_stream}
use Rattle.format.specs.Layout.Directory.{Directory}
use Rattle.format.specs.Layout.Tree.{Forest, forest}
use Rattle.format.specs.Calls.Paths.{Path, names, well_formed, names_before}
use Rattle.format.specs.Calls.Find.{Child, missing, present, child_named, Found, at, refused, descend, resolve, need_stream, resolve_stream, need_parent, resolve_parent, enter, found_child}
use Rattle.format.specs.Calls.Answer.{first_of}

-- found, or refused by a number that P holds of
abbrev pub RefusedBy : (ℕ → Type 0) → Found → Type 0
RefusedBy P (at e b) = Unit {0}
RefusedBy P (refused a) = P a

module _ (P : ℕ → Type 0) (absent : P 21) (on-the-way : P 22) (d : Directory) where
  enter_refused_by : (f : Found) (n : Name) → RefusedBy P f → RefusedBy P (enter d f n)
  unfolding enter found_child
  enter_refused_by (refused a) n h = h
  enter_refused_by (at e b) n h = go (is_stream (d.entry e)) (child_named d n b)
    where
      go : (st : Bool) (k : Child) → RefusedBy P (cond st (refused 22) (found_child k))
      go true k = on-the-way
      go false missing = absent
      go false (present y b) = tt

  -- the names of a path are refused by 21 and 22 alone
  pub descend_refused_by : (ns : List Name) (f : Found) → RefusedBy P f → RefusedBy P (descend d f ns)
  unfolding descend
  descend_refused_by [] f h = h
  descend_refused_by (n ∷ ns) f h = descend_refused_by ns (enter d f n) (enter_refused_by f n h)

abbrev pub RefusedLow : Found → Type 0
RefusedLow f = RefusedBy (λ a. (20 ≤ a) × (a ≤ 23)) f

pub descend_low : (d : Directory) (ns : List Name) (f : Found) → RefusedLow f → RefusedLow (descend d f ns)
descend_low d ns f h = descend_refused_by (λ a. (20 ≤ a) × (a ≤ 23)) (omega arith, omega arith) (omega arith, omega arith) d ns f h

need_stream_low : (d : Directory) (f : Found) → RefusedLow f → RefusedLow (need_stream d f)
unfolding need_stream
need_stream_low d (refused a) h = h
need_stream_low d (at e b) h = go (is_stream (d.entry e))
  where
    go : (st : Bool) → RefusedLow (cond st (at e b) (refused 23))
    go true = tt
    go false = (omega arith, omega arith)

pub resolve_low : (d : Directory) (p : Path) → RefusedLow (resolve d p)
unfolding resolve
resolve_low d p = go (well_formed p)
  where
    go : (t : Bool) → RefusedLow (cond t (descend d (at 0 (forest d)) (names p)) (refused 20))
    go true = descend_low d (names p) (at 0 (forest d)) tt
    go false = (omega arith, omega arith)

-- what is found stands, or is refused by 22
need_parent_low : (d : Directory) (f : Found) → RefusedLow f → RefusedLow (need_parent d f)
unfolding need_parent
need_parent_low d (refused a) h = h
need_parent_low d (at e b) h = go (is_stream (d.entry e))
  where
    go : (st : Bool) → RefusedLow (cond st (refused 22) (at e b))
    go true = (omega arith, omega arith)
    go false = tt

pub parent_low : (d : Directory) (p : Path) → RefusedLow (resolve_parent d p)
unfolding resolve_parent
parent_low d p = go (well_formed p)
  where
    go : (t : Bool) → RefusedLow (cond t (need_parent d (descend d (at 0 (forest d)) (names_before p))) (refused 20))
    go true = need_parent_low d (descend d (at 0 (forest d)) (names_before p)) (descend_low d (names_before p) (at 0 (forest d)) tt)
    go false = (omega arith, omega arith)

pub resolve_stream_low : (d : Directory) (p : Path) → RefusedLow (resolve_stream d p)
unfolding resolve_stream
resolve_stream_low d p = need_stream_low d (resolve d p) (resolve_low d p)

-- what is found is a stream
pub found_stream : (d : Directory) (p : Path) (e : ℕ) (b : Forest) → resolve_stream d p ≡ at e b → is_stream (d.entry e) ≡ true
unfolding resolve_stream need_stream
found_stream d p e b h = go (resolve d p) h
  where
    found_is : (x : ℕ) (c : Forest) (t : Bool) → is_stream (d.entry x) ≡ t → cond t (at x c) (refused 23) ≡ at e b → is_stream (d.entry e) ≡ true
    found_is x c true s k = let z : x ≡ e = cc in rw z at s
    found_is x c false s k = let z : ◌≡◌ {A = ℕ} 0 1 = cc in absurd (omega arith)

    go : (f : Found) → need_stream d f ≡ at e b → is_stream (d.entry e) ≡ true
    go (at x c) k = found_is x c (is_stream (d.entry x)) refl k
    go (refused n) k = let z : ◌≡◌ {A = ℕ} 0 1 = cc in absurd (omega arith)

-- ---- numbers

pub found_refused : (e : ℕ) (b : Forest) (a : ℕ) → at e b ≡ refused a → ⊥
found_refused e b a h = let z : ◌≡◌ {A = ℕ} 0 1 = cc in omega arith

-- two answers are 0 together
pub first_zero : (a b : ℕ) → first_of a b ≡ 0 → (a ≡ 0) × (b ≡ 0)
unfolding first_of
first_zero zero b h = (refl, h)
first_zero (suc a) b h = absurd (omega arith)
