-- The paths of a sorted tree in listing order rise strictly; so no two are equal as names.
use Prim.Native.Nat.{ℕ, ◌<◌}
use mathlib.Core.Path.{◌≡◌, refl, ap, ◌∙◌}
use mathlib.Core.Bool.{Bool, true, not}
use mathlib.Core.List.{List, [], ◌∷◌, ◌++◌, map, map-append, append_assoc}
use native.Mathlib.Omega.{arith}
use Rattle.format.specs.Basics.Lists.{all, count}
use Rattle.format.specs.Layout.Name.{Name}
use Rattle.format.specs.Layout.PathOrder.{path_less}
use Rattle.format.specs.Layout.Entry.{name}
use Rattle.format.specs.Layout.Directory.{Directory}
use Rattle.format.specs.Layout.Tree.{Forest, empty, broken, node, siblings}
use Rattle.format.specs.Layout.Objects.{object_at, objects_in, path_of}
use Rattle.format.specs.Rules.Trees.{less, greater}
use Rattle.format.specs.Claims.PathOrder.{rising, other_path, none_twice}
use Rattle.theory.specs.TreePaths.{path_below, arranged, paths_in, Earlier}
use Rattle.theory.proofs.Counts.{count_append, bit_self}
use Rattle.theory.proofs.Tests.{both, and_true_of, all_at, all_append, all_joined, all_weaker}
use Rattle.theory.proofs.Trees.Sides.{Sorted, sorted_apart}
use Rattle.theory.proofs.Trees.Names.{names_ordered}
use Rattle.theory.proofs.Trees.PathOrder.{name_self, path_under, path_even, paths_ordered}

-- ---- two paths

-- the first name that differs decides
path_step : (before : List Name) (a c : Name) (u w : List Name) → Earlier a c → path_less (before ++ (a ∷ u)) (before ++ (c ∷ w)) ≡ true
path_step [] a c u w h = path_under a c u w h
path_step (n ∷ before) a c u w h = path_even n n (before ++ (a ∷ u)) (before ++ (c ∷ w)) (name_self n) ∙ path_step before a c u w h

-- a path comes before what is below it
path_above : (before : List Name) (m : Name) (w : List Name) → path_less before (before ++ (m ∷ w)) ≡ true
unfolding path_less
path_above [] m w = refl
path_above (n ∷ before) m w = path_even n n before (before ++ (m ∷ w)) (name_self n) ∙ path_above before m w

-- ---- lists that rise

rising_cons : (x : List Name) (xs : List (List Name)) → all (path_less x) xs ≡ true → rising xs ≡ true → rising (x ∷ xs) ≡ true
unfolding rising
rising_cons x xs h k = and_true_of (all (path_less x) xs) (rising xs) h k

-- each path of the first list comes before each of the second
abbrev Ahead : List (List Name) → List (List Name) → Type 0
Ahead xs ys = all (λ x. all (path_less x) ys) xs ≡ true

rising_joined : (xs ys : List (List Name)) → rising xs ≡ true → rising ys ≡ true → Ahead xs ys → rising (xs ++ ys) ≡ true
unfolding rising all
rising_joined [] ys h k c = k
rising_joined (x ∷ xs) ys h k c =
    let p = both (all (path_less x) xs) (rising xs) h in
    let r = both (all (path_less x) ys) (all (λ x. all (path_less x) ys) xs) c in
    rising_cons x (xs ++ ys) (all_joined (path_less x) xs ys p.0 r.0) (rising_joined xs ys p.1 k r.1)

-- no path comes before one that is equal to it
pub rising_apart : (ps : List (List Name)) → rising ps ≡ true → none_twice ps ≡ true
unfolding rising none_twice other_path
rising_apart [] h = refl
rising_apart (p ∷ ps) h =
    let u = both (all (path_less p) ps) (rising ps) h in
    and_true_of (all (other_path p) ps) (none_twice ps)
    (all_weaker (path_less p) (other_path p) (λ q l. ap not (paths_ordered.apart p q l)) ps u.0)
    (rising_apart ps u.1)

-- ---- the paths of a tree

pub object_paths : (d : Directory) (before : List Name) (t : Forest) → map path_of (objects_in d before t) ≡ paths_in d before t
unfolding objects_in paths_in arranged path_of object_at
object_paths d before empty = refl
object_paths d before broken = refl
object_paths d before (node l e b r) =
    let p = path_below d before e in
    map-append path_of (objects_in d before l) (object_at d e p ∷ (objects_in d p b ++ objects_in d before r))
    ∙ rw (map-append path_of (objects_in d p b) (objects_in d before r), object_paths d before l, object_paths d p b, object_paths d before r)

arranged_all : (q : List Name → Bool) (left : List (List Name)) (own : List Name) (below right : List (List Name)) → all q left ≡ true → q own ≡ true →
    all q below ≡ true → all q right ≡ true → all q (arranged left own below right) ≡ true
unfolding arranged all
arranged_all q left own below right hl ho hb hr = simp (all_append, hl, ho, hb, hr)

-- each begins with `before` and the name of a sibling
paths_all : (d : Directory) (q : List Name → Bool) (before : List Name) (t : Forest) →
    ((x : ℕ) → 0 < count x (siblings t) → (w : List Name) → q (before ++ (name (d.entry x) ∷ w)) ≡ true) → all q (paths_in d before t) ≡ true
unfolding siblings all paths_in
paths_all d q before empty h = refl
paths_all d q before broken h = refl
paths_all d q before (node l e b r) h =
    let p = path_below d before e in
    let n = name (d.entry e) in
    let here : 0 < count e (siblings l ++ (e ∷ siblings r)) = omega (arith, count_append e (siblings l) (e ∷ siblings r), bit_self e) in
    arranged_all q (paths_in d before l) p (paths_in d p b) (paths_in d before r)
    (paths_all d q before l (λ x k w. h x (omega (arith, count_append x (siblings l) (e ∷ siblings r))) w))
    (h e here [])
    (paths_all d q p b (λ x k w. ap q (append_assoc before (n ∷ []) (name (d.entry x) ∷ w)) ∙ h e here (name (d.entry x) ∷ w)))
    (paths_all d q before r (λ x k w. h x (omega (arith, count_append x (siblings l) (e ∷ siblings r))) w))

-- ---- they rise

-- where each part comes before the next ones
arranged_rises : (left : List (List Name)) (own : List Name) (below right : List (List Name)) → rising left ≡ true → rising below ≡ true → rising right ≡ true →
    Ahead left (own ∷ (below ++ right)) → all (path_less own) (below ++ right) ≡ true → Ahead below right → rising (arranged left own below right) ≡ true
unfolding arranged
arranged_rises left own below right l b r first middle last =
    rising_joined left (own ∷ (below ++ right)) l (rising_cons own (below ++ right) middle (rising_joined below right b r last)) first

lower_name : (d : Directory) (e : ℕ) (l : Forest) (x : ℕ) → 0 < count x (siblings l) → all (greater d e) (siblings l) ≡ true →
    Earlier (name (d.entry x)) (name (d.entry e))
unfolding greater less
lower_name d e l x k o = all_at (greater d e) (siblings l) o x k

module _ (d : Directory) (before : List Name) (e : ℕ) (r : Forest) where
  abbrev own : List Name
  own = path_below d before e

  -- what begins with the node's own path comes before all on its right
  before_right : (w : List Name) → all (less d e) (siblings r) ≡ true → all (path_less (before ++ (name (d.entry e) ∷ w))) (paths_in d before r) ≡ true
  unfolding less
  before_right w o =
      let n = name (d.entry e) in
      paths_all d (path_less (before ++ (n ∷ w))) before r (λ x k u. path_step before n (name (d.entry x)) w u (all_at (less d e) (siblings r) o x k))

  -- what a lower name begins comes before the node's own path, all below it and all on its right
  before_node : (b : Forest) (a : Name) (w : List Name) → Earlier a (name (d.entry e)) → all (less d e) (siblings r) ≡ true →
      all (path_less (before ++ (a ∷ w))) (own ∷ (paths_in d own b ++ paths_in d before r)) ≡ true
  unfolding all less
  before_node b a w h o =
      let n = name (d.entry e) in
      let q = path_less (before ++ (a ∷ w)) in
      and_true_of (q own) (all q (paths_in d own b ++ paths_in d before r)) (path_step before a n w [] h)
      (all_joined q (paths_in d own b) (paths_in d before r)
      (paths_all d q own b (λ x k u. ap q (append_assoc before (n ∷ []) (name (d.entry x) ∷ u)) ∙ path_step before a n w (name (d.entry x) ∷ u) h))
      (paths_all d q before r (λ x k u. path_step before a (name (d.entry x)) w u (names_ordered.trans a n (name (d.entry x)) h (all_at (less d e) (siblings r) o x k)))))

pub paths_rise : (d : Directory) (before : List Name) (t : Forest) → Sorted d t → rising (paths_in d before t) ≡ true
unfolding rising paths_in
paths_rise d before empty s = refl
paths_rise d before broken s = refl
paths_rise d before (node l e b r) s =
    let p = sorted_apart d l e b r s in
    let path = path_below d before e in
    let bs = paths_in d path b in
    let rs = paths_in d before r in
    arranged_rises (paths_in d before l) path bs rs (paths_rise d before l p.left_sorted) (paths_rise d path b p.below_sorted) (paths_rise d before r p.right_sorted)
    (paths_all d (λ x. all (path_less x) (path ∷ (bs ++ rs))) before l (λ x k w. before_node d before e r b (name (d.entry x)) w (lower_name d e l x k p.lefts) p.rights))
    (all_joined (path_less path) bs rs (paths_all d (path_less path) path b (λ x k w. path_above path (name (d.entry x)) w)) (before_right d before e r [] p.rights))
    (paths_all d (λ x. all (path_less x) rs) path b
    (λ x k w. ap (λ z. all (path_less z) rs) (append_assoc before (name (d.entry e) ∷ []) (name (d.entry x) ∷ w)) ∙ before_right d before e r (name (d.entry x) ∷ w) p.rights))
