-- The child of a name, found by a descent: at each entry the order of names says which side cannot have it.
use mathlib.Core.Path.{◌≡◌, refl, sym, ap, ◌∙◌, subst}
use mathlib.Core.Logic.{◌≢◌}
use mathlib.Core.Bool.{Bool, true, false, cond, not-eq-not}
use Prim.Native.Nat.{ℕ, ◌<◌}
use Rattle.format.specs.Basics.Lists.{all}
use Rattle.format.specs.Layout.Name.{Name, name_less, name_equal}
use Rattle.format.specs.Layout.Entry.{NOSTREAM, name}
use Rattle.format.specs.Layout.Directory.{Directory}
use Rattle.format.specs.Layout.Tree.{Forest, empty, broken, node, siblings}
use Rattle.format.specs.Rules.Trees.{is_object, less, greater, sides_ordered, every_node}
use Rattle.format.specs.Calls.Find.{Child, missing, present, or_else, child_named}
use Rattle.theory.specs.TreeViews.{rows, left_of, right_of, child_of, at, Standing}
use Rattle.theory.specs.TreeOrder.{Ordered, Rules}
use Rattle.theory.specs.TreeFind.{NamesOrdered, Searchable, Seeking}
use Rattle.theory.proofs.Tests.{clash}
use Rattle.theory.proofs.Trees.Grow.{grow_none}
use Rattle.theory.proofs.Trees.Stand.{stand, standing}
use Rattle.theory.proofs.Trees.Nodes.{shape_sound, object_counts, object_stands, every_node_inside}
use Rattle.theory.proofs.Trees.Sides.{Parts, sorted_apart, siblings_apart}

-- ---- the order of entries is the order of their names

pub entries_ordered : (d : Directory) → NamesOrdered name_less name_equal → Ordered (less d)
unfolding less
entries_ordered d o = record {
  strict = λ x. o.strict (name (d.entry x));
  trans = λ x y z. o.trans (name (d.entry x)) (name (d.entry y)) (name (d.entry z));
}

module _ (o : NamesOrdered name_less name_equal) (a b : Name) where
  -- names in order, either way round, are not equal
  pub less_differs : name_less a b ≡ true → name_equal a b ≡ false
  less_differs l = (not-eq-not {b = false}).0 (λ e. clash (o.equal_right a b a e ∙ l) (o.strict a))

  pub more_differs : name_less b a ≡ true → name_equal a b ≡ false
  more_differs l = (not-eq-not {b = false}).0 (λ e. clash (o.equal_left a b a e ∙ l) (o.strict a))

-- ---- where a search may start

module _ (d : Directory) where
  module _ (x : ℕ) (h : x ≢ NOSTREAM) (k : Searchable d x) where
    pub searchable_stands : Standing d x
    searchable_stands = stand d x h k.tree_sound

    pub searchable_parts : Parts d (at d (left_of d x)) x (at d (child_of d x)) (at d (right_of d x))
    searchable_parts =
        sorted_apart d (at d (left_of d x)) x (at d (child_of d x)) (at d (right_of d x))
        (subst (λ (t : Forest). every_node (sides_ordered d) t ≡ true) (standing d x searchable_stands).tree k.sorted)

    -- the three parts of a searchable tree
    pub searchable_left : Searchable d (left_of d x)
    searchable_left = record { tree_sound = (standing d x searchable_stands).left_sound; sorted = searchable_parts.left_sorted }

    pub searchable_child : Searchable d (child_of d x)
    searchable_child = record { tree_sound = (standing d x searchable_stands).below_sound; sorted = searchable_parts.below_sorted }

    pub searchable_right : Searchable d (right_of d x)
    searchable_right = record { tree_sound = (standing d x searchable_stands).right_sound; sorted = searchable_parts.right_sorted }

  pub searchable_root : Rules d → Searchable d (child_of d 0)
  searchable_root r = record { tree_sound = shape_sound d r.shape; sorted = r.sorted }

  pub searchable_object : Rules d → (x : ℕ) → x < rows d → is_object d x ≡ true → Searchable d (child_of d x)
  searchable_object r x l o =
      let s = object_stands d r.shape x l o in
      searchable_child x s.real (record {
        tree_sound = s.tree_sound;
        sorted = every_node_inside d (sides_ordered d) (child_of d 0) (shape_sound d r.shape) r.sorted x (object_counts d r.shape x l o);
      })

-- ---- the descent

pub or_missing : (c : Child) → or_else c missing ≡ c
unfolding or_else
or_missing missing = refl
or_missing (present e b) = refl

module _ (d : Directory) (want : Name) (o : NamesOrdered name_less name_equal) where
  -- what comes before an entry of that name has another
  before_differs : (x y : ℕ) → name_equal want (name (d.entry x)) ≡ true → less d y x ≡ true → name_equal want (name (d.entry y)) ≡ false
  unfolding less
  before_differs x y e l = more_differs o want (name (d.entry y)) (o.equal_right want (name (d.entry x)) (name (d.entry y)) e ∙ l)

  -- where x comes after the name, so does all after x; where x comes before it, so does all before x
  right_differs : (x y : ℕ) → name_less want (name (d.entry x)) ≡ true → less d x y ≡ true → name_equal want (name (d.entry y)) ≡ false
  unfolding less
  right_differs x y l m = less_differs o want (name (d.entry y)) (o.trans want (name (d.entry x)) (name (d.entry y)) l m)

  left_differs : (x y : ℕ) → name_less (name (d.entry x)) want ≡ true → less d y x ≡ true → name_equal want (name (d.entry y)) ≡ false
  unfolding less
  left_differs x y l m = more_differs o want (name (d.entry y)) (o.trans (name (d.entry y)) (name (d.entry x)) want m l)

  -- a tree whose siblings all have other names
  none_in : (p : ℕ → Bool) → ((x : ℕ) → p x ≡ true → name_equal want (name (d.entry x)) ≡ false)
      → (t : Forest) → all p (siblings t) ≡ true → child_named d want t ≡ missing
  unfolding child_named or_else
  none_in p h empty a = refl
  none_in p h broken a = refl
  none_in p h (node l e b r) a =
      let u = siblings_apart p l e b r a in
      rw (none_in p h l u.0, h e u.1, none_in p h r u.2)

  pub seek_start : (top : ℕ) → Searchable d top → Seeking d want top top
  seek_start top k = record { here = k; same = refl }

  module _ (top x : ℕ) (k : Seeking d want top x) where
    pub seek_none : x ≡ NOSTREAM → child_named d want (at d top) ≡ missing
    unfolding child_named
    seek_none e = sym k.same ∙ rw (grow_none d (rows d) x e)

    module _ (h : x ≢ NOSTREAM) where
      parts : Parts d (at d (left_of d x)) x (at d (child_of d x)) (at d (right_of d x))
      parts = searchable_parts d x h k.here

      unrolled : child_named d want (at d top)
          ≡ or_else (child_named d want (at d (left_of d x)))
          (or_else (cond (name_equal want (name (d.entry x))) (present x (at d (child_of d x))) missing) (child_named d want (at d (right_of d x))))
      unfolding child_named
      unrolled = sym k.same ∙ ap (child_named d want) (standing d x (searchable_stands d x h k.here)).tree

      pub seek_hit : name_equal want (name (d.entry x)) ≡ true → child_named d want (at d top) ≡ present x (at d (child_of d x))
      unfolding or_else greater
      seek_hit e =
          let n = none_in (greater d x) (λ y m. before_differs x y e m) (at d (left_of d x)) parts.lefts in
          unrolled ∙ rw (n, e)

      pub seek_left : name_less want (name (d.entry x)) ≡ true → Seeking d want top (left_of d x)
      unfolding or_else
      seek_left l =
          let e = less_differs o want (name (d.entry x)) l in
          let n = none_in (less d x) (λ y m. right_differs x y l m) (at d (right_of d x)) parts.rights in
          record { here = searchable_left d x h k.here; same = sym (unrolled ∙ rw (n, e) (or_missing (child_named d want (at d (left_of d x))))) }

      pub seek_right : name_less (name (d.entry x)) want ≡ true → Seeking d want top (right_of d x)
      unfolding or_else greater
      seek_right l =
          let e = more_differs o want (name (d.entry x)) l in
          let n = none_in (greater d x) (λ y m. left_differs x y l m) (at d (left_of d x)) parts.lefts in
          record { here = searchable_right d x h k.here; same = sym (unrolled ∙ rw (n, e)) }
