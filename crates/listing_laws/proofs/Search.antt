-- Among ordered siblings the search for an entry's own name finds that entry.
use Prim.Native.Nat.{ℕ, ◌<◌}
use mathlib.Core.Path.{◌≡◌, refl, ◌∙◌}
use mathlib.Core.Bool.{true}
use mathlib.Core.List.{◌∷◌}
use native.Mathlib.Omega.{arith}
use Rattle.format.specs.Basics.Lists.{count}
use Rattle.format.specs.Layout.Name.{Name}
use Rattle.format.specs.Layout.Entry.{name}
use Rattle.format.specs.Layout.Directory.{Directory}
use Rattle.format.specs.Layout.Tree.{Forest, empty, broken, node, siblings}
use Rattle.format.specs.Rules.Trees.{sides_ordered}
use Rattle.format.specs.Calls.Find.{present, or_else, child_named}
use Rattle.theory.proofs.Counts.{count_append, bit_self}
use Rattle.theory.proofs.Trees.Nodes.{every_node_apart}
use Rattle.theory.proofs.Trees.Sides.{Sorted, sorted_apart}
use Rattle.theory.proofs.Trees.Names.{names_ordered}
use Rattle.theory.proofs.Trees.PathOrder.{name_self}
use Rattle.history.proofs.Names.{equal_upper_not_lower}
use Rattle.history.proofs.Siblings.{no_sibling_child, ordered_left, ordered_right}
use Rattle.listing_laws.specs.Search.{in_node, Own, EachSibling}

each_weaker : (P Q : ℕ → Forest → Type 0) (t : Forest) → ((e : ℕ) (b : Forest) → 0 < count e (siblings t) → P e b → Q e b) → EachSibling P t → EachSibling Q t
unfolding siblings
each_weaker P Q empty h p = tt
each_weaker P Q broken h p = tt
each_weaker P Q (node l e b r) h p = (
  each_weaker P Q l (λ x c k u. h x c (omega (arith, count_append x (siblings l) (e ∷ siblings r))) u) p.0,
  h e b (omega (arith, count_append e (siblings l) (e ∷ siblings r), bit_self e)) p.1,
  each_weaker P Q r (λ x c k u. h x c (omega (arith, count_append x (siblings l) (e ∷ siblings r))) u) p.2,
)

-- the search looks at every sibling
searched : (d : Directory) (n : Name) (l : Forest) (e : ℕ) (b r : Forest) → child_named d n (node l e b r) ≡ in_node d n l e b r
unfolding child_named in_node
searched d n l e b r = refl

module _ (d : Directory) (l : Forest) (e : ℕ) (b r : Forest) where
  left_own : (x : ℕ) (c : Forest) → Own d l x c → in_node d (name (d.entry x)) l e b r ≡ present x c
  unfolding in_node or_else
  left_own x c u = rw u

  module _ (o : sides_ordered d l e b r ≡ true) where
    node_own : in_node d (name (d.entry e)) l e b r ≡ present e b
    unfolding in_node or_else
    node_own =
        let n = name (d.entry e) in
        rw (no_sibling_child d n l (λ x k. equal_upper_not_lower n (name (d.entry x)) n (name_self n) (ordered_left d l e b r o x k)), name_self n)

    right_own : (x : ℕ) (c : Forest) → 0 < count x (siblings r) → Own d r x c → in_node d (name (d.entry x)) l e b r ≡ present x c
    unfolding in_node or_else
    right_own x c k u =
        let n = name (d.entry x) in
        let m = name (d.entry e) in
        let up = ordered_right d l e b r o x k in
        rw (
          no_sibling_child d n l (λ y j. equal_upper_not_lower n (name (d.entry y)) n (name_self n) (names_ordered.trans (name (d.entry y)) m n (ordered_left d l e b r o y j) up)),
          equal_upper_not_lower n m n (name_self n) up,
        )
        u

pub each_own : (d : Directory) (t : Forest) → Sorted d t → EachSibling (Own d t) t
each_own d empty s = tt
each_own d broken s = tt
each_own d (node l e b r) s =
    let p = sorted_apart d l e b r s in
    let o = (every_node_apart (sides_ordered d) l e b r s).0 in (
      each_weaker (Own d l) (Own d (node l e b r)) l (λ x c k u. searched d (name (d.entry x)) l e b r ∙ left_own d l e b r x c u) (each_own d l p.left_sorted),
      searched d (name (d.entry e)) l e b r ∙ node_own d l e b r o,
      each_weaker (Own d r) (Own d (node l e b r)) r (λ x c k u. searched d (name (d.entry x)) l e b r ∙ right_own d l e b r o x c k u) (each_own d r p.right_sorted),
    )
