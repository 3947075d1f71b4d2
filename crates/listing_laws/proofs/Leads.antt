-- Each object's path leads, name by name, to its own entry.
use Prim.Native.Nat.{ℕ, ◌<◌}
use mathlib.Core.Path.{◌≡◌, refl, sym, ap, ap₂, ◌∙◌, subst}
use mathlib.Core.Bool.{Bool, true, false}
use mathlib.Core.List.{List, [], ◌∷◌, ◌++◌, map}
use native.Mathlib.Omega.{arith}
use Rattle.format.specs.Basics.Lists.{all, count}
use Rattle.format.specs.Layout.Name.{Name, legal_name}
use Rattle.format.specs.Layout.Entry.{name, is_stream}
use Rattle.format.specs.Layout.Directory.{Directory}
use Rattle.format.specs.Layout.Tree.{Forest, empty, broken, node, forest, entries}
use Rattle.format.specs.Layout.Objects.{Object, object_at, objects_in, objects_of}
use Rattle.format.specs.Rules.Trees.{every_node}
use Rattle.format.specs.Calls.Find.{Found, at, enter, found_child, descend}
use Rattle.theory.specs.TreePaths.{path_below}
use Rattle.theory.proofs.Counts.{bit_self}
use Rattle.theory.proofs.Tests.{and_true_of, all_joined}
use Rattle.theory.proofs.Trees.Nodes.{every_node_apart}
use Rattle.theory.proofs.Trees.Sides.{Sorted, sorted_apart}
use Rattle.theory.proofs.Trees.Grow.{count_node}
use Rattle.history.proofs.Paths.{Findable, stream_is_leaf, leaf_empty, forest_leaf}
use Rattle.listing_laws.specs.Search.{Own, EachSibling}
use Rattle.listing_laws.specs.Leads.{Reached, Led, AllLed}
use Rattle.listing_laws.proofs.Search.{each_own}

-- ---- one name further

descend_snoc : (d : Directory) (f : Found) (ns : List Name) (n : Name) → descend d f (ns ++ (n ∷ [])) ≡ enter d (descend d f ns) n
unfolding descend
descend_snoc d f [] n = refl
descend_snoc d f (m ∷ ns) n = descend_snoc d (enter d f m) ns n

-- below an entry that is no stream, what the search for a sibling's own name finds is reached
next_reached : (d : Directory) (before : List Name) (e : ℕ) (t : Forest) (x : ℕ) (c : Forest) → Reached d before e t → is_stream (d.entry e) ≡ false → Own d t x c →
    Reached d (path_below d before x) x c
unfolding enter found_child
next_reached d before e t x c h st o = descend_snoc d (at 0 (forest d)) before (name (d.entry x)) ∙ ap (λ f. enter d f (name (d.entry x))) h ∙ rw (st, o)

-- ---- all objects of a tree

led_joined : (d : Directory) (os : List Object) (es : List ℕ) (us : List Object) (xs : List ℕ) → AllLed d os es → AllLed d us xs → AllLed d (os ++ us) (es ++ xs)
led_joined d [] [] us xs h k = k
led_joined d [] (e ∷ es) us xs h k = absurd h
led_joined d (o ∷ os) [] us xs h k = absurd h
led_joined d (o ∷ os) (e ∷ es) us xs h k = (h.0, led_joined d os es us xs h.1 k)

object_led : (d : Directory) (before : List Name) (x : ℕ) (b : Forest) → Reached d (path_below d before x) x b → all legal_name (path_below d before x) ≡ true →
    Led d (object_at d x (path_below d before x)) x
unfolding object_at
object_led d before x b h l = record { below = b; reached = h; says = refl; legal = l }

none_led : (d : Directory) (before : List Name) → AllLed d (objects_in d before empty) (entries empty)
unfolding objects_in entries
none_led d before = tt

broken_led : (d : Directory) (before : List Name) → AllLed d (objects_in d before broken) (entries broken)
unfolding objects_in entries
broken_led d before = tt

node_led : (d : Directory) (before : List Name) (l : Forest) (x : ℕ) (b r : Forest) → AllLed d (objects_in d before l) (entries l) →
    Led d (object_at d x (path_below d before x)) x → AllLed d (objects_in d (path_below d before x) b) (entries b) → AllLed d (objects_in d before r) (entries r) →
    AllLed d (objects_in d before (node l x b r)) (entries (node l x b r))
unfolding entries objects_in
node_led d before l x b r hl hx hb hr =
    let p = path_below d before x in
    led_joined d (objects_in d before l) (entries l) (object_at d x p ∷ (objects_in d p b ++ objects_in d before r)) (x ∷ (entries b ++ entries r)) hl
    (hx, led_joined d (objects_in d p b) (entries b) (objects_in d before r) (entries r) hb hr)

legal_below : (d : Directory) (before : List Name) (x : ℕ) → all legal_name before ≡ true → legal_name (name (d.entry x)) ≡ true → all legal_name (path_below d before x) ≡ true
unfolding all
legal_below d before x h k = all_joined legal_name before (name (d.entry x) ∷ []) h (and_true_of (legal_name (name (d.entry x))) true k refl)

module _ (d : Directory) where
  abbrev Legal : Forest → Type 0
  Legal t = (x : ℕ) → 0 < count x (entries t) → legal_name (name (d.entry x)) ≡ true

  tree_led : (before : List Name) (e : ℕ) (whole : Forest) → Reached d before e whole → is_stream (d.entry e) ≡ false → all legal_name before ≡ true →
      (t : Forest) → EachSibling (Own d whole) t → Sorted d t → every_node (stream_is_leaf d) t ≡ true → Legal t → AllLed d (objects_in d before t) (entries t)
  tree_led before e whole h st k empty o s f g = none_led d before
  tree_led before e whole h st k broken o s f g = broken_led d before
  tree_led before e whole h st k (node l x b r) o s f g =
      let p = sorted_apart d l x b r s in
      let q = every_node_apart (stream_is_leaf d) l x b r f in
      let hx = next_reached d before e whole x b h st o.1 in
      let kx = legal_below d before x k (g x (omega (arith, count_node x l x b r, bit_self x))) in
      node_led d before l x b r
      (tree_led before e whole h st k l o.0 p.left_sorted q.1 (λ y j. g y (omega (arith, count_node y l x b r))))
      (object_led d before x b hx kx)
      (below (is_stream (d.entry x)) refl
      (λ m. tree_led (path_below d before x) x b hx m kx b (each_own d b p.below_sorted) p.below_sorted q.2 (λ y j. g y (omega (arith, count_node y l x b r)))) q.0)
      (tree_led before e whole h st k r o.2 p.right_sorted q.3 (λ y j. g y (omega (arith, count_node y l x b r))))
    where
      below : (m : Bool) → is_stream (d.entry x) ≡ m → (is_stream (d.entry x) ≡ false → AllLed d (objects_in d (path_below d before x) b) (entries b)) →
          stream_is_leaf d l x b r ≡ true → AllLed d (objects_in d (path_below d before x) b) (entries b)
      below false u k z = k u
      below true u k z = subst (λ (t : Forest). AllLed d (objects_in d (path_below d before x) t) (entries t)) (sym (leaf_empty d l x b r z u)) (none_led d (path_below d before x))

  pub objects_led : Findable d → AllLed d (objects_of d) (entries (forest d))
  unfolding objects_of descend all
  objects_led f =
      tree_led [] 0 (forest d) refl f.root_plain refl (forest d) (each_own d (forest d) f.ordered) f.ordered (forest_leaf d f.leaves) f.legal

-- ---- what follows

pub led_map : (d : Directory) (f : Object → ℕ) → ((o : Object) (e : ℕ) → Led d o e → f o ≡ e) → (os : List Object) (es : List ℕ) → AllLed d os es → map f os ≡ es
led_map d f h [] [] k = refl
led_map d f h [] (e ∷ es) k = absurd k
led_map d f h (o ∷ os) [] k = absurd k
led_map d f h (o ∷ os) (e ∷ es) k = ap₂ ◌∷◌ (h o e k.0) (led_map d f h os es k.1)

pub led_all : (d : Directory) (q : Object → Bool) → ((o : Object) (e : ℕ) → Led d o e → q o ≡ true) → (os : List Object) (es : List ℕ) → AllLed d os es → all q os ≡ true
unfolding all
led_all d q h [] es k = refl
led_all d q h (o ∷ os) [] k = absurd k
led_all d q h (o ∷ os) (e ∷ es) k = and_true_of (q o) (all q os) (h o e k.0) (led_all d q h os es k.1)
