-- A path finds the root or the object that it means, and no two objects are meant; so with one object more than another directory has, no other is meant by its path.
use Prim.Native.Nat.{ℕ, ◌+◌, ◌≤◌, ◌<◌}
use mathlib.Core.Path.{◌≡◌, refl, sym, ap, ◌∙◌}
use mathlib.Core.Logic.{inl, inr}
use mathlib.Core.Bool.{true, cond}
use mathlib.Core.List.{List, [], ◌∷◌, ◌++◌, map}
use native.Mathlib.Omega.{arith}
use native.Mathlib.Decide.{dec_lt}
use lib.Dec.{eqb}
use lib.ListN.{length, length-append}
use Rattle.format.specs.Basics.Lists.{bit, count}
use Rattle.format.specs.Layout.Name.{Name}
use Rattle.format.specs.Layout.Entry.{NOSTREAM, is_stream}
use Rattle.format.specs.Layout.Directory.{Directory}
use Rattle.format.specs.Layout.Tree.{Forest, empty, broken, node, entries, is_empty}
use Rattle.format.specs.Layout.PathOrder.{same_path}
use Rattle.format.specs.Rules.Trees.{is_object, every_node}
use Rattle.format.specs.Calls.Find.{Found, at as found_at, refused, descend}
use Rattle.theory.specs.TreeViews.{rows, child_of, whole}
use Rattle.theory.specs.TreeFind.{reached}
use Rattle.theory.specs.TreeDraw.{Draws}
use Rattle.theory.specs.TreeObjects.{Object, entry_of, objects, meant, found_entries, streams_bare, OneMore, Searched, gathered}
use Rattle.theory.proofs.Counts.{bit_self}
use Rattle.theory.proofs.Tests.{clash}
use Rattle.theory.proofs.Trees.Depth.{named_inside}
use Rattle.theory.proofs.Trees.Nodes.{shape_sound, reached_inside, reached_object, every_node_join}
use Rattle.theory.proofs.Trees.Draw.{sound_draws}
use Rattle.theory.proofs.Trees.Parts.{draws_none}
use Rattle.theory.proofs.Trees.Insert.{either}
use Rattle.theory.proofs.Trees.Objects.{objects_entries, gathered_append}
use Rattle.theory.proofs.Trees.Meant.{own_meant, found_meant}

-- ---- one directory

bare_of : (d : Directory) (l : Forest) (e : ℕ) (b r : Forest) → (is_stream (d.entry e) ≡ true → b ≡ empty) → streams_bare d l e b r ≡ true
unfolding streams_bare is_empty
bare_of d l e b r h = elim (either (is_stream (d.entry e))) [ inl q ↦ rw (q, h q) | inr q ↦ rw q ]

pub all_bare : (d : Directory) (t : Forest) → Draws d t → ((x : ℕ) → x < rows d → is_stream (d.entry x) ≡ true → child_of d x ≡ NOSTREAM) → every_node (streams_bare d) t ≡ true
unfolding every_node
all_bare d empty q h = refl
all_bare d broken q h = refl
all_bare d (node l e b r) q h =
    every_node_join (streams_bare d) l e b r
    (bare_of d l e b r (λ st. draws_none d b q.2 (sym q.0.below ∙ h e (named_inside d e q.0.name) st)))
    (all_bare d l q.1 h) (all_bare d b q.2 h) (all_bare d r q.3 h)

-- a path finds the root, or the object that it means
pub finds : (d : Directory) → Searched d → (ns : List Name)
    → found_entries (descend d (reached d 0) ns) ≡ cond (same_path ns []) (0 ∷ []) [] ++ meant ns (objects d (whole d))
finds d s ns =
    found_meant d ns 0 (whole d) s.rules.sorted
    (all_bare d (whole d) (sound_draws d (child_of d 0) (shape_sound d s.rules.shape)).0 s.leaves)
    (λ st. absurd (clash st s.root_plain_lem))

meant_in : (ns : List Name) (os : List Object) (e : ℕ) → 0 < count e (meant ns os) → 0 < count e (map entry_of os)
unfolding gathered
meant_in ns [] e h = absurd (omega arith)
meant_in ns (o ∷ os) e h =
    elim (either (same_path ns o.path)) [
      | inl q ↦
          elim (dec_lt 0 (count e (meant ns os))) [
            | yes k ↦ omega (arith, meant_in ns os e k)
            | no k ↦ let u : 0 < bit (eqb e o.entry) + count e (meant ns os) = rw q at h in omega arith
          ]
      | inr q ↦ omega (arith, meant_in ns os e (rw q at h))
    ]

pub found_some : (d : Directory) → Searched d → (n : Name) (ns : List Name) → found_entries (descend d (reached d 0) (n ∷ ns)) ≡ meant (n ∷ ns) (objects d (whole d))
unfolding same_path
found_some d s n ns = finds d s (n ∷ ns)

-- what a path with names finds is an object
pub found_object : (d : Directory) → Searched d → (n : Name) (ns : List Name) (e : ℕ) (b : Forest) → descend d (reached d 0) (n ∷ ns) ≡ found_at e b → (is_object d e ≡ true) × (e < rows d)
unfolding found_entries
found_object d s n ns e b h =
    let m : e ∷ [] ≡ meant (n ∷ ns) (objects d (whole d)) = ap found_entries (sym h) ∙ found_some d s n ns in
    let c = meant_in (n ∷ ns) (objects d (whole d)) e (omega (arith, ap (count e) m, bit_self e)) in
    let k : 0 < count e (entries (whole d)) = omega (arith, c, ap (count e) (objects_entries d (whole d))) in
    (reached_object d s.rules.shape e k, reached_inside d s.rules.shape e k)

found_few : (f : Found) → length (found_entries f) ≤ 1
unfolding found_entries
found_few (found_at e b) = omega arith
found_few (refused a) = omega arith

-- no names mean two objects
pub meant_few : (d : Directory) → Searched d → (ns : List Name) → length (meant ns (objects d (whole d))) ≤ 1
meant_few d s ns =
    omega (
      arith,
      found_few (descend d (reached d 0) ns),
      ap length (finds d s ns),
      length-append (cond (same_path ns []) (0 ∷ []) []) (meant ns (objects d (whole d))),
    )

no_length : (xs : List ℕ) → length xs ≡ 0 → xs ≡ []
no_length [] h = refl
no_length (x ∷ xs) h = absurd (omega arith)

-- ---- two directories

module _ (d d₂ : Directory) (new : Object) (m : OneMore d d₂ new) (s₂ : Searched d₂) (ns : List Name) where
  abbrev root : List ℕ
  root = cond (same_path ns []) (0 ∷ []) []

  abbrev own : List ℕ
  own = cond (same_path ns new.path) (new.entry ∷ []) []

  more_found : found_entries (descend d₂ (reached d₂ 0) ns) ≡ root ++ (meant ns m.before ++ (own ++ meant ns m.after))
  unfolding gathered
  more_found = finds d₂ s₂ ns ∙ rw (m.more_objects, gathered_append (own_meant ns) m.before (new ∷ m.after))

  module _ (h : same_path ns new.path ≡ true) where
    only : (length root ≡ 0) × (length (meant ns m.before) ≡ 0) × (length (meant ns m.after) ≡ 0)
    only =
        let f = found_few (descend d₂ (reached d₂ 0) ns) in
        let e = ap length more_found in
        let a = length-append root (meant ns m.before ++ (own ++ meant ns m.after)) in
        let b = length-append (meant ns m.before) (own ++ meant ns m.after) in
        let c = length-append own (meant ns m.after) in
        let z : length own ≡ 1 = rw h in
        (omega arith, omega arith, omega arith)

    -- no other object has that path
    pub before_unmeant : meant ns m.before ≡ []
    before_unmeant = no_length (meant ns m.before) only.1

    pub after_unmeant : meant ns m.after ≡ []
    after_unmeant = no_length (meant ns m.after) only.2
