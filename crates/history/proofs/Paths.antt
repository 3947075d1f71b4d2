-- The entry that a path leads to is the stream that its names mean, if there is one.
use Prim.Native.Nat.{ℕ, zero, suc, ◌<◌}
use mathlib.Core.Path.{◌≡◌, refl, sym, ap, ◌∙◌}
use mathlib.Core.Bool.{Bool, true, false, not, cond, ◌&&◌, ◌||◌, and-false}
use mathlib.Core.List.{List, [], ◌∷◌, ◌++◌}
use native.Mathlib.Omega.{arith}
use lib.Dec.{eqb}
use Rattle.format.specs.Basics.Lists.{all, count}
use Rattle.format.specs.Layout.Name.{Name, legal_name, name_equal}
use Rattle.format.specs.Layout.Entry.{NOSTREAM, name, left, right, child, is_stream}
use Rattle.format.specs.Layout.Directory.{Directory}
use Rattle.format.specs.Layout.Tree.{Forest, empty, broken, node, named, grow, forest, entries, tree_of}
use Rattle.format.specs.Rules.Trees.{every_node, sides_ordered}
use Rattle.format.specs.Calls.Paths.{Path, names, well_formed}
use Rattle.format.specs.Calls.Find.{Child, missing, present, child_named, Found, at, refused, descend, resolve, need_stream, resolve_stream, enter, found_child}
use Rattle.theory.proofs.Counts.{count_append, bit_self}
use Rattle.theory.proofs.Tests.{clash}
use Rattle.theory.proofs.Trees.Paths.{descend_refused}
use Rattle.history.proofs.Names.{legal_name_lem}
use Rattle.history.proofs.Hits.{advance, hits, hits_end, hits_off, is_none, own_hit_off, own_hit, rest}
use Rattle.history.proofs.Siblings.{advance_fails, advance_fits, child_found, child_hits, hits_child, own_hit_fits}

-- ---- the whole path

unfoldable pub found_list : Found → List ℕ
found_list (at e b) = e ∷ []
found_list (refused n) = []

-- a stream has nothing below it
unfoldable pub is_empty : Forest → Bool
is_empty empty = true
is_empty broken = false
is_empty (node l e b r) = false

unfoldable pub stream_is_leaf : Directory → Forest → ℕ → Forest → Forest → Bool
stream_is_leaf d l e b r = not (is_stream (d.entry e)) || is_empty b

is_empty_says : (t : Forest) → is_empty t ≡ true → t ≡ empty
unfolding is_empty
is_empty_says empty h = refl
is_empty_says broken h = absurd (clash h refl)
is_empty_says (node l e b r) h = absurd (clash h refl)

pub leaf_empty : (d : Directory) (l : Forest) (e : ℕ) (b r : Forest) → stream_is_leaf d l e b r ≡ true → is_stream (d.entry e) ≡ true → b ≡ empty
unfolding stream_is_leaf
leaf_empty d l e b r h st = is_empty_says b (rw st at h)

empty_hits : (d : Directory) (n : Name) (ns : List Name) → [] ≡ hits d (rest (n ∷ ns)) empty
unfolding hits
empty_hits d n ns = refl

child_hits_missing : (d : Directory) (ns : List Name) → child_hits d ns missing ≡ []
unfolding child_hits
child_hits_missing d ns = refl

child_hits_present : (d : Directory) (ns : List Name) (y : ℕ) (b : Forest) →
    child_hits d ns (present y b) ≡ cond (is_stream (d.entry y) && is_none ns) (y ∷ []) [] ++ hits d (rest ns) b
unfolding child_hits
child_hits_present d ns y b = refl

descend_hits : (d : Directory) (ns : List Name) (e : ℕ) (t : Forest) → every_node (sides_ordered d) t ≡ true → every_node (stream_is_leaf d) t ≡ true →
    (is_stream (d.entry e) ≡ true → t ≡ empty) →
    found_list (need_stream d (descend d (at e t) ns)) ≡ cond (is_stream (d.entry e) && is_none ns) (e ∷ []) [] ++ hits d (rest ns) t
unfolding descend enter found_child need_stream found_list is_none
descend_hits d [] e t o f z = rw (hits_end d t) (go (is_stream (d.entry e)))
  where
    go : (st : Bool) → found_list (cond st (at e t) (refused 23)) ≡ cond (st && true) (e ∷ []) [] ++ []
    go true = refl
    go false = refl
descend_hits d (n ∷ ns) e t o f z =
    go (is_stream (d.entry e)) (child_named d n t) z refl (hits_child d n ns t o) (λ y b. descend_hits d ns y b)
  where
    go : (st : Bool) (k : Child) → (st ≡ true → t ≡ empty) → child_named d n t ≡ k → hits d (rest (n ∷ ns)) t ≡ child_hits d ns (child_named d n t) →
        ((y : ℕ) (b : Forest) → every_node (sides_ordered d) b ≡ true → every_node (stream_is_leaf d) b ≡ true → (is_stream (d.entry y) ≡ true → b ≡ empty) →
        found_list (need_stream d (descend d (at y b) ns)) ≡ cond (is_stream (d.entry y) && is_none ns) (y ∷ []) [] ++ hits d (rest ns) b) →
        found_list (need_stream d (descend d (cond st (refused 22) (found_child k)) ns)) ≡ cond (st && false) (e ∷ []) [] ++ hits d (rest (n ∷ ns)) t
    go true k z c h r = rw (descend_refused d 22 ns, z refl) (empty_hits d n ns)
    go false missing z c h r = rw (descend_refused d 21 ns) (sym (h ∙ ap (child_hits d ns) c ∙ child_hits_missing d ns))
    go false (present y b) z c h r =
        let s = child_found d n t y b c in
        let p = s.node (stream_is_leaf d) f in
        r y b (s.node (sides_ordered d) o).3 p.3 (leaf_empty d p.0 y b p.1 p.2) ∙ sym (h ∙ ap (child_hits d ns) c ∙ child_hits_present d ns y b)

-- ---- a path that is badly formed means nothing

rest_illegal : (n : Name) (ns : List Name) → legal_name n ≡ true → all legal_name (n ∷ ns) ≡ false → all legal_name ns ≡ false
unfolding all
rest_illegal n ns h z = rw h at z

illegal_not_none : (ns : List Name) → all legal_name ns ≡ false → is_none ns ≡ false
unfolding all is_none
illegal_not_none [] z = absurd (clash refl z)
illegal_not_none (n ∷ ns) z = refl

legal_hits : (d : Directory) (t : Forest) → ((x : ℕ) → 0 < count x (entries t) → legal_name (name (d.entry x)) ≡ true) → (ns : List Name) →
    all legal_name ns ≡ false → hits d (rest ns) t ≡ []
unfolding hits entries
legal_hits d empty h ns z = refl
legal_hits d broken h ns z = refl
legal_hits d (node l y b r) h [] z = hits_end d (node l y b r)
legal_hits d (node l y b r) h (n ∷ ns) z =
    let a1 = count_append y (entries l) (y ∷ (entries b ++ entries r)) in
    rw (
      legal_hits d l (λ x q. h x (omega (arith, count_append x (entries l) (y ∷ (entries b ++ entries r))))) (n ∷ ns) z,
      legal_hits d r (λ x q. h x (omega (arith, count_append x (entries l) (y ∷ (entries b ++ entries r)), count_append x (entries b) (entries r)))) (n ∷ ns) z,
    )
    (go (name_equal n (name (d.entry y))) refl (h y (omega (arith, bit_self y)))
    (legal_hits d b (λ x q. h x (omega (arith, count_append x (entries l) (y ∷ (entries b ++ entries r)), count_append x (entries b) (entries r))))))
  where
    go : (t : Bool) → name_equal n (name (d.entry y)) ≡ t → legal_name (name (d.entry y)) ≡ true →
        ((ns : List Name) → all legal_name ns ≡ false → hits d (rest ns) b ≡ []) →
        own_hit d (rest (n ∷ ns)) y ++ (hits d (advance (rest (n ∷ ns)) (name (d.entry y))) b ++ []) ≡ []
    go false e k r = let u = advance_fails n (name (d.entry y)) ns e in rw (own_hit_off d (rest (n ∷ ns)) y u, u, hits_off d b)
    go true e k r =
        let u = advance_fits n (name (d.entry y)) ns e in
        let w = rest_illegal n ns (legal_name_lem n (name (d.entry y)) e k) z in
        rw (own_hit_fits d n ns y e, illegal_not_none ns w, and-false (is_stream (d.entry y)), u, r ns w)

-- ---- the forest of a directory

grow_nostream : (d : Directory) (depth : ℕ) → grow d depth NOSTREAM ≡ empty
unfolding grow tree_of
grow_nostream d zero = refl
grow_nostream d (suc depth) = refl

tree_every : (q : Forest → ℕ → Forest → Forest → Bool) (none some : Bool) (t : Forest) → (some ≡ true → every_node q t ≡ true) → every_node q (tree_of none some t) ≡ true
unfolding tree_of every_node
tree_every q true some t h = refl
tree_every q false true t h = h refl
tree_every q false false t h = refl

node_every : (q : Forest → ℕ → Forest → Forest → Bool) (l : Forest) (x : ℕ) (b r : Forest) → q l x b r ≡ true → every_node q l ≡ true → every_node q b ≡ true →
    every_node q r ≡ true →
    every_node q (node l x b r) ≡ true
unfolding every_node
node_every q l x b r h p k s = rw (h, p, k, s)

empty_is_empty : is_empty empty ≡ true
unfolding is_empty
empty_is_empty = refl

leaf_of_empty : (d : Directory) (l : Forest) (e : ℕ) (b r : Forest) → (is_stream (d.entry e) ≡ true → b ≡ empty) → stream_is_leaf d l e b r ≡ true
unfolding stream_is_leaf
leaf_of_empty d l e b r h = go (is_stream (d.entry e)) h
  where
    go : (st : Bool) → (st ≡ true → b ≡ empty) → (not st || is_empty b) ≡ true
    go true k = ap is_empty (k refl) ∙ empty_is_empty
    go false k = refl

-- where the child of every stream is NOSTREAM, no stream has anything below it
grow_leaf : (d : Directory) → ((x : ℕ) → named d x ≡ true → is_stream (d.entry x) ≡ true → child (d.entry x) ≡ NOSTREAM) → (depth x : ℕ) →
    every_node (stream_is_leaf d) (grow d depth x) ≡ true
unfolding grow
grow_leaf d h zero x = tree_every (stream_is_leaf d) (eqb x NOSTREAM) false broken (λ z. absurd (clash z refl))
grow_leaf d h (suc depth) x =
    let l = grow d depth (left (d.entry x)) in
    let b = grow d depth (child (d.entry x)) in
    let r = grow d depth (right (d.entry x)) in
    tree_every (stream_is_leaf d) (eqb x NOSTREAM) (named d x) (node l x b r)
    (λ m. node_every (stream_is_leaf d) l x b r (leaf_of_empty d l x b r (λ st. ap (grow d depth) (h x m st) ∙ grow_nostream d depth))
    (grow_leaf d h depth (left (d.entry x))) (grow_leaf d h depth (child (d.entry x))) (grow_leaf d h depth (right (d.entry x))))

pub forest_leaf : (d : Directory) → ((x : ℕ) → named d x ≡ true → is_stream (d.entry x) ≡ true → child (d.entry x) ≡ NOSTREAM) → every_node (stream_is_leaf d) (forest d) ≡ true
unfolding forest
forest_leaf d h = grow_leaf d h d.count (child (d.entry 0))

found_list_refused : (d : Directory) → found_list (need_stream d (refused 20)) ≡ []
unfolding found_list need_stream
found_list_refused d = refl

-- what the find needs to know of a directory
pub record Findable (d : Directory) : Type 0 where
  pub ordered : every_node (sides_ordered d) (forest d) ≡ true
  pub leaves : (x : ℕ) → named d x ≡ true → is_stream (d.entry x) ≡ true → child (d.entry x) ≡ NOSTREAM
  pub legal : (x : ℕ) → 0 < count x (entries (forest d)) → legal_name (name (d.entry x)) ≡ true
  pub root_plain : is_stream (d.entry 0) ≡ false

pub path_hits : (d : Directory) (p : Path) → Findable d → found_list (resolve_stream d p) ≡ hits d (rest (names p)) (forest d)
unfolding resolve_stream resolve well_formed
path_hits d p f = go (all legal_name (names p)) refl
  where
    go : (t : Bool) → all legal_name (names p) ≡ t → found_list (need_stream d (cond t (descend d (at 0 (forest d)) (names p)) (refused 20)))
        ≡ hits d (rest (names p)) (forest d)
    go true e =
        descend_hits d (names p) 0 (forest d) f.ordered (forest_leaf d f.leaves) (λ st. absurd (clash st f.root_plain))
        ∙ rw f.root_plain
    go false e = found_list_refused d ∙ sym (legal_hits d (forest d) f.legal (names p) e)
