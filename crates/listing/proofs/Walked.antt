-- The walk in listing order: some lines are done, and the stack has the rest. An entry's parent is known by the length of its path, since
-- the path of the last line begins with it.
use Prim.Native.Nat.{ℕ, ◌+◌, ◌*◌, ◌≤◌, ◌<◌}
use mathlib.Core.Path.{◌≡◌, refl, ap, sym, ◌∙◌, subst}
use mathlib.Core.Bool.{true}
use mathlib.Core.List.{List, [], ◌∷◌, ◌++◌, append_assoc, append-nil}
use native.Mathlib.Omega.{arith}
use lib.ListN.{length, take, length-append}
use Rattle.format.specs.Basics.Bytes.{Bytes}
use Rattle.format.specs.Layout.Name.{slash}
use Rattle.format.specs.Layout.Entry.{name}
use Rattle.format.specs.Layout.Directory.{Directory}
use Rattle.format.specs.Layout.Tree.{entries}
use Rattle.format.specs.Rules.Entries.{entry_rules}
use Rattle.format.specs.Rules.Trees.{sound, is_object, every_node}
use Rattle.format.specs.Calls.Text.{print_name}
use Rattle.format.specs.Calls.Listing.{line, lines}
use Rattle.theory.specs.TreeViews.{rows, left_of, right_of, child_of, at, whole, shape_ok, Standing, NodeTest}
use Rattle.theory.proofs.Trees.Nodes.{every_node_apart, shape_sound, objects_nodes, entries_few_lem}
use Rattle.theory.proofs.Trees.Stand.{standing, tree_ind}
use Rattle.lines.specs.Lines.{before}
use Rattle.listing.specs.Walks.{spine, path_length, turned, Turning}
use Rattle.lines.proofs.LineLengths.{before_length_lem}
use Rattle.listing.proofs.Prints.{print_some, print_most, before_least, before_most, before_whole, before_front, before_kept}

-- a tree of objects
abbrev pub object_node : Directory → NodeTest
object_node e l x b r = is_object e x

pub record Stands (e : Directory) (x : ℕ) : Type 0 where
  pub stands : Standing e x
  pub objects : every_node (object_node e) (at e x) ≡ true

module _ (e : Directory) where
  -- the path of x, where its parent's is the first n bytes of a text
  unfoldable pub path_of : Bytes → ℕ → ℕ → Bytes
  path_of t x n = before n t ++ print_name (name (e.entry x))

  -- the lines still to come
  unfoldable pub to_come : Bytes → List (ℕ × ℕ) → Bytes
  to_come t [] = []
  to_come t (p ∷ ps) =
      line e p.0 (path_of t p.0 p.1)
      ++ (lines e (path_of t p.0 p.1 ++ (slash ∷ [])) (at e (child_of e p.0)) ++ (lines e (before p.1 t) (at e (right_of e p.0)) ++ to_come t ps))

  -- and how many they are
  unfoldable pub count_come : List (ℕ × ℕ) → ℕ
  count_come [] = 0
  count_come (p ∷ ps) = 1 + (length (entries (at e (child_of e p.0))) + (length (entries (at e (right_of e p.0))) + count_come ps))

  -- each pair's entry stands, and from the last pair on the parents' paths get no longer
  abbrev pub AllStand : ℕ → List (ℕ × ℕ) → Type 0
  AllStand m [] = Unit {0}
  AllStand m (p ∷ ps) = Stands e p.0 × (p.1 ≤ m) × AllStand p.1 ps

  -- ---- the stack

  stand_wider : (m n : ℕ) (ps : List (ℕ × ℕ)) → m ≤ n → AllStand m ps → AllStand n ps
  stand_wider m n [] h s = tt
  stand_wider m n (p ∷ ps) h s = (s.0, omega (arith, s.1), s.2)

  pub come_height : (ps : List (ℕ × ℕ)) → length ps ≤ count_come ps
  unfolding count_come
  come_height [] = omega arith
  come_height (p ∷ ps) = omega (arith, come_height ps)

  -- only the first bytes of the text matter
  come_front : (m : ℕ) (t s : Bytes) → take m t ≡ take m s → (ps : List (ℕ × ℕ)) → AllStand m ps → to_come t ps ≡ to_come s ps
  unfolding to_come path_of
  come_front m t s q [] a = refl
  come_front m t s q (p ∷ ps) a =
      let b = before_front p.1 m t s a.1 q in
      let r = come_front m t s q ps (stand_wider p.1 m ps a.1 a.2) in
      rw (b, r)

  -- ---- a tree put on the stack

  pub come_spine : (x : ℕ) → sound (at e x) ≡ true → (t : Bytes) (n : ℕ) (ps : List (ℕ × ℕ))
      → to_come t (spine n (at e x) ++ ps) ≡ lines e (before n t) (at e x) ++ to_come t ps
  unfolding to_come spine lines path_of
  come_spine =
      tree_ind e (λ x f. (t : Bytes) (n : ℕ) (ps : List (ℕ × ℕ)) → to_come t (spine n f ++ ps) ≡ lines e (before n t) f ++ to_come t ps)
      (λ x z t n ps. refl)
      (λ x s hl hb hr t n ps.
      ap (to_come t) (append_assoc (spine n (at e (left_of e x))) ((x, n) ∷ []) ps)
      ∙ hl t n ((x, n) ∷ ps)
      ∙ simp append_assoc)

  pub count_spine : (x : ℕ) → sound (at e x) ≡ true → (n : ℕ) (ps : List (ℕ × ℕ)) → count_come (spine n (at e x) ++ ps) ≡ length (entries (at e x)) + count_come ps
  unfolding count_come spine entries
  count_spine =
      tree_ind e (λ x f. (n : ℕ) (ps : List (ℕ × ℕ)) → count_come (spine n f ++ ps) ≡ length (entries f) + count_come ps)
      (λ x z n ps. omega arith)
      (λ x s hl hb hr n ps.
      let l = entries (at e (left_of e x)) in
      let b = entries (at e (child_of e x)) in
      let r = entries (at e (right_of e x)) in
      ap count_come (append_assoc (spine n (at e (left_of e x))) ((x, n) ∷ []) ps)
      ∙ hl n ((x, n) ∷ ps)
      ∙ omega (arith, length-append l (x ∷ (b ++ r)), length-append b r))

  pub stand_spine : (x : ℕ) → sound (at e x) ≡ true → every_node (object_node e) (at e x) ≡ true
      → (m n : ℕ) (ps : List (ℕ × ℕ)) → n ≤ m → AllStand n ps → AllStand m (spine n (at e x) ++ ps)
  unfolding spine
  stand_spine =
      tree_ind e (λ x f. every_node (object_node e) f ≡ true → (m n : ℕ) (ps : List (ℕ × ℕ)) → n ≤ m → AllStand n ps → AllStand m (spine n f ++ ps))
      (λ x z o m n ps h a. stand_wider n m ps h a)
      (λ x s hl hb hr o m n ps h a.
      let u = every_node_apart (object_node e) (at e (left_of e x)) x (at e (child_of e x)) (at e (right_of e x)) o in
      subst (AllStand m) (sym (append_assoc (spine n (at e (left_of e x))) ((x, n) ∷ []) ps))
      (hl u.1 m n ((x, n) ∷ ps) h (record { stands = s; objects = rw (standing e x s).tree o }, omega arith, a)))

-- ---- the walk

-- k lines are done, the last one with the path t
pub record Walked (e : Directory) (t done : Bytes) (k : ℕ) (ps : List (ℕ × ℕ)) : Type 0 where
  pub same : done ++ to_come e t ps ≡ lines e [] (whole e)
  pub count : k + count_come e ps ≡ length (entries (whole e))
  pub stands : AllStand e (length t) ps
  pub short : length t ≤ 156 * k

module _ (e : Directory) (ok : shape_ok e ≡ true) where
  whole_objects : every_node (object_node e) (whole e) ≡ true
  whole_objects = objects_nodes e ok (object_node e) (λ x l o. o)

  pub walk_start : Walked e [] [] 0 (spine 0 (whole e) ++ [])
  unfolding to_come count_come before
  walk_start = record {
    same = come_spine e (child_of e 0) (shape_sound e ok) [] 0 [] ∙ append-nil (lines e [] (whole e));
    count = omega (arith, count_spine e (child_of e 0) (shape_sound e ok) 0 []);
    stands = stand_spine e (child_of e 0) (shape_sound e ok) whole_objects 0 0 [] (omega arith) tt;
    short = omega arith;
  }

pub walk_end : {e : Directory} {t done : Bytes} {k : ℕ} → Walked e t done k [] → (done ≡ lines e [] (whole e)) × (k ≡ length (entries (whole e)))
unfolding to_come count_come
walk_end {done = done} w = (sym (append-nil done) ∙ w.same, omega (arith, w.count))

-- a turn takes the entry x off, whose parent's path has n bytes
module _ {e : Directory} (rules : entry_rules e ≡ true) (ok : shape_ok e ≡ true) {t done : Bytes} {k x n : ℕ} {ps : List (ℕ × ℕ)}
    (w : Walked e t done k ((x, n) ∷ ps)) where
  abbrev path : Bytes
  path = path_of e t x n

  pub top_stands : Standing e x
  top_stands = w.stands.0.stands

  parts : every_node (object_node e) (at e (left_of e x)) ≡ true × (every_node (object_node e) (at e (child_of e x)) ≡ true) × (every_node (object_node e) (at e (right_of e x)) ≡ true) × (is_object e x ≡ true)
  parts =
      let u = every_node_apart (object_node e) (at e (left_of e x)) x (at e (child_of e x)) (at e (right_of e x)) (rw (standing e x top_stands).tree at w.stands.0.objects) in
      (u.1, u.2, u.3, u.0)

  pub top_parent : n ≤ length t
  top_parent = w.stands.1

  pub path_long : length path ≡ path_length e x n
  unfolding path_of path_length
  path_long = length-append (before n t) (print_name (name (e.entry x))) ∙ ap (λ (m : ℕ). m + length (print_name (name (e.entry x)))) (before_length_lem n t top_parent)

  print_fits : (0 < length (print_name (name (e.entry x)))) × (length (print_name (name (e.entry x))) ≤ 155)
  print_fits = (print_some e rules x top_stands.inside parts.3, print_most e rules x top_stands.inside parts.3)

  path_more : (n < length path) × (length path ≤ 156 * (k + 1))
  unfolding path_length
  path_more = (omega (arith, path_long, print_fits.0, before_least n), omega (arith, path_long, print_fits.1, before_most n, top_parent, w.short))

  come : k + (1 + (length (entries (at e (child_of e x))) + (length (entries (at e (right_of e x))) + count_come e ps))) ≡ length (entries (whole e))
  unfolding count_come
  come = w.count

  pub top_turning : rows e ≤ 0x100_0000 → (m : ℕ) → rows e ≤ m → Turning e m (length ps) x n
  top_turning h m l = record {
    stands = top_stands;
    room = omega (arith, come, come_height e ps, entries_few_lem e ok);
    fits = omega (arith, come, entries_few_lem e ok, top_parent, w.short);
  }

  -- the listing is long enough for x's line
  pub line_room : length done + length (line e x path) ≤ length (lines e [] (whole e))
  unfolding to_come
  line_room =
      let l = line e x path in
      let r = lines e (path ++ (slash ∷ [])) (at e (child_of e x)) ++ (lines e (before n t) (at e (right_of e x)) ++ to_come e t ps) in
      omega (arith, ap length w.same, length-append done (l ++ r), length-append l r)

  -- the lines behind x's own, by its own path
  path_kept : take n path ≡ take n t
  unfolding path_of
  path_kept = before_kept n t (print_name (name (e.entry x))) top_parent

  rest_same : to_come e path (turned e x n ps)
      ≡ lines e (path ++ (slash ∷ [])) (at e (child_of e x)) ++ (lines e (before n t) (at e (right_of e x)) ++ to_come e t ps)
  unfolding turned
  rest_same =
      let s = standing e x top_stands in
      let b = spine n (at e (right_of e x)) ++ ps in
      let l : path_length e x n ≡ length path = sym path_long in
      come_spine e (child_of e x) s.below_sound path (path_length e x n) b
      ∙ rw (come_spine e (right_of e x) s.right_sound path n ps, come_front e n path t path_kept ps w.stands.2, before_front n n path t (omega arith) path_kept, before_whole (path_length e x n) path l (omega (arith, path_more.0, l)))

  pub walk_more : Walked e path (done ++ line e x path) (k + 1) (turned e x n ps)
  unfolding turned to_come
  walk_more =
      let s = standing e x top_stands in
      let right = stand_spine e (right_of e x) s.right_sound parts.2 n n ps (omega arith) w.stands.2 in
      let b = spine n (at e (right_of e x)) ++ ps in
      record {
        same = append_assoc done (line e x path) (to_come e path (turned e x n ps))
            ∙ ap (λ (r : Bytes). done ++ (line e x path ++ r)) rest_same
            ∙ w.same;
        count = omega (arith, come, count_spine e (child_of e x) s.below_sound (path_length e x n) b, count_spine e (right_of e x) s.right_sound n ps);
        stands = stand_spine e (child_of e x) s.below_sound parts.1 (length path) (path_length e x n) b (omega (arith, path_long))
            (stand_wider e n (path_length e x n) b (omega (arith, path_long, path_more.0)) right);
        short = path_more.1;
      }
