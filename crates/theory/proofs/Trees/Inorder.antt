-- The walk in order, turn by turn: its start, a turn that goes down, visits an entry or begins the next tree, what fails, and its end.
use mathlib.Core.Path.{◌≡◌, refl, sym, ap, ◌∙◌}
use mathlib.Core.Logic.{◌≢◌}
use mathlib.Core.Bool.{Bool, true, false, not, ◌&&◌, and-true, and-false, and_assoc}
use mathlib.Core.List.{List, [], ◌∷◌, ◌++◌, append-nil}
use Prim.Native.Nat.{ℕ, zero, suc, ◌+◌}
use native.Mathlib.Omega.{arith}
use borrow.Author.Tests.{lt-ltb}
use lib.ListN.{length, get_or, set}
use Rattle.format.specs.Basics.Lists.{all}
use Rattle.format.specs.Layout.Entry.{NOSTREAM}
use Rattle.format.specs.Layout.Directory.{Directory}
use Rattle.format.specs.Layout.Tree.{siblings}
use Rattle.format.specs.Rules.Trees.{sound, less, red, tree_rules}
use Rattle.theory.specs.TreeViews.{rows, left_of, right_of, child_of, at, whole, sound_at, shape_ok, Standing}
use Rattle.theory.specs.TreeWalk.{fresh, covered}
use Rattle.theory.specs.TreeInorder.{after, rising, nodes_right, tree_right, unwind, to_come, behind, follows, following, stack_right, right_at, left_to_test, object_in, Inorder}
use Rattle.theory.proofs.Tests.{both, and_true_of, false_of, clash}
use Rattle.theory.proofs.Trees.Grow.{grow_none}
use Rattle.theory.proofs.Trees.Depth.{named_inside}
use Rattle.theory.proofs.Trees.Stand.{stand, standing}
use Rattle.theory.proofs.Trees.Nodes.{shape_sound}
use Rattle.theory.proofs.Trees.Marks.{fresh_apart}
use Rattle.theory.proofs.Trees.Walk.{walk_start, walk_end, end_sound}
use Rattle.theory.proofs.Trees.Coming.{coming_down, coming_up, coming_none}
use Rattle.theory.proofs.Trees.Descent.{walk_named, go_down, go_up, go_empty, go_wrong, go_next}
use Rattle.theory.proofs.Trees.Tested.{rules_tested}
use Rattle.theory.proofs.Trees.Find.{entries_ordered}
use Rattle.theory.proofs.Trees.Names.{names_ordered}

-- ---- what is left of a list of siblings

module _ (lt : ℕ → ℕ → Bool) where
  following_more : (before y : ℕ) (ys : List ℕ) → following lt before (y ∷ ys) ≡ (follows lt before y && following lt (suc y) ys)
  unfolding following rising after
  following_more zero y ys = refl
  following_more (suc b) y ys = refl

  following_none : (before : ℕ) → following lt before [] ≡ true
  unfolding following rising after
  following_none zero = refl
  following_none (suc b) = refl

-- ---- tests in another order

and_order : (a b c : Bool) → ((a && b) && c) ≡ (a && (b && c))
and_order true b c = refl
and_order false b c = refl

down_order : (f n l t r s c : Bool) → (f && ((n && (l && (t && r))) && (s && c))) ≡ (n && (f && (l && (((t && r) && s) && c))))
down_order true true true t r s c = go t r s c
  where
    go : (t r s c : Bool) → ((t && r) && (s && c)) ≡ (((t && r) && s) && c)
    go true true s c = refl
    go true false s c = refl
    go false r s c = refl
down_order true true false t r s c = refl
down_order true false l t r s c = refl
down_order false true l t r s c = refl
down_order false false l t r s c = refl

up_order : (f t r s c : Bool) → (f && (true && (((t && r) && s) && c))) ≡ (f && (r && (s && (t && c))))
up_order true true r s c = go r s c
  where
    go : (r s c : Bool) → ((r && s) && c) ≡ (r && (s && c))
    go true s c = refl
    go false s c = refl
up_order true false true true c = refl
up_order true false true false c = refl
up_order true false false s c = refl
up_order false t r s c = refl

module _ (d : Directory) where
  judged : tree_rules d ≡ (shape_ok d && tree_right d (whole d))
  judged = rules_tested d (entries_ordered d names_ordered)

  not_shaped : shape_ok d ≡ false → tree_rules d ≡ false
  not_shaped h = judged ∙ rw h

  not_right : (sound (whole d) ≡ true → tree_right d (whole d) ≡ false) → tree_rules d ≡ false
  not_right h =
      false_of (tree_rules d) (λ t.
      let u = both (shape_ok d) (tree_right d (whole d)) (sym judged ∙ t) in
      clash u.1 (h (shape_sound d u.0)))

  -- ---- the start

  -- x names the tree below the root
  pub inorder_start : (x : ℕ) (m : List ℕ) → at d x ≡ whole d → length m ≡ rows d → ((i : ℕ) → get_or m i 0 ≡ 0) → Inorder d true 0 x true 0 [] [] m
  unfolding behind left_to_test to_come following stack_right tree_right all unwind
  inorder_start x m e l z = record {
    walk = walk_named d 0 (child_of d 0) x [] [] m (sym e) (walk_start d m l z);
    rest = λ s. rw (e, append-nil) (sym (ap (λ (t : Bool). rising (less d) (siblings (whole d)) && t) (and-true (nodes_right d true (whole d)))));
    objects = refl;
    last = tt;
    height = omega arith;
  }

  -- ---- one turn

  module _ {due : Bool} {k x : ℕ} {above : Bool} {before : ℕ} {ys cs m : List ℕ} (g : Inorder d due k x above before ys cs m) where
    -- x names a sound tree if the whole is sound
    here : sound (whole d) ≡ true → x ≢ NOSTREAM → Standing d x
    unfolding all
    here s h = stand d x h (both (sound_at d x) (all (sound_at d) (behind d ys ++ cs)) (sym g.walk.shape ∙ s)).0

    -- what is left to test, the entry at x by itself
    at_node : (s : Standing d x) → left_to_test d x above before ys cs ≡ (not (above && red d x) && left_to_test d (left_of d x) (red d x) before (x ∷ ys) cs)
    unfolding left_to_test stack_right nodes_right tree_right
    at_node s =
        rw (coming_down d x ys s, (standing d x s).tree)
        (down_order (following (less d) before (to_come d (left_of d x) (x ∷ ys))) (not (above && red d x)) (nodes_right d (red d x) (at d (left_of d x))) (tree_right d (at d (child_of d x)))
        (nodes_right d (red d x) (at d (right_of d x))) (stack_right d ys) (all (right_at d) cs))

    module _ (h : x ≢ NOSTREAM) where
      pub inorder_unfresh : fresh d m x ≡ false → tree_rules d ≡ false
      inorder_unfresh f = not_shaped (go_wrong d k ys cs m x g.walk h f)

      pub inorder_red : (above && red d x) ≡ true → tree_rules d ≡ false
      inorder_red r = not_right (λ s. g.rest s ∙ ap (λ (t : Bool). due && t) (at_node (here s h)) ∙ rw r (and-false due))

      pub inorder_down : fresh d m x ≡ true → (above && red d x) ≡ false → (l : ℕ) → at d l ≡ at d (left_of d x) → Inorder d due (k + 1) l (red d x) before (x ∷ ys) cs (set m x 1)
      unfolding all left_to_test to_come
      inorder_down f r l e =
          let a = fresh_apart d m x f in
          record {
            walk = walk_named d (k + 1) (left_of d x) l [] (behind d (x ∷ ys) ++ cs) (set m x 1) (sym e) (go_down d k ys cs m x g.walk h f);
            rest = λ s. g.rest s ∙ ap (λ (t : Bool). due && t) (at_node (here s h)) ∙ rw (r, e);
            objects = and_true_of (object_in d x) (all (object_in d) ys) (and_true_of _ _ (lt-ltb x (rows d) (named_inside d x a.0)) a.1) g.objects;
            last = g.last;
            height = omega (arith, g.height);
          }

  module _ {due : Bool} {k x : ℕ} {above : Bool} {before : ℕ} {y : ℕ} {ys cs m : List ℕ} (g : Inorder d due k x above before (y ∷ ys) cs m) (h : x ≡ NOSTREAM) where
    -- what is left to test, the order of y by itself
    at_visit : left_to_test d x above before (y ∷ ys) cs ≡ (follows (less d) before y && left_to_test d (right_of d y) (red d y) (suc y) ys (child_of d y ∷ cs))
    unfolding left_to_test stack_right all nodes_right
    at_visit =
        rw (coming_up d x y ys h, following_more (less d) before y (to_come d (right_of d y) ys), grow_none d (rows d) x h)
        (and_order (follows (less d) before y) _ _
        ∙ ap (λ (b : Bool). follows (less d) before y && b)
        (up_order (following (less d) (suc y) (to_come d (right_of d y) ys)) (tree_right d (at d (child_of d y))) (nodes_right d (red d y) (at d (right_of d y))) (stack_right d ys) (all (right_at d) cs)))

    pub inorder_object : object_in d y ≡ true
    unfolding all
    inorder_object = (both (object_in d y) (all (object_in d) ys) g.objects).0

    pub inorder_falls : follows (less d) before y ≡ false → tree_rules d ≡ false
    inorder_falls f = not_right (λ s. g.rest s ∙ ap (λ (t : Bool). due && t) at_visit ∙ rw f (and-false due))

    -- the order of y is put off
    module _ (r c : ℕ) (er : at d r ≡ at d (right_of d y)) (ec : at d c ≡ at d (child_of d y)) where
      pub inorder_visit : Inorder d (due && follows (less d) before y) k r (red d y) (suc y) ys (c ∷ cs) m
      unfolding all left_to_test to_come
      inorder_visit = record {
        walk =
            walk_named d k (child_of d y) c (r ∷ behind d ys) cs m (sym ec)
            (walk_named d k (right_of d y) r [] (behind d ys ++ (child_of d y ∷ cs)) m (sym er) (go_up d k ys cs m x y g.walk h));
        rest = λ s.
            g.rest s
            ∙ ap (λ (t : Bool). due && t) at_visit
            ∙ sym (and_assoc due (follows (less d) before y) _)
            ∙ rw (er, ec);
        objects = (both (object_in d y) (all (object_in d) ys) g.objects).1;
        last = inorder_object;
        height = omega (arith, g.height);
      }

      -- a tree below that is empty does not wait
      pub inorder_leaf : c ≡ NOSTREAM → Inorder d (due && follows (less d) before y) k r (red d y) (suc y) ys cs m
      unfolding all left_to_test tree_right nodes_right siblings rising
      inorder_leaf e =
          let v = inorder_visit in
          record {
            walk = go_empty d k ys cs m r c v.walk e;
            rest = λ s. v.rest s ∙ rw (grow_none d (rows d) c e);
            objects = v.objects;
            last = v.last;
            height = omega (arith, v.height);
          }

  -- the tree is done: the next one
  pub inorder_next : {due : Bool} {k x : ℕ} {above : Bool} {before c : ℕ} {cs m : List ℕ} → Inorder d due k x above before [] (c ∷ cs) m → x ≡ NOSTREAM → Inorder d due k c true 0 [] cs m
  unfolding left_to_test stack_right all nodes_right to_come following behind tree_right unwind siblings
  inorder_next {due} {k} {x} {above} {before} {c} {cs} {m} g h = record {
    walk = go_next d k x (c ∷ cs) m g.walk h;
    rest = λ s.
        g.rest s
        ∙ rw (grow_none d (rows d) x h, following_none (less d) before, append-nil)
        (ap (λ (t : Bool). due && t) (and_order (rising (less d) (siblings (at d c))) (nodes_right d true (at d c)) (all (right_at d) cs)));
    objects = refl;
    last = tt;
    height = omega (arith, g.height);
  }

  -- ---- the end

  pub inorder_end : {k x : ℕ} {above : Bool} {before : ℕ} {m : List ℕ} → Inorder d true k x above before [] [] m → x ≡ NOSTREAM → covered d m ≡ tree_rules d
  unfolding left_to_test stack_right all nodes_right
  inorder_end {k} {x} {above} {before} {m} g h =
      let w = go_next d k x [] m g.walk h in
      let r : tree_right d (whole d) ≡ true = g.rest (end_sound d k m w) ∙ rw (coming_none d x h, following_none (less d) before, grow_none d (rows d) x h) in
      walk_end d k m w ∙ sym (judged ∙ rw r (and-true (shape_ok d)))

  -- a test that was put off fails
  pub inorder_late : {k x : ℕ} {above : Bool} {before : ℕ} {ys cs m : List ℕ} → Inorder d false k x above before ys cs m → tree_rules d ≡ false
  inorder_late g = not_right (λ s. g.rest s)
