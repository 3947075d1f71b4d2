-- The walk in rising order reaches what the walk of `theory` reaches: what is pending is the entry to go down to, the fields of those on the stack,
-- and the trees that are still to be walked.
use Prim.Native.Nat.{ℕ, ◌+◌}
use mathlib.Core.Path.{◌≡◌, refl, sym, ap, ◌∙◌}
use mathlib.Core.Logic.{◌≢◌}
use mathlib.Core.Bool.{Bool, true, false, ◌&&◌}
use mathlib.Core.List.{List, [], ◌∷◌, ◌++◌}
use native.Mathlib.Omega.{arith}
use lib.ListN.{set}
use Rattle.format.specs.Basics.Lists.{all, count}
use Rattle.format.specs.Layout.Entry.{NOSTREAM}
use Rattle.format.specs.Layout.Directory.{Directory}
use Rattle.format.specs.Layout.Tree.{Forest, entries}
use Rattle.format.specs.Rules.Trees.{sound}
use Rattle.theory.specs.TreeViews.{at, left_of, right_of, child_of, sound_at, shape_ok}
use Rattle.theory.specs.TreeWalk.{Walk, fresh, total}
use Rattle.theory.proofs.Trees.Walk.{walk_skip, walk_wrong, walk_mark}
use Rattle.theory.specs.TreeInorder.{behind}

swap : (a b c : Bool) → (a && (b && c)) ≡ (b && (a && c))
swap true true c = refl
swap true false c = refl
swap false true c = refl
swap false false c = refl

all_move : (p : ℕ → Bool) (bs : List ℕ) (a : ℕ) (cs : List ℕ) → all p (bs ++ (a ∷ cs)) ≡ all p (a ∷ (bs ++ cs))
unfolding all
all_move p [] a cs = refl
all_move p (b ∷ bs) a cs = ap (λ (t : Bool). p b && t) (all_move p bs a cs) ∙ swap (p b) (p a) (all p (bs ++ cs))

module _ (d : Directory) where
  total_move : (x : ℕ) (bs : List ℕ) (a : ℕ) (cs : List ℕ) → total d x (bs ++ (a ∷ cs)) ≡ total d x (a ∷ (bs ++ cs))
  total_move x [] a cs = refl
  total_move x (b ∷ bs) a cs = omega (arith, total_move x bs a cs)

  -- pending numbers in another order
  walk_same : (k : ℕ) (is js m : List ℕ) → all (sound_at d) is ≡ all (sound_at d) js → ((x : ℕ) → total d x is ≡ total d x js) → Walk d k is m → Walk d k js m
  walk_same k is js m a t w =
      record { shape = w.shape ∙ a; counts = λ s x. omega (arith, w.counts s x, t x); object = w.object; free = w.free; long = w.long }

  -- another number that names the same tree
  pub walk_named : (k i j : ℕ) (bs cs m : List ℕ) → at d i ≡ at d j → Walk d k (bs ++ (i ∷ cs)) m → Walk d k (bs ++ (j ∷ cs)) m
  unfolding all
  walk_named k i j bs cs m e w =
      walk_same k (bs ++ (i ∷ cs)) (bs ++ (j ∷ cs)) m
      (all_move (sound_at d) bs i cs ∙ ap (λ (t : Forest). sound t && all (sound_at d) (bs ++ cs)) e ∙ sym (all_move (sound_at d) bs j cs))
      (λ x. omega (arith, total_move x bs i cs, total_move x bs j cs, ap (λ (t : Forest). count x (entries t)) e))
      w

  module _ (k : ℕ) (ys cs m : List ℕ) where
    -- down to the left side of x, which goes on the stack
    pub go_down : (x : ℕ) → Walk d k (x ∷ (behind d ys ++ cs)) m → x ≢ NOSTREAM → fresh d m x ≡ true → Walk d (k + 1) (left_of d x ∷ (behind d (x ∷ ys) ++ cs)) (set m x 1)
    unfolding behind all
    go_down x w h f =
        let rest = behind d ys ++ cs in
        walk_same (k + 1) (right_of d x ∷ (child_of d x ∷ (left_of d x ∷ rest))) (left_of d x ∷ (right_of d x ∷ (child_of d x ∷ rest))) (set m x 1)
        (all_move (sound_at d) (right_of d x ∷ (child_of d x ∷ [])) (left_of d x) rest)
        (λ y. total_move y (right_of d x ∷ (child_of d x ∷ [])) (left_of d x) rest)
        (walk_mark d k x rest m w h f)

    -- up to the top of the stack, whose right side is next; the tree below it waits
    pub go_up : (x y : ℕ) → Walk d k (x ∷ (behind d (y ∷ ys) ++ cs)) m → x ≡ NOSTREAM → Walk d k (right_of d y ∷ (behind d ys ++ (child_of d y ∷ cs))) m
    unfolding behind all
    go_up x y w e =
        walk_same k (right_of d y ∷ (child_of d y ∷ (behind d ys ++ cs))) (right_of d y ∷ (behind d ys ++ (child_of d y ∷ cs))) m
        (ap (λ (t : Bool). sound_at d (right_of d y) && t) (sym (all_move (sound_at d) (behind d ys) (child_of d y) cs)))
        (λ z. omega (arith, total_move z (behind d ys) (child_of d y) cs))
        (walk_skip d k x (behind d (y ∷ ys) ++ cs) m w e)

    -- a tree below that is empty does not wait
    pub go_empty : (x c : ℕ) → Walk d k (x ∷ (behind d ys ++ (c ∷ cs))) m → c ≡ NOSTREAM → Walk d k (x ∷ (behind d ys ++ cs)) m
    go_empty x c w e =
        walk_skip d k c (x ∷ (behind d ys ++ cs)) m
        (walk_same k ((x ∷ behind d ys) ++ (c ∷ cs)) (c ∷ ((x ∷ behind d ys) ++ cs)) m
        (all_move (sound_at d) (x ∷ behind d ys) c cs)
        (λ z. total_move z (x ∷ behind d ys) c cs)
        w)
        e

    -- a number that names no fresh object
    pub go_wrong : (x : ℕ) → Walk d k (x ∷ (behind d ys ++ cs)) m → x ≢ NOSTREAM → fresh d m x ≡ false → shape_ok d ≡ false
    go_wrong x w h f = walk_wrong d k x (behind d ys ++ cs) m w h f

  -- a tree is done: the next one that waits, or the end
  pub go_next : (k x : ℕ) (cs m : List ℕ) → Walk d k (x ∷ (behind d [] ++ cs)) m → x ≡ NOSTREAM → Walk d k cs m
  unfolding behind
  go_next k x cs m w e = walk_skip d k x cs m w e
