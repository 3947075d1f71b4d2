-- The trees of a directory look at nothing but name, kind, colour, left, right and child.
use Prim.Native.Nat.{ℕ, zero, suc}
use mathlib.Core.Path.{◌≡◌, refl, ap, ap₂, ◌∙◌, fun_ext}
use mathlib.Core.Bool.{Bool, not, ◌&&◌, ◌||◌}
use lib.Dec.{eqb, ltb}
use Rattle.format.specs.Basics.Lists.{all, all_below, bit, count}
use Rattle.format.specs.Layout.Name.{name_less}
use Rattle.format.specs.Layout.Entry.{NOSTREAM, name, colour, kind, left, right, child}
use Rattle.format.specs.Layout.Directory.{Directory}
use Rattle.format.specs.Layout.Tree.{Forest, empty, broken, node, grow, forest, entries, siblings, tree_of}
use Rattle.format.specs.Rules.Trees.{is_object, reached_once, less, sides_ordered, red, top_black, coloured, tree_rules, reached_right, greater}
use Rattle.history.specs.Alike.{Alike}

module _ (d d' : Directory) (a : Alike d d') where
  grow_same : (depth x : ℕ) → grow d' depth x ≡ grow d depth x
  unfolding grow
  grow_same zero x = refl
  grow_same (suc depth) x =
      ap₂ (λ n t. tree_of (eqb x NOSTREAM) (ltb 0 x && ltb x n) t) a.count
      (rw (
        a.left x,
        a.right x,
        a.child x,
        grow_same depth (left (d.entry x)),
        grow_same depth (child (d.entry x)),
        grow_same depth (right (d.entry x)),
      ))

  pub forest_same : forest d' ≡ forest d
  unfolding forest
  forest_same = ap₂ (λ n x. grow d' n x) a.count (a.child 0) ∙ grow_same d.count (child (d.entry 0))

  less_same : less d' ≡ less d
  unfolding less
  less_same = fun_ext (λ x. fun_ext (λ y. ap₂ name_less (a.name x) (a.name y)))

  red_same : red d' ≡ red d
  unfolding red
  red_same = fun_ext (λ x. ap (λ c. eqb c 0) (a.colour x))

  pub object_same : is_object d' ≡ is_object d
  object_same = fun_ext (λ x. ap (λ k. eqb k 1 || eqb k 2) (a.kind x))

  sides_same : sides_ordered d' ≡ sides_ordered d
  unfolding sides_ordered greater
  sides_same = ap (λ (L : ℕ → ℕ → Bool). λ (l : Forest) (e : ℕ) (b r : Forest). all (λ x. L x e) (siblings l) && all (L e) (siblings r)) less_same

  top_same : (t : Forest) → top_black d' t ≡ top_black d t
  unfolding top_black
  top_same empty = refl
  top_same broken = refl
  top_same (node l e b r) = ap (λ (R : ℕ → Bool). not (R e)) red_same

  coloured_same : coloured d' ≡ coloured d
  unfolding coloured
  coloured_same =
      fun_ext (λ l. fun_ext (λ e. fun_ext (λ b. fun_ext (λ r. rw (red_same, top_same l, top_same r, top_same b)))))

  reached_once_same : reached_once d' ≡ reached_once d
  unfolding reached_once reached_right
  reached_once_same =
      ap₂ (λ (n : ℕ) (t : Forest). all_below n (λ x. eqb (count x (entries t)) (bit (is_object d' x)))) a.count forest_same
      ∙ ap (λ (o : ℕ → Bool). all_below d.count (λ x. eqb (count x (entries (forest d))) (bit (o x)))) object_same

  pub trees_same : tree_rules d' ≡ tree_rules d
  unfolding tree_rules
  trees_same = rw (reached_once_same, forest_same, sides_same, top_same (forest d), coloured_same)
