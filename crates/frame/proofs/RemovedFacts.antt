-- An object that is to go, its siblings and the entry that they stand below.
use Prim.Native.Nat.{ℕ, ◌+◌, ◌≤◌, ◌<◌}
use mathlib.Core.Path.{◌≡◌, refl, sym, ap, ◌∙◌, subst}
use mathlib.Core.Logic.{◌≢◌, ◌⊎◌, inl, inr}
use mathlib.Core.Bool.{true}
use mathlib.Core.List.{List, ◌∷◌, ◌++◌}
use native.Mathlib.Omega.{arith}
use native.Mathlib.Decide.{dec_lt}
use lib.Dec.{eqb}
use Rattle.format.specs.Basics.Lists.{bit, count}
use Rattle.format.specs.Basics.Bytes.{Bytes}
use Rattle.format.specs.Layout.Geometry.{Geometry}
use Rattle.format.specs.Layout.Name.{Name}
use Rattle.format.specs.Layout.Entry.{child_field, child}
use Rattle.format.specs.Layout.Directory.{Directory}
use Rattle.format.specs.Layout.Tree.{Forest, entries, siblings}
use Rattle.format.specs.Layout.Siblings.{without_node}
use Rattle.format.specs.Layout.Volume.{volume, directory}
use Rattle.format.specs.Rules.Trees.{is_object}
use Rattle.format.specs.Rules.Verdict.{Accepted}
use Rattle.theory.specs.TreeViews.{whole}
use Rattle.theory.specs.TreeWays.{siblings_before, siblings_after, plug, slot_entry}
use Rattle.theory.specs.TreeObjects.{PathWay}
use Rattle.theory.specs.TreeOrder.{Rules}
use Rattle.theory.proofs.Trees.Ways.{count_plug, still_or_deep}
use Rattle.theory.proofs.Trees.Parts.{part_other, old_drawn, old_once}
use Rattle.theory.proofs.Trees.Replace.{drawn_positive}
use Rattle.theory.proofs.Trees.Rules.{rules_apart}
use Rattle.theory.proofs.Trees.PathWays.{root_way}
use Rattle.theory.proofs.Trees.Levels.{siblings_with, siblings_removed}
use Rattle.theory.proofs.Trees.Remove.{spot}
use Rattle.theory.proofs.Trees.Faces.{siblings_few}
use Rattle.theory.proofs.Counts.{count_append, bit_self}
use Rattle.theory.proofs.Trees.Meant.{found_equal}
use Rattle.theory.proofs.Trees.Nodes.{reached_inside, reached_object}
use Rattle.frame.specs.Redraw.{MayErase}
use Rattle.frame.specs.Place.{Erasing}

module _ {g : Geometry} {img : Bytes} {n : Name} {ns : List Name} {s : ℕ} {t : Forest} {x : ℕ} {b : Forest} (c : Erasing g img n ns s t x b) where
  abbrev d : Directory
  d = (volume g img).directory

  abbrev pub rules : Rules d
  rules = rules_apart d c.good.trees

  abbrev pub way : PathWay d 0 (whole d) ns s t
  way = root_way d rules ns s t c.led

  abbrev f : Forest
  f = without_node x t

  pub among : 0 < count x (siblings t)
  among = (found_equal d n t x b c.child).0

  pub once : (y : ℕ) → count y (siblings t) ≤ 1
  once y = omega (arith, siblings_few y t, old_once d way.way t way.tree rules y, count_plug y way.way t)

  pub in_whole : (y : ℕ) → 0 < count y (siblings t) → 0 < count y (entries (whole d))
  in_whole y h = subst (λ (k : Forest). 0 < count y (entries k)) (sym way.tree) (omega (arith, siblings_few y t, count_plug y way.way t))

  pub inside : (y : ℕ) → 0 < count y (entries (whole d)) → y < d.count
  inside = reached_inside d rules.shape

  positive : (y : ℕ) → 0 < count y (entries (whole d)) → 0 < y
  positive y q =
      drawn_positive d (plug way.way t) (old_drawn d way.way t way.tree rules) y (subst (λ (k : Forest). 0 < count y (entries k)) way.tree q)

  pub object : (y : ℕ) → 0 < count y (siblings t) → is_object d y ≡ true
  object y h = reached_object d rules.shape y (in_whole y h)

  -- the siblings that stay
  pub fewer : (y : ℕ) → count y (siblings t) ≡ bit (eqb y x) + count y (siblings f)
  fewer y =
      let k = spot x t among (once x) in
      omega (
        arith,
        ap (count y) (siblings_with x t k),
        ap (count y) (siblings_removed x t k),
        count_append y (siblings_before k.way ++ siblings k.lefts) (x ∷ (siblings k.rights ++ siblings_after k.way)),
        count_append y (siblings_before k.way ++ siblings k.lefts) (siblings k.rights ++ siblings_after k.way),
      )

  pub parent_apart : (y : ℕ) → 0 < count y (siblings t) → y ≢ s
  parent_apart y h e = part_other d way.way t way.tree rules y (omega (arith, siblings_few y t)) (e ∙ sym way.owner)

  -- the parent is the root or an object
  pub parent_where : (s ≡ 0) ⊎ (0 < count s (entries (whole d)))
  parent_where =
      elim (still_or_deep way.way child_field 0) [
        | inl q ↦ inl (sym way.owner ∙ q.entry)
        | inr q ↦ inr (subst (λ (y : ℕ). 0 < count y (entries (whole d))) way.owner
            (subst (λ (k : Forest). 0 < count (slot_entry way.way 0) (entries k)) (sym way.tree) (omega (arith, q.outside, count_plug (slot_entry way.way 0) way.way t))))
      ]

  x_whole : 0 < count x (entries (whole d))
  x_whole = in_whole x among

  pub x_inside : x < d.count
  x_inside = inside x x_whole

  pub x_above : 0 < x
  x_above = positive x x_whole

  pub s_inside : s < d.count
  s_inside = elim parent_where [ inl q ↦ omega (arith, q, x_inside) | inr q ↦ inside s q ]

  pub x_object : is_object d x ≡ true
  x_object = object x among

  pub may : Accepted g img → MayErase g img s t x
  may acc =
      record {
        accepted = acc;
        inside = x_inside;
        slot_inside = s_inside;
        above = x_above;
        other = λ e. parent_apart x among (sym e);
        once = λ y. omega (arith, once y, fewer y);
        within = λ y h. let k : 0 < count y (siblings t) = omega (arith, fewer y) in (positive y (in_whole y k), inside y (in_whole y k));
        gone = omega (arith, once x, fewer x, bit_self x);
        apart = elim (dec_lt 0 (count s (siblings f))) [ yes k ↦ absurd (parent_apart s (omega (arith, fewer s)) refl) | no k ↦ omega arith ];
      }
