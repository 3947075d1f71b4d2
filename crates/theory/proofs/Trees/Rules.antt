-- Group 15 taken apart, and put together.
use mathlib.Core.Path.{◌≡◌}
use mathlib.Core.Bool.{true, ◌&&◌}
use Rattle.format.specs.Layout.Directory.{Directory}
use Rattle.format.specs.Layout.Tree.{forest}
use Rattle.format.specs.Rules.Trees.{every_node, sides_ordered, top_black, coloured, tree_rules}
use Rattle.theory.specs.TreeViews.{whole, shape_ok}
use Rattle.theory.specs.TreeOrder.{Rules}
use Rattle.theory.proofs.Tests.{both, and_true_of}

module _ (d : Directory) where
  pub rules_apart : tree_rules d ≡ true → Rules d
  unfolding tree_rules shape_ok forest
  rules_apart t =
      let u = both (shape_ok d && every_node (sides_ordered d) (whole d) && top_black d (whole d)) (every_node (coloured d) (whole d)) t in
      let v = both (shape_ok d && every_node (sides_ordered d) (whole d)) (top_black d (whole d)) u.0 in
      let w = both (shape_ok d) (every_node (sides_ordered d) (whole d)) v.0 in
      record { shape = w.0; sorted = w.1; top = v.1; paint = u.1 }

  pub rules_join : Rules d → tree_rules d ≡ true
  unfolding tree_rules shape_ok forest
  rules_join r =
      let w = and_true_of (shape_ok d) (every_node (sides_ordered d) (whole d)) r.shape r.sorted in
      let v = and_true_of (shape_ok d && every_node (sides_ordered d) (whole d)) (top_black d (whole d)) w r.top in
      and_true_of (shape_ok d && every_node (sides_ordered d) (whole d) && top_black d (whole d)) (every_node (coloured d) (whole d)) v r.paint
