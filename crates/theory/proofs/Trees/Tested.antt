-- Group 15 is the right shape, and order and colours in one test.
use mathlib.Core.Path.{◌≡◌, refl, sym, ◌∙◌}
use mathlib.Core.Bool.{Bool, true, false, not, ◌&&◌, ◌||◌}
use Rattle.format.specs.Layout.Directory.{Directory}
use Rattle.format.specs.Layout.Tree.{Forest, empty, broken, node, siblings}
use Rattle.format.specs.Rules.Trees.{every_node, less, red, top_black, coloured, tree_rules}
use Rattle.theory.specs.TreeViews.{whole, shape_ok}
use Rattle.theory.specs.TreeOrder.{Ordered}
use Rattle.theory.specs.TreeInorder.{rising, below_rise, tree_rises, nodes_right, tree_right}
use Rattle.theory.proofs.Tests.{both, and_true_of}
use Rattle.theory.proofs.Trees.Lists.{same_test}
use Rattle.theory.proofs.Trees.Nodes.{every_node_apart, every_node_join}
use Rattle.theory.proofs.Trees.Rises.{order_rises}
use Rattle.theory.proofs.Trees.Rules.{rules_apart, rules_join}

-- ---- the colour of a node: under `above`, and over its sides
not_both : (a b : Bool) → not (a && b) ≡ true → (not a || not b) ≡ true
not_both true b h = h
not_both false b h = refl

both_not : (a b : Bool) → (not a || not b) ≡ true → not (a && b) ≡ true
both_not true b h = h
both_not false b h = refl

sides_of : (r a b : Bool) → (not r || a) ≡ true → (not r || b) ≡ true → (not r || (a && b)) ≡ true
sides_of true a b h k = and_true_of a b h k
sides_of false a b h k = refl

sides_apart : (r a b : Bool) → (not r || (a && b)) ≡ true → ((not r || a) ≡ true) × ((not r || b) ≡ true)
sides_apart true a b h = both a b h
sides_apart false a b h = (refl, refl)

module _ (d : Directory) where
  -- the order of the trees below, the colour of the top where one above asks for it, and the colours
  pub record Apart (above : Bool) (t : Forest) : Type 0 where
    pub order : below_rise d t ≡ true
    pub top : (not above || top_black d t) ≡ true
    pub paint : every_node (coloured d) t ≡ true

  top_none : (above : Bool) → (not above || true) ≡ true
  top_none true = refl
  top_none false = refl

  nodes_apart : (above : Bool) (t : Forest) → nodes_right d above t ≡ true → Apart above t
  unfolding nodes_right below_rise top_black every_node coloured
  nodes_apart above empty h = record { order = refl; top = top_none above; paint = refl }
  nodes_apart above broken h = record { order = refl; top = top_none above; paint = refl }
  nodes_apart above (node l e b r) h =
      let u = both (not (above && red d e)) (nodes_right d (red d e) l && ((rising (less d) (siblings b) && nodes_right d true b) && nodes_right d (red d e) r)) h in
      let v = both (nodes_right d (red d e) l) ((rising (less d) (siblings b) && nodes_right d true b) && nodes_right d (red d e) r) u.1 in
      let w = both (rising (less d) (siblings b) && nodes_right d true b) (nodes_right d (red d e) r) v.1 in
      let x = both (rising (less d) (siblings b)) (nodes_right d true b) w.0 in
      let L = nodes_apart (red d e) l v.0 in
      let B = nodes_apart true b x.1 in
      let R = nodes_apart (red d e) r w.1 in
      record {
        order = and_true_of (below_rise d l) _ L.order (and_true_of (rising (less d) (siblings b) && below_rise d b) (below_rise d r) (and_true_of (rising (less d) (siblings b)) (below_rise d b) x.0 B.order) R.order);
        top = not_both above (red d e) u.0;
        paint = every_node_join (coloured d) l e b r (and_true_of (not (red d e) || (top_black d l && top_black d r)) (top_black d b) (sides_of (red d e) (top_black d l) (top_black d r) L.top R.top) B.top) L.paint B.paint R.paint;
      }

  nodes_join : (above : Bool) (t : Forest) → Apart above t → nodes_right d above t ≡ true
  unfolding nodes_right below_rise top_black every_node coloured
  nodes_join above empty h = refl
  nodes_join above broken h = refl
  nodes_join above (node l e b r) h =
      let o = both (below_rise d l) ((rising (less d) (siblings b) && below_rise d b) && below_rise d r) h.order in
      let p = both (rising (less d) (siblings b) && below_rise d b) (below_rise d r) o.1 in
      let q = both (rising (less d) (siblings b)) (below_rise d b) p.0 in
      let c = every_node_apart (coloured d) l e b r h.paint in
      let k = both (not (red d e) || (top_black d l && top_black d r)) (top_black d b) c.0 in
      let s = sides_apart (red d e) (top_black d l) (top_black d r) k.0 in
      and_true_of (not (above && red d e)) _ (both_not above (red d e) h.top)
      (and_true_of (nodes_right d (red d e) l) _ (nodes_join (red d e) l (record { order = o.0; top = s.0; paint = c.1 }))
      (and_true_of (rising (less d) (siblings b) && nodes_right d true b) (nodes_right d (red d e) r)
      (and_true_of (rising (less d) (siblings b)) (nodes_right d true b) q.0 (nodes_join true b (record { order = q.1; top = k.1; paint = c.2 })))
      (nodes_join (red d e) r (record { order = p.1; top = s.1; paint = c.3 }))))

  module _ (o : Ordered (less d)) where
    -- group 15 by its shape and one test of the whole
    pub rules_tested : tree_rules d ≡ (shape_ok d && tree_right d (whole d))
    unfolding tree_right tree_rises
    rules_tested =
        same_test (tree_rules d) (shape_ok d && tree_right d (whole d))
        (λ t.
        let r = rules_apart d t in
        let s = both (rising (less d) (siblings (whole d))) (below_rise d (whole d)) (sym (order_rises d o (whole d)) ∙ r.sorted) in
        and_true_of (shape_ok d) _ r.shape (and_true_of (rising (less d) (siblings (whole d))) (nodes_right d true (whole d)) s.0 (nodes_join true (whole d) (record { order = s.1; top = r.top; paint = r.paint }))))
        (λ t.
        let u = both (shape_ok d) (rising (less d) (siblings (whole d)) && nodes_right d true (whole d)) t in
        let v = both (rising (less d) (siblings (whole d))) (nodes_right d true (whole d)) u.1 in
        let n = nodes_apart true (whole d) v.1 in
        rules_join d (record {
          shape = u.0;
          sorted = order_rises d o (whole d) ∙ and_true_of (rising (less d) (siblings (whole d))) (below_rise d (whole d)) v.0 n.order;
          top = n.top;
          paint = n.paint;
        }))
