-- The marks of the objects that are reached: none at the start, one more where a node is reached, and all at the end.
use Prim.Native.Nat.{ℕ, ◌+◌, ◌*◌, ◌<◌}
use mathlib.Core.Path.{◌≡◌, refl, sym, ap, ◌∙◌}
use mathlib.Core.Logic.{◌≢◌}
use mathlib.Core.Bool.{Bool, true, false, not, ◌&&◌, ◌||◌, and-false}
use mathlib.Core.List.{List}
use native.Mathlib.Omega.{arith}
use native.Mathlib.Decide.{dec_lt, ℕ_discrete}
use borrow.Author.Tests.{lt-ltb}
use lib.Dec.{eqb}
use lib.ListN.{length, get_or, set, length-set, get_or-eq_default}
use lib.Seq.{get_or-set_same, get_or-set_other}
use Rattle.format.specs.Basics.Lists.{bit, all_below, list_below}
use Rattle.format.specs.Layout.Directory.{Directory}
use Rattle.format.specs.Layout.Tree.{named}
use Rattle.format.specs.Rules.Trees.{is_object}
use Rattle.theory.specs.TreeViews.{rows}
use Rattle.theory.specs.TreeWalk.{fresh, marked, covered}
use Rattle.theory.proofs.Below.{list_below_ext, length_below, get_or_below, below_set}
use Rattle.theory.proofs.Tests.{clash, below_ext}
use Rattle.nodes.specs.Nodes.{node_reached, node_reach, node_A, node_B, NodeOf, NodeStands, NodesStand, NodesFresh, mark_of, marks_of}
use Rattle.nodes.proofs.Packing.{reach_left, reach_units, reach_child, reach_red, reach_reached}

module _ (e : Directory) (w : List ℕ) where
  pub marks_long : length (marks_of e w) ≡ rows e
  unfolding marks_of
  marks_long = length_below (rows e) (mark_of e w)

  mark_in : (x : ℕ) → x < rows e → get_or (marks_of e w) x 0 ≡ bit (is_object e x && node_reached (node_A w x))
  unfolding marks_of mark_of
  mark_in x h = get_or_below (rows e) (mark_of e w) x 0 h

  -- ---- the start

  pub marks_none : NodesFresh e w → (x : ℕ) → get_or (marks_of e w) x 0 ≡ 0
  marks_none f x =
      elim (dec_lt x (rows e)) [
        | yes h ↦ mark_in x h ∙ go (is_object e x) (f.unreached x h)
        | no h ↦ get_or-eq_default (marks_of e w) 0 {n = x} (omega (arith, marks_long))
      ]
    where
      go : (o : Bool) → (o ≡ true → node_reached (node_A w x) ≡ false) → bit (o && node_reached (node_A w x)) ≡ 0
      go true u = ap bit (u refl)
      go false u = refl

  module _ (n : NodesStand e w) (x : ℕ) (h : x < rows e) where
    -- ---- the test of one entry

    object_above : is_object e x ≡ true → 0 < x
    object_above o =
        elim (dec_lt 0 x) [
          | yes l ↦ l
          | no l ↦ absurd (clash o (ap (is_object e) (let z : x ≡ 0 = omega arith in z) ∙ n.root))
        ]

    pub fresh_unreached : fresh e (marks_of e w) x ≡ not (node_reached (node_A w x))
    unfolding fresh
    fresh_unreached = rw (mark_in x h) (go (is_object e x) (node_reached (node_A w x)) refl (n.nodes x h).other)
      where
        go : (o r : Bool) → is_object e x ≡ o → (o ≡ false → r ≡ true) → (named e x && (o && eqb (bit (o && r)) 0)) ≡ not r
        go true true q u = and-false (named e x)
        go true false q u = rw (lt-ltb 0 x (object_above q), lt-ltb x (rows e) h)
        go false r q u = and-false (named e x) ∙ sym (ap not (u refl))

    marked_reached : marked e (marks_of e w) x ≡ node_reached (node_A w x)
    unfolding marked
    marked_reached = rw (mark_in x h) (go (is_object e x) (node_reached (node_A w x)) (n.nodes x h).other)
      where
        go : (o r : Bool) → (o ≡ false → r ≡ true) → (not o || not (eqb (bit (o && r)) 0)) ≡ r
        go true true u = refl
        go true false u = refl
        go false r u = sym (u refl)

  -- ---- the end: every object has its mark exactly if every node is reached

  pub covered_reached : NodesStand e w → covered e (marks_of e w) ≡ all_below (rows e) (λ x. node_reached (node_A w x))
  unfolding covered
  covered_reached n = below_ext (rows e) (λ x. node_reached (node_A w x)) (marked e (marks_of e w)) (λ x h. marked_reached n x h)

-- ---- what a write leaves

-- nodes that have the same two numbers
stands_same : {e : Directory} {w v : List ℕ} {x : ℕ} → node_A v x ≡ node_A w x → node_B v x ≡ node_B w x → NodeStands e w x → NodeStands e v x
stands_same p q n = record { object = λ o. rw (p, q) (n.object o); other = λ o. rw p (n.other o) }

module _ (e : Directory) (w v : List ℕ) where
  -- a write behind the nodes
  module _ (l : length v ≡ length w) (same : (i : ℕ) → i < 2 * rows e + 2 → get_or v i 0 ≡ get_or w i 0) where
    first_same : (x : ℕ) → x < rows e → node_A v x ≡ node_A w x
    first_same x h = same (2 * (x + 1)) (omega arith)

    pub marks_kept : marks_of e v ≡ marks_of e w
    unfolding marks_of mark_of
    marks_kept = list_below_ext (rows e) (mark_of e w) (mark_of e v) (λ x h. rw (first_same x h))

    pub nodes_kept : NodesStand e w → NodesStand e v
    nodes_kept n = record {
      some = n.some;
      few = n.few;
      room = omega (arith, n.room);
      root = n.root;
      nodes = λ x h. stands_same (first_same x h) (same (2 * (x + 1) + 1) (omega arith)) (n.nodes x h);
    }

-- a node is reached
module _ {e : Directory} {w : List ℕ} (n : NodesStand e w) (x : ℕ) (h : x < rows e) (u : node_reached (node_A w x) ≡ false) where
  abbrev w₂ : List ℕ
  w₂ = set w (2 * (x + 1)) (node_reach (node_A w x))

  here : node_A w₂ x ≡ node_reach (node_A w x)
  here = get_or-set_same w (2 * (x + 1)) (node_reach (node_A w x)) 0 (omega (arith, n.room))

  beside : node_B w₂ x ≡ node_B w x
  beside = get_or-set_other w (2 * (x + 1)) (2 * (x + 1) + 1) (node_reach (node_A w x)) 0 (omega arith)

  other_first : (y : ℕ) → y ≢ x → node_A w₂ y ≡ node_A w y
  other_first y q = get_or-set_other w (2 * (x + 1)) (2 * (y + 1)) (node_reach (node_A w x)) 0 (λ z. q (omega arith))

  other_second : (y : ℕ) → node_B w₂ y ≡ node_B w y
  other_second y = get_or-set_other w (2 * (x + 1)) (2 * (y + 1) + 1) (node_reach (node_A w x)) 0 (omega arith)

  pub reached_object : is_object e x ≡ true
  reached_object = go (is_object e x) (n.nodes x h).other
    where
      go : (o : Bool) → (o ≡ false → node_reached (node_A w x) ≡ true) → o ≡ true
      go true q = refl
      go false q = absurd (clash (q refl) u)

  pub marks_more : marks_of e w₂ ≡ set (marks_of e w) x 1
  unfolding marks_of mark_of
  marks_more =
      below_set (rows e) x (mark_of e w) (mark_of e w₂) 0 h (λ y l q. rw (other_first y q))
      ∙ ap (set (list_below (rows e) (mark_of e w)) x) (rw (here, reached_object, reach_reached (node_A w x) u))

  reached_node : NodeOf e x (node_A w x) (node_B w x) → NodeOf e x (node_reach (node_A w x)) (node_B w x)
  reached_node o = record {
    lefts = reach_left (node_A w x) u ∙ o.lefts;
    rights = o.rights;
    below = reach_child (node_A w x) u (node_B w x) ∙ o.below;
    units_are = reach_units (node_A w x) u ∙ o.units_are;
    red_is = reach_red (node_A w x) u ∙ o.red_is;
  }

  pub nodes_reached : NodesStand e w₂
  nodes_reached = record {
    some = n.some;
    few = n.few;
    room = simp length-set n.room;
    root = n.root;
    nodes = λ y l.
        elim (ℕ_discrete y x) [
          | yes q ↦ rw q (record { object = λ o. rw (here, beside) (reached_node ((n.nodes x h).object o)); other = λ o. absurd (clash reached_object o) })
          | no q ↦ stands_same (other_first y q) (other_second y) (n.nodes y l)
        ];
  }
