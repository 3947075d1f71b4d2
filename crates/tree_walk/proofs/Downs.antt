-- A turn down: the node is reached, and stands with those above.
use Prim.Native.Nat.{ℕ, ◌+◌, ◌-◌, ◌*◌, ◌≤◌, ◌<◌}
use mathlib.Core.Path.{◌≡◌, refl, sym, ap, ◌∙◌}
use mathlib.Core.Logic.{◌≢◌}
use mathlib.Core.Bool.{Bool, true, false, not, ◌&&◌, ◌||◌, and-true}
use mathlib.Core.List.{List, ◌∷◌}
use native.Mathlib.Omega.{arith}
use native.Mathlib.Decide.{dec_lt}
use lib.ListN.{length, get_or, set, length-set}
use lib.Seq.{get_or-set_same, get_or-set_other}
use Rattle.format.specs.Basics.Bytes.{Bytes}
use Rattle.format.specs.Layout.Entry.{NOSTREAM}
use Rattle.format.specs.Layout.Directory.{Directory}
use Rattle.format.specs.Rules.Trees.{red, tree_rules}
use Rattle.theory.specs.TreeViews.{rows, left_of}
use Rattle.theory.specs.TreeWalk.{zeros, fresh}
use Rattle.theory.proofs.Tests.{neither}
use Rattle.theory.proofs.Trees.Marks.{zeros_set, fresh_apart}
use Rattle.theory.proofs.Trees.Inorder.{inorder_unfresh, inorder_red, inorder_down}
use Rattle.tables.specs.Work.{Wrote}
use Rattle.tables.proofs.WorkLaws.{wrote_none, wrote_set}
use Rattle.directory.specs.Listed.{count_of, entries_of}
use Rattle.directory.specs.declared.Directory.{Directory as Where}
use Rattle.nodes.specs.Slots.{entry_of}
use Rattle.nodes.specs.Nodes.{node_left, node_red, node_reached, node_reach, node_A, node_B, NodeOf, marks_of}
use Rattle.nodes.proofs.Slots.{entry_some, entry_real}
use Rattle.nodes.proofs.Marks.{marks_long, fresh_unreached, marks_kept, nodes_kept, reached_object, marks_more, nodes_reached}
use Rattle.tree_walk.specs.Walking.{stacked, up_at, top_at, Walking, TurnFrom}
use Rattle.tree_walk.specs.declared.State.{State}
use Rattle.tree_walk.specs.declared.Turn.TheVariants.{Go}
use Rattle.tree_walk.proofs.Stacks.{stacked_same, stacked_push}
use Rattle.tree_walk.proofs.Lends.{rows_are, room, lent_kept, slot_names, slot_in_lem, height}

module _ {d : Where} {img : Bytes} {w : List ℕ} {q : Bool} {s : State} (g : Walking d img w q s) (h : 0 < s.at.0) where
  abbrev e : Directory
  e = entries_of d img

  -- the entry to go down to
  abbrev x : ℕ
  x = entry_of s.at.0

  slot_is : s.at.0 ≡ x + 1
  slot_is = entry_some s.at.0 h

  inside : x < rows e
  inside = omega (arith, slot_is, g.at_in)

  real : x ≢ NOSTREAM
  real = entry_real s.at.0 (rows e) h g.at_in g.lent.nodes.few

  pub down_in : 2 * s.at.0 + 1 < length w
  down_in = omega (arith, g.at_in, g.lent.nodes.room)

  fresh_is : fresh e (marks_of e w) x ≡ not (node_reached (node_A w x))
  fresh_is = fresh_unreached e w g.lent.nodes x inside

  module _ {a : ℕ} (ea : a ≡ get_or w (2 * s.at.0) 0) where
    first_is : a ≡ node_A w x
    first_is = ea ∙ ap (λ (i : ℕ). get_or w (2 * i) 0) slot_is

    node : node_reached a ≡ false → NodeOf e x a (node_B w x)
    node u = rw first_is ((g.lent.nodes.nodes x inside).object (reached_object g.lent.nodes x inside (rw first_is at u)))

    red_is : node_reached a ≡ false → node_red a ≡ red e x
    unfolding red
    red_is u = (node u).red_is

    pub down_wrong : (node_reached a || (s.red && node_red a)) ≡ true → tree_rules e ≡ false
    down_wrong t = go (node_reached a) refl t
      where
        go : (b : Bool) → node_reached a ≡ b → (b || (s.red && node_red a)) ≡ true → tree_rules e ≡ false
        go true q t = inorder_unfresh e g.inorder real (fresh_is ∙ ap not (rw first_is at q))
        go false q t = inorder_red e g.inorder real (rw (← red_is q) t)

    module _ (u : (node_reached a || (s.red && node_red a)) ≡ false) where
      pub down_unreached : node_reached a ≡ false
      down_unreached = (neither (node_reached a) (s.red && node_red a) u).0

      unreached : node_reached (node_A w x) ≡ false
      unreached = rw first_is at down_unreached

      is_fresh : fresh e (marks_of e w) x ≡ true
      is_fresh = fresh_is ∙ ap not unreached

      zeros_less : zeros (marks_of e w) ≡ zeros (set (marks_of e w) x 1) + 1
      zeros_less = omega (arith, zeros_set (marks_of e w) x (rw marks_long inside) (fresh_apart e (marks_of e w) x is_fresh).2)

      -- there is room for one more above
      pub up_room : s.ups + s.tops < rows e
      up_room = omega (arith, height g, g.inorder.walk.free, zeros_less)

      module _ {n : ℕ} (en : n ≡ count_of d) where
        pub up_in : 2 * n + 2 + s.ups < length w
        up_in = omega (arith, en, rows_are g.lent, room g.lent, up_room)

        module _ {v : List ℕ} (ev : v ≡ set (set w (2 * s.at.0) (node_reach a)) (2 * n + 2 + s.ups) s.at.0) where
          w₁ : List ℕ
          w₁ = set w (2 * (x + 1)) (node_reach (node_A w x))

          stored : v ≡ set w₁ (2 * rows e + 2 + s.ups) s.at.0
          unfolding w₁
          stored =
              let p : 2 * s.at.0 ≡ 2 * (x + 1) = ap (λ (i : ℕ). 2 * i) slot_is in
              let q : n ≡ rows e = en ∙ sym (rows_are g.lent) in
              ev ∙ cc (first_is)

          up_place : 2 * rows e + 2 + s.ups < length w₁
          unfolding w₁
          up_place = rw length-set (omega (arith, up_in, en, rows_are g.lent))

          -- what lies before the stacks, and what lies behind the nodes
          front : (i : ℕ) → i < 2 * rows e + 2 → get_or v i 0 ≡ get_or w₁ i 0
          front i l = ap (λ (k : List ℕ). get_or k i 0) stored ∙ get_or-set_other w₁ (2 * rows e + 2 + s.ups) i s.at.0 0 (omega arith)

          back : (i : ℕ) → 2 * rows e + 2 ≤ i → i ≢ 2 * rows e + 2 + s.ups → get_or v i 0 ≡ get_or w i 0
          unfolding w₁
          back i l q =
              ap (λ (k : List ℕ). get_or k i 0) stored
              ∙ get_or-set_other w₁ (2 * rows e + 2 + s.ups) i s.at.0 0 q
              ∙ get_or-set_other w (2 * (x + 1)) i (node_reach (node_A w x)) 0 (omega (arith, inside))

          long : length v ≡ length w₁
          long = ap length stored ∙ length-set w₁ (2 * rows e + 2 + s.ups) s.at.0

          marks_are : marks_of e v ≡ set (marks_of e w) x 1
          unfolding w₁
          marks_are = marks_kept e w₁ v long front ∙ marks_more g.lent.nodes x inside unreached

          up_is : up_at (rows e) v s.ups ≡ s.at.0
          up_is = ap (λ (k : List ℕ). get_or k (2 * rows e + 2 + s.ups) 0) stored ∙ get_or-set_same w₁ (2 * rows e + 2 + s.ups) s.at.0 0 up_place

          ups_are : stacked (up_at (rows e) v) (s.ups + 1) ≡ x ∷ stacked (up_at (rows e) w) s.ups
          ups_are =
              stacked_push (up_at (rows e) v) s.ups
              ∙ rw (up_is, stacked_same (up_at (rows e) v) (up_at (rows e) w) s.ups (λ j l. back (2 * rows e + 2 + j) (omega arith) (omega arith)))

          top_is : (j : ℕ) → j < s.tops → top_at (rows e) v j ≡ top_at (rows e) w j
          top_is j l = back (3 * rows e + 1 - j) (omega (arith, up_room)) (omega (arith, up_room))

          tops_are : stacked (top_at (rows e) v) s.tops ≡ stacked (top_at (rows e) w) s.tops
          tops_are = stacked_same (top_at (rows e) v) (top_at (rows e) w) s.tops top_is

          down_wrote : Wrote w v 0 (3 * count_of d + 2)
          down_wrote =
              rw ev
              (wrote_set (2 * n + 2 + s.ups) s.at.0
              (wrote_set (2 * s.at.0) (node_reach a) (wrote_none w 0 (3 * count_of d + 2)) (omega arith) (omega (arith, g.at_in, rows_are g.lent))) (omega arith) (omega (arith, en, up_room, rows_are g.lent)))

          turn_up : (j : ℕ) → j < s.ups + 1 → 0 < up_at (rows e) v j
          turn_up j l =
              elim (dec_lt j s.ups) [
                | yes q ↦ omega (arith, back (2 * rows e + 2 + j) (omega arith) (omega arith), g.ups_in j q)
                | no q ↦
                    let z : j ≡ s.ups = omega arith in
                    rw z (omega (arith, h, up_is))
              ]

          pub down_go : {t : State} → t.at.0 ≡ node_left a → t.red ≡ node_red a → t.before.0 ≡ s.before.0 → t.due.0 ≡ 0 → t.ups ≡ s.ups + 1 → t.tops ≡ s.tops → TurnFrom d img w q s v (Go t)
          unfolding w₁
          down_go {t} ta tr tb td tu tt =
              let k = node down_unreached in
              record {
                turned = record {
                  on = record {
                    lent = lent_kept g.lent down_wrote (nodes_kept e w₁ v long front (nodes_reached g.lent.nodes x inside unreached));
                    met = g.met + 1;
                    inorder =
                        rw (td, and-true, ta, tr, tb, tu, tt, ups_are, tops_are, marks_are, red_is down_unreached)
                        (inorder_down e g.inorder real is_fresh (rw (← red_is down_unreached) (neither (node_reached a) (s.red && node_red a) u).1) (entry_of (node_left a))
                        (slot_names g.lent (left_of e x) k.lefts));
                    at_in = rw ta (slot_in_lem g.lent (left_of e x) k.lefts);
                    ups_in = λ j l. turn_up j (omega (arith, tu));
                    tops_in = λ j l. omega (arith, top_is j (omega (arith, tt)), g.tops_in j (omega (arith, tt)));
                  };
                  due = λ l. absurd (omega (arith, td));
                  nearer = rw (marks_are, tu, tt) (omega (arith, zeros_less));
                };
                wrote = down_wrote;
              }
