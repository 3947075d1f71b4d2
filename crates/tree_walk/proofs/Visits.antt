-- A turn up, which visits an entry.
use Prim.Native.Nat.{ℕ, suc, ◌+◌, ◌-◌, ◌*◌, ◌≤◌, ◌<◌}
use mathlib.Core.Path.{◌≡◌, sym, ap, ◌∙◌}
use mathlib.Core.Logic.{◌≢◌, inl, inr}
use mathlib.Core.Bool.{Bool, true, false, ◌&&◌}
use mathlib.Core.List.{List, ◌∷◌}
use native.Mathlib.Omega.{arith}
use native.Mathlib.Decide.{dec_lt}
use native.Mathlib.Numerals.{add-one}
use borrow.Author.Tests.{ltb-true}
use lib.Dec.{ltb}
use lib.ListN.{length, get_or, set, length-set}
use lib.Seq.{get_or-set_same, get_or-set_other}
use Rattle.format.specs.Basics.Bytes.{Bytes}
use Rattle.format.specs.Layout.Entry.{NOSTREAM}
use Rattle.format.specs.Layout.Directory.{Directory}
use Rattle.format.specs.Rules.Trees.{is_object, less, red, tree_rules}
use Rattle.theory.specs.TreeViews.{rows, right_of, child_of}
use Rattle.theory.specs.TreeInorder.{follows, object_in, Inorder}
use Rattle.theory.proofs.Counts.{eqb_cases}
use Rattle.theory.proofs.Tests.{both}
use Rattle.theory.proofs.Trees.Inorder.{inorder_object, inorder_falls, inorder_visit, inorder_leaf}
use Rattle.tables.specs.Work.{Wrote}
use Rattle.tables.proofs.WorkLaws.{wrote_none, wrote_set}
use Rattle.directory.specs.Listed.{count_of, entries_of}
use Rattle.directory.specs.declared.Directory.{Directory as Where}
use Rattle.nodes.specs.Slots.{entry_of}
use Rattle.nodes.specs.Nodes.{node_right, node_child, node_units, node_red, node_A, node_B, NodeOf, marks_of}
use Rattle.nodes.proofs.Slots.{entry_none, entry_some}
use Rattle.nodes.proofs.Marks.{marks_kept, nodes_kept}
use Rattle.tree_walk.specs.Walking.{stacked, up_at, top_at, wait_work, wait_tops, units_at, shorter, due_slot, due_rises, Paired, Walking, TurnFrom}
use Rattle.tree_walk.specs.declared.State.{State}
use Rattle.tree_walk.specs.declared.Turn.TheVariants.{Go}
use Rattle.tree_walk.proofs.Stacks.{stacked_same, stacked_pop, stacked_push}
use Rattle.tree_walk.proofs.Siblings.{Visited, shorter_falls, due_follows, due_paired}
use Rattle.tree_walk.proofs.Lends.{rows_are, room, lent_kept, slot_names, slot_in_lem, height, met_most}

module _ {d : Where} {img : Bytes} {w : List ℕ} {q : Bool} {s : State} (g : Walking d img w q s) (z : s.at.0 ≡ 0) where
  abbrev e : Directory
  e = entries_of d img

  none : entry_of s.at.0 ≡ NOSTREAM
  none = entry_none s.at.0 z

  module _ (h : 0 < s.ups) {n : ℕ} (en : n ≡ count_of d) {cur : ℕ} (ec : cur ≡ get_or w (2 * n + 2 + (s.ups - 1)) 0) where
    here : n ≡ rows e
    here = en ∙ sym (rows_are g.lent)

    cur_is : cur ≡ up_at (rows e) w (s.ups - 1)
    cur_is = ec ∙ ap (λ (k : ℕ). get_or w (2 * k + 2 + (s.ups - 1)) 0) here

    -- the entry that is visited
    abbrev y : ℕ
    y = entry_of cur

    popped : Inorder e q g.met (entry_of s.at.0) s.red s.before.0 (y ∷ stacked (up_at (rows e) w) (s.ups - 1)) (stacked (top_at (rows e) w) s.tops) (marks_of e w)
    popped = rw (cur_is, ← stacked_pop (up_at (rows e) w) s.ups h) g.inorder

    object : object_in e y ≡ true
    object = inorder_object e popped none

    apart : (ltb y (rows e) ≡ true) × (is_object e y ≡ true)
    apart = both (ltb y (rows e)) (is_object e y) object

    inside : y < rows e
    inside = ltb-true y (rows e) apart.0

    some : 0 < cur
    some = rw cur_is (g.ups_in (s.ups - 1) (omega arith))

    slot_is : cur ≡ y + 1
    slot_is = entry_some cur some

    pub visit_in : 2 * cur + 1 < length w
    visit_in = omega (arith, slot_is, inside, room g.lent)

    module _ {a b : ℕ} (ea : a ≡ get_or w (2 * cur) 0) (eb : b ≡ get_or w (2 * cur + 1) 0) where
      node : NodeOf e y a b
      node =
          let p : a ≡ node_A w y = ea ∙ ap (λ (i : ℕ). get_or w (2 * i) 0) slot_is in
          let q : b ≡ node_B w y = eb ∙ ap (λ (i : ℕ). get_or w (2 * i + 1) 0) slot_is in
          rw (p, q) ((g.lent.nodes.nodes y inside).object apart.1)

      red_is : node_red a ≡ red e y
      unfolding red
      red_is = node.red_is

      -- by the units of its name
      module _ {units : ℕ} (eu : units ≡ node_units a) where
        seen : Visited d img w s.before.0 cur units
        seen = record { lent = g.lent; last = g.inorder.last; object = object; real = some; units_are = eu ∙ node.units_are }

        pub visit_falls : shorter s.before.0 units (units_at w s.before.0) ≡ true → tree_rules e ≡ false
        visit_falls f = inorder_falls e popped none (shorter_falls seen f)

      pub wait_in : (s.tops ≤ n) × (3 * n + 1 < length w)
      wait_in = (omega (arith, here, height g, met_most g), omega (arith, here, room g.lent))

      module _ {units : ℕ} (eu : units ≡ node_units a) (f : shorter s.before.0 units (units_at w s.before.0) ≡ false) (t : State) (ta : t.at.0 ≡ node_right b) (tr : t.red ≡ node_red a) (tb : t.before.0 ≡ cur)
          (td : t.due.0 ≡ due_slot s.before.0 units (units_at w s.before.0)) (tu : t.ups ≡ s.ups - 1) where
        -- the test that is put off
        put_off : (q && due_rises e t) ≡ (q && follows (less e) s.before.0 y)
        put_off = rw (td, tb) (ap (λ (b : Bool). q && b) (sym (due_follows (seen eu) f)))

        pair : 0 < t.due.0 → Paired e (entry_of t.due.0) (entry_of t.before.0)
        pair = rw (td, tb) (due_paired (seen eu) f)

        before_is : t.before.0 ≡ suc y
        before_is = tb ∙ slot_is ∙ add-one y

        next_in : t.at.0 ≤ rows e
        next_in = rw ta (slot_in_lem g.lent (right_of e y) node.rights)

        -- no tree is below it
        leaf : node_child a b ≡ 0 → t.tops ≡ s.tops → TurnFrom d img w q s w (Go t)
        leaf c tt = record {
          turned = record {
            on = record {
              lent = g.lent;
              met = g.met;
              inorder =
                  rw (put_off, ta, tr, before_is, tu, tt, red_is)
                  (inorder_leaf e popped none (entry_of (node_right b)) (entry_of (node_child a b)) (slot_names g.lent (right_of e y) node.rights)
                  (slot_names g.lent (child_of e y) node.below) (entry_none (node_child a b) c));
              at_in = next_in;
              ups_in = λ j l. g.ups_in j (omega (arith, tu));
              tops_in = λ j l. g.tops_in j (omega (arith, tt));
            };
            due = pair;
            nearer = rw (tu, tt) (omega arith);
          };
          wrote = wrote_none w 0 (3 * count_of d + 2);
        }

        -- the tree below it waits
        module _ (c : node_child a b ≢ 0) {v : List ℕ} (ev : v ≡ set w (3 * n + 1 - s.tops) (node_child a b)) (tt : t.tops ≡ s.tops + 1) where
          stored : v ≡ set w (3 * rows e + 1 - s.tops) (node_child a b)
          stored = ev ∙ ap (λ (k : ℕ). set w (3 * k + 1 - s.tops) (node_child a b)) here

          most : s.ups + s.tops ≤ rows e
          most = omega (arith, height g, met_most g)

          other : (i : ℕ) → i ≢ 3 * rows e + 1 - s.tops → get_or v i 0 ≡ get_or w i 0
          other i q = ap (λ (k : List ℕ). get_or k i 0) stored ∙ get_or-set_other w (3 * rows e + 1 - s.tops) i (node_child a b) 0 q

          long : length v ≡ length w
          long = ap length stored ∙ length-set w (3 * rows e + 1 - s.tops) (node_child a b)

          front : (i : ℕ) → i < 2 * rows e + 2 → get_or v i 0 ≡ get_or w i 0
          front i l = other i (omega (arith, most))

          top_is : top_at (rows e) v s.tops ≡ node_child a b
          top_is = ap (λ (k : List ℕ). get_or k (3 * rows e + 1 - s.tops) 0) stored ∙ get_or-set_same w (3 * rows e + 1 - s.tops) (node_child a b) 0 (omega (arith, room g.lent))

          tops_same : (j : ℕ) → j < s.tops → top_at (rows e) v j ≡ top_at (rows e) w j
          tops_same j l = other (3 * rows e + 1 - j) (omega (arith, most))

          ups_same : (j : ℕ) → j < s.ups - 1 → up_at (rows e) v j ≡ up_at (rows e) w j
          ups_same j l = other (2 * rows e + 2 + j) (omega (arith, most))

          tops_are : stacked (top_at (rows e) v) (s.tops + 1) ≡ entry_of (node_child a b) ∷ stacked (top_at (rows e) w) s.tops
          tops_are = stacked_push (top_at (rows e) v) s.tops ∙ rw (top_is, stacked_same (top_at (rows e) v) (top_at (rows e) w) s.tops tops_same)

          ups_are : stacked (up_at (rows e) v) (s.ups - 1) ≡ stacked (up_at (rows e) w) (s.ups - 1)
          ups_are = stacked_same (up_at (rows e) v) (up_at (rows e) w) (s.ups - 1) ups_same

          top_in : (j : ℕ) → j < s.tops + 1 → top_at (rows e) v j ≤ rows e
          top_in j l =
              elim (dec_lt j s.tops) [
                | yes q ↦ omega (arith, tops_same j q, g.tops_in j q)
                | no q ↦ let k : j ≡ s.tops = omega arith in rw k (omega (arith, top_is, slot_in_lem g.lent (child_of e y) node.below))
              ]

          wrote : Wrote w v 0 (3 * count_of d + 2)
          wrote = rw ev (wrote_set (3 * n + 1 - s.tops) (node_child a b) (wrote_none w 0 (3 * count_of d + 2)) (omega arith) (omega (arith, en)))

          waits : TurnFrom d img w q s v (Go t)
          waits = record {
            turned = record {
              on = record {
                lent = lent_kept g.lent wrote (nodes_kept e w v long front g.lent.nodes);
                met = g.met;
                inorder =
                    rw (put_off, ta, tr, before_is, tu, tt, red_is, tops_are, ups_are, marks_kept e w v long front)
                    (inorder_visit e popped none (entry_of (node_right b)) (entry_of (node_child a b)) (slot_names g.lent (right_of e y) node.rights)
                    (slot_names g.lent (child_of e y) node.below));
                at_in = next_in;
                ups_in = λ j l. omega (arith, ups_same j (omega (arith, tu)), g.ups_in j (omega (arith, tu)));
                tops_in = λ j l. top_in j (omega (arith, tt));
              };
              due = pair;
              nearer = rw (tu, tt, marks_kept e w v long front) (omega arith);
            };
            wrote = wrote;
          }

        pub visit_go : {v : List ℕ} → v ≡ wait_work n w s.tops (node_child a b) → t.tops ≡ wait_tops s.tops (node_child a b) → TurnFrom d img w q s v (Go t)
        visit_go {v} ev tt =
            elim (eqb_cases (node_child a b) 0) [
              | inl c ↦ let k : v ≡ w = ev ∙ rw c.1 in rw k (leaf c.0 (tt ∙ rw c.1))
              | inr c ↦ waits c.0 (ev ∙ rw c.1) (tt ∙ rw c.1)
            ]
