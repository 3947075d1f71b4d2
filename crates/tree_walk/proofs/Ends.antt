-- A turn that begins the next tree, and the end of the walk.
use Prim.Native.Nat.{ℕ, ◌+◌, ◌-◌, ◌*◌, ◌<◌}
use mathlib.Core.Path.{◌≡◌, refl, sym, ap, ◌∙◌}
use mathlib.Core.Bool.{Bool, true, and-true}
use mathlib.Core.List.{List, [], ◌∷◌}
use native.Mathlib.Omega.{arith}
use lib.ListN.{get_or}
use Rattle.format.specs.Basics.Bytes.{Bytes}
use Rattle.format.specs.Layout.Entry.{NOSTREAM}
use Rattle.format.specs.Layout.Directory.{Directory}
use Rattle.theory.specs.TreeViews.{rows}
use Rattle.theory.specs.TreeInorder.{Inorder}
use Rattle.theory.proofs.Trees.Inorder.{inorder_next, inorder_end}
use Rattle.tables.proofs.WorkLaws.{wrote_none}
use Rattle.directory.specs.Listed.{count_of, entries_of}
use Rattle.directory.specs.declared.Directory.{Directory as Where}
use Rattle.nodes.specs.Slots.{entry_of}
use Rattle.nodes.specs.Nodes.{marks_of}
use Rattle.nodes.proofs.Slots.{entry_none}
use Rattle.tree_walk.specs.Walking.{stacked, up_at, top_at, Walking, TurnFrom}
use Rattle.tree_walk.specs.declared.State.{State}
use Rattle.tree_walk.specs.declared.Turn.TheVariants.{Go, Done}
use Rattle.tree_walk.proofs.Stacks.{stacked_pop, stacked_none}
use Rattle.tree_walk.proofs.Lends.{rows_are}

module _ {d : Where} {img : Bytes} {w : List ℕ} {q : Bool} {s : State} (g : Walking d img w q s) (z : s.at.0 ≡ 0) (u : s.ups ≡ 0) where
  abbrev e : Directory
  e = entries_of d img

  none : entry_of s.at.0 ≡ NOSTREAM
  none = entry_none s.at.0 z

  bare : Inorder e q g.met (entry_of s.at.0) s.red s.before.0 [] (stacked (top_at (rows e) w) s.tops) (marks_of e w)
  bare = rw (← stacked_none (up_at (rows e) w) s.ups u) g.inorder

  module _ (h : 0 < s.tops) {n : ℕ} (en : n ≡ count_of d) {cur : ℕ} (ec : cur ≡ get_or w (3 * n + 1 - (s.tops - 1)) 0) where
    waiting_is : cur ≡ top_at (rows e) w (s.tops - 1)
    waiting_is = ec ∙ ap (λ (k : ℕ). get_or w (3 * k + 1 - (s.tops - 1)) 0) (en ∙ sym (rows_are g.lent))

    waiting : Inorder e q g.met (entry_of s.at.0) s.red s.before.0 [] (entry_of cur ∷ stacked (top_at (rows e) w) (s.tops - 1)) (marks_of e w)
    waiting = rw (waiting_is, ← stacked_pop (top_at (rows e) w) s.tops h) bare

    pub next_go : {t : State} → t.at.0 ≡ cur → t.red ≡ true → t.before.0 ≡ 0 → t.due.0 ≡ 0 → t.ups ≡ 0 → t.tops ≡ s.tops - 1 → TurnFrom d img w q s w (Go t)
    next_go {t} ta tr tb td tu tt = record {
      turned = record {
        on = record {
          lent = g.lent;
          met = g.met;
          inorder =
              rw (td, and-true, ta, tr, tb, tu, tt, stacked_none (up_at (rows e) w) 0 refl) (inorder_next e waiting none);
          at_in = rw (ta, waiting_is) (g.tops_in (s.tops - 1) (omega arith));
          ups_in = λ j l. absurd (omega (arith, tu));
          tops_in = λ j l. g.tops_in j (omega (arith, tt));
        };
        due = λ l. absurd (omega (arith, td));
        nearer = rw (tu, tt) (omega (arith, u));
      };
      wrote = wrote_none w 0 (3 * count_of d + 2);
    }

  pub walk_done : s.tops ≡ 0 → TurnFrom d img w q s w Done
  walk_done t =
      let k : Inorder e q g.met (entry_of s.at.0) s.red s.before.0 [] [] (marks_of e w) = rw (stacked_none (top_at (rows e) w) s.tops t) at bare in
      record {
        turned = (g.lent, λ r. inorder_end e (rw r at k) none);
        wrote = wrote_none w 0 (3 * count_of d + 2);
      }
