-- The start of the walk: the tree below the root is next, and nothing is reached.
use Prim.Native.Nat.{ℕ}
use mathlib.Core.Path.{◌≡◌}
use mathlib.Core.Bool.{true}
use mathlib.Core.List.{List}
use native.Mathlib.Omega.{arith}
use Rattle.format.specs.Basics.Bytes.{Bytes}
use Rattle.theory.specs.TreeViews.{rows, child_of}
use Rattle.theory.proofs.Trees.Inorder.{inorder_start}
use Rattle.directory.specs.Listed.{entries_of}
use Rattle.directory.specs.declared.Directory.{Directory as Where}
use Rattle.nodes.specs.Slots.{slot_of, entry_of}
use Rattle.nodes.specs.Nodes.{marks_of}
use Rattle.nodes.proofs.Marks.{marks_long, marks_none}
use Rattle.tree_walk.specs.Walking.{up_at, top_at, Lent, WalkReady, Walking}
use Rattle.tree_walk.specs.declared.State.{State}
use Rattle.tree_walk.proofs.Stacks.{stacked_none}
use Rattle.tree_walk.proofs.Lends.{slot_names, slot_in_lem}

module _ {d : Where} {img : Bytes} {w : List ℕ} (r : WalkReady d img w) where
  pub ready_lent : Lent d img w
  ready_lent = record { listed = r.listed; ruled = r.ruled; nodes = r.nodes.stand; apart = r.apart }

  pub walking_start : {s : State} → s.at.0 ≡ slot_of (rows (entries_of d img)) (child_of (entries_of d img) 0) → s.red ≡ true → s.before.0 ≡ 0 → s.ups ≡ 0 → s.tops ≡ 0 → Walking d img w true s
  walking_start {s} sa sr sb su st =
      let e = entries_of d img in
      record {
        lent = ready_lent;
        met = 0;
        inorder =
            rw (sr, sb, stacked_none (up_at (rows e) w) s.ups su, stacked_none (top_at (rows e) w) s.tops st)
            (inorder_start e (entry_of s.at.0) (marks_of e w) (slot_names ready_lent (child_of e 0) sa) (marks_long e w) (marks_none e w r.nodes));
        at_in = slot_in_lem ready_lent (child_of e 0) sa;
        ups_in = λ j l. absurd (omega (arith, su));
        tops_in = λ j l. absurd (omega (arith, st));
      }
