-- What is lent to the walk stays, and how high its stacks are.
use Prim.Native.Nat.{ℕ, ◌+◌, ◌*◌, ◌≤◌}
use mathlib.Core.Path.{◌≡◌, ap, ◌∙◌}
use mathlib.Core.Bool.{Bool}
use mathlib.Core.List.{List}
use native.Mathlib.Omega.{arith}
use lib.ListN.{length}
use Rattle.format.specs.Basics.Bytes.{Bytes}
use Rattle.theory.specs.TreeViews.{rows, at}
use Rattle.tables.specs.Work.{Wrote}
use Rattle.directory.specs.Listed.{count_of, entries_of}
use Rattle.directory.specs.declared.Directory.{Directory as Where}
use Rattle.directory.proofs.Places.{count_is, directory_kept}
use Rattle.nodes.specs.Slots.{slot_of, entry_of}
use Rattle.nodes.specs.Nodes.{NodesStand}
use Rattle.nodes.proofs.Slots.{slot_tree, slot_most}
use Rattle.tree_walk.specs.Walking.{up_at, top_at, Lent, Walking}
use Rattle.tree_walk.specs.declared.State.{State}
use Rattle.tree_walk.proofs.Stacks.{stacked_long}

module _ {d : Where} {img : Bytes} {w : List ℕ} (l : Lent d img w) where
  pub rows_are : rows (entries_of d img) ≡ count_of d
  rows_are = count_is l.listed

  -- nodes and stacks lie before the list
  pub room : 3 * rows (entries_of d img) + 2 ≤ length w
  room = omega (arith, rows_are, l.apart, l.listed.room)

  pub lent_kept : {v : List ℕ} → Wrote w v 0 (3 * count_of d + 2) → NodesStand (entries_of d img) v → Lent d img v
  lent_kept r n = record { listed = directory_kept l.listed r (omega (arith, l.apart)); ruled = l.ruled; nodes = n; apart = l.apart }

  -- a slot names the tree that its field names
  module _ {k : ℕ} (x : ℕ) (e : k ≡ slot_of (rows (entries_of d img)) x) where
    pub slot_names : at (entries_of d img) (entry_of k) ≡ at (entries_of d img) x
    slot_names = ap (λ (i : ℕ). at (entries_of d img) (entry_of i)) e ∙ slot_tree (entries_of d img) x l.nodes.some

    pub slot_in_lem : k ≤ rows (entries_of d img)
    slot_in_lem = omega (arith, e, slot_most (rows (entries_of d img)) x l.nodes.some)

module _ {d : Where} {img : Bytes} {w : List ℕ} {q : Bool} {s : State} (g : Walking d img w q s) where
  pub height : s.ups + s.tops ≤ g.met
  height = omega (arith, g.inorder.height, stacked_long (up_at (rows (entries_of d img)) w) s.ups, stacked_long (top_at (rows (entries_of d img)) w) s.tops)

  pub met_most : g.met ≤ rows (entries_of d img)
  met_most = omega (arith, g.inorder.walk.free)
