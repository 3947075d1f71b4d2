-- The walk over the trees, as it stands in the work buffer: nodes first, then E numbers that hold those above from the front, and the trees that wait from the back.
use Rattle.std.specs.Prelude.{ℕ, zero, suc, ◌+◌, ◌-◌, ◌*◌, ◌≤◌, ◌<◌, ◌≡◌, Bool, true, false, not, cond, ◌&&◌, List, [], ◌∷◌, eqb, ltb, length, get_or, set}
use Rattle.format.specs.Basics.Bytes.{Bytes}
use Rattle.format.specs.Layout.Entry.{name}
use Rattle.format.specs.Layout.Directory.{Directory}
use Rattle.format.specs.Rules.Trees.{less, tree_rules}
use Rattle.theory.specs.TreeViews.{rows}
use Rattle.theory.specs.TreeWalk.{zeros, covered}
use Rattle.theory.specs.TreeInorder.{follows, Inorder}
use Rattle.tables.specs.Work.{Wrote}
use Rattle.directory.specs.Listed.{count_of, entries_of, DirectoryListed, NamedIn, Ruled}
use Rattle.directory.specs.declared.Directory.{Directory as Where}
use Rattle.nodes.specs.Slots.{entry_of}
use Rattle.nodes.specs.Nodes.{node_units, NodesStand, NodesFresh, marks_of}
use Rattle.tree_walk.specs.declared.State.{State}
use Rattle.tree_walk.specs.declared.Turn.{Turn}
use Rattle.tree_walk.specs.declared.Turn.TheVariants.{Go, Wrong, Done}

-- ---- the two stacks, each slot as its entry, the last first

unfoldable pub stacked : (ℕ → ℕ) → ℕ → List ℕ
stacked f zero = []
stacked f (suc n) = entry_of (f n) ∷ stacked f n

abbrev pub up_at : ℕ → List ℕ → ℕ → ℕ
up_at n w j = get_or w (2 * n + 2 + j) 0

abbrev pub top_at : ℕ → List ℕ → ℕ → ℕ
top_at n w j = get_or w (3 * n + 1 - j) 0

-- a tree is put with those that wait, if there is one
abbrev pub wait_work : ℕ → List ℕ → ℕ → ℕ → List ℕ
wait_work n w tops child = cond (eqb child 0) w (set w (3 * n + 1 - tops) child)

abbrev pub wait_tops : ℕ → ℕ → ℕ
wait_tops tops child = cond (eqb child 0) tops (tops + 1)

-- ---- the walk

-- what is lent: nodes and list, and room before the list
pub record Lent (d : Where) (img : Bytes) (w : List ℕ) : Type 0 where
  pub listed : DirectoryListed d img w
  pub ruled : Ruled (entries_of d img)
  pub nodes : NodesStand (entries_of d img) w
  pub apart : 3 * count_of d + 2 ≤ d.list

-- what it begins with: no object is reached yet
pub record WalkReady (d : Where) (img : Bytes) (w : List ℕ) : Type 0 where
  pub listed : DirectoryListed d img w
  pub ruled : Ruled (entries_of d img)
  pub nodes : NodesFresh (entries_of d img) w
  pub apart : 3 * count_of d + 2 ≤ d.list

-- q is what the tests of names answer that are put off
pub record Walking (d : Where) (img : Bytes) (w : List ℕ) (q : Bool) (s : State) : Type 0 where
  pub lent : Lent d img w
  -- how many entries are reached
  pub met : ℕ
  pub inorder : Inorder (entries_of d img) q met (entry_of s.at.0) s.red s.before.0
      (stacked (up_at (rows (entries_of d img)) w) s.ups) (stacked (top_at (rows (entries_of d img)) w) s.tops) (marks_of (entries_of d img) w)
  -- slots
  pub at_in : s.at.0 ≤ rows (entries_of d img)
  pub ups_in : (j : ℕ) → j < s.ups → 0 < up_at (rows (entries_of d img)) w j
  pub tops_in : (j : ℕ) → j < s.tops → top_at (rows (entries_of d img)) w j ≤ rows (entries_of d img)

-- whatever they answer
abbrev pub Underway : Where → Bytes → List ℕ → State → Type 0
Underway d img w s = (q : Bool) × Walking d img w q s

-- what is left to do
abbrev pub left_over : Where → Bytes → List ℕ → State → ℕ
left_over d img w s = 3 * zeros (marks_of (entries_of d img) w) + 2 * s.ups + s.tops

-- ---- names

-- the units of the name of a slot's entry, by its node
abbrev pub units_at : List ℕ → ℕ → ℕ
units_at w slot = node_units (get_or w (2 * slot) 0)

-- a name of so many units has fewer than the `last` of the sibling before, if there is one
abbrev pub shorter : ℕ → ℕ → ℕ → Bool
shorter before units last = not (eqb before 0) && ltb units last

-- the sibling before, if its name has as many
abbrev pub due_slot : ℕ → ℕ → ℕ → ℕ
due_slot before units last = cond (eqb units last) before 0

-- the names of two entries, which have as many units
pub record Paired (e : Directory) (x y : ℕ) : Type 0 where
  pub first : NamedIn e x
  pub second : NamedIn e y
  pub units : length (name (e.entry x)) ≡ length (name (e.entry y))

-- a sibling, if there is one, whose name is still to be compared with that of the entry of another slot
abbrev pub DuePaired : Directory → ℕ → ℕ → Type 0
DuePaired e due at = 0 < due → Paired e (entry_of due) (entry_of at)

-- that the entry visited last comes after the sibling that it is still to be compared with, if there is one
abbrev pub due_rises : Directory → State → Bool
due_rises e t = follows (less e) t.due.0 (entry_of t.before.0)

-- ---- a turn

pub record Gone (d : Where) (img : Bytes) (w : List ℕ) (q : Bool) (s : State) (v : List ℕ) (t : State) : Type 0 where
  pub on : Walking d img v (q && due_rises (entries_of d img) t) t
  pub due : DuePaired (entries_of d img) t.due.0 t.before.0
  pub nearer : left_over d img v t < left_over d img w s

-- A turn leads on, with one more test of names put off; or finds a rule broken; or ends the walk: if what was put off holds, then the rules hold exactly
-- if every object is reached.
abbrev pub Turned : Where → Bytes → List ℕ → Bool → State → List ℕ → Turn → Type 0
Turned d img w q s v (Go t) = Gone d img w q s v t
Turned d img w q s v Wrong = tree_rules (entries_of d img) ≡ false
Turned d img w q s v Done = Lent d img v × (q ≡ true → covered (entries_of d img) (marks_of (entries_of d img) v) ≡ tree_rules (entries_of d img))

pub record TurnFrom (d : Where) (img : Bytes) (w : List ℕ) (q : Bool) (s : State) (v : List ℕ) (r : Turn) : Type 0 where
  pub turned : Turned d img w q s v r
  pub wrote : Wrote w v 0 (3 * count_of d + 2)

-- whatever the tests answer that are put off
abbrev pub TurnLeft : Where → Bytes → List ℕ → State → List ℕ → Turn → Type 0
TurnLeft d img w s v r = (q : Bool) → Walking d img w q s → TurnFrom d img w q s v r
