-- What the walk over the trees answers, the pairs of names that it notes, and the test of a node for the last pass.
use Rattle.std.specs.Prelude.{ℕ, ◌+◌, ◌*◌, ◌≡◌, Bool, true, false, cond, List, eqb, set}
use Rattle.format.specs.Basics.Bytes.{Bytes}
use Rattle.format.specs.Rules.Trees.{tree_rules}
use Rattle.theory.specs.TreeWalk.{covered}
use Rattle.tables.specs.Work.{Wrote}
use Rattle.directory.specs.Listed.{count_of, entries_of, place_of}
use Rattle.directory.specs.declared.Directory.{Directory as Where}
use Rattle.nodes.specs.Slots.{entry_of}
use Rattle.nodes.specs.Nodes.{node_reached, node_A, marks_of}
use Rattle.tree_walk.specs.Walking.{Lent}

-- a rule was found broken, or the rules hold exactly if every object is reached
abbrev pub Walked : Where → Bytes → List ℕ → Bool → Type 0
Walked d img v true = Lent d img v × (covered (entries_of d img) (marks_of (entries_of d img) v) ≡ tree_rules (entries_of d img))
Walked d img v false = tree_rules (entries_of d img) ≡ false

pub record WalkLeft (d : Where) (img : Bytes) (w v : List ℕ) (r : Bool) : Type 0 where
  pub walked : Walked d img v r
  pub wrote : Wrote w v 0 (3 * count_of d + 2)

-- the node of an entry is reached
abbrev pub reached_in : List ℕ → ℕ → Bool
reached_in w x = node_reached (node_A w x)

-- ---- pairs of names

-- the places of a sibling whose name is still to be compared and of the entry of another slot are noted behind the first k pairs, if there is such a sibling
pub record Noted (d : Where) (w : List ℕ) (due at : ℕ) (low low' high high' : List ℕ) (k k' : ℕ) : Type 0 where
  pub pairs : k' ≡ cond (eqb due 0) k (k + 1)
  pub lows : low' ≡ cond (eqb due 0) low (set low k (place_of d w (entry_of due)))
  pub highs : high' ≡ cond (eqb due 0) high (set high k (place_of d w (entry_of at)))
