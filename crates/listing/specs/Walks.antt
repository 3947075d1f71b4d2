-- The walk over the trees, with a stack of entries whose left side is done, and what the measuring walk answers.
use Rattle.std.specs.Prelude.{ℕ, zero, suc, ◌+◌, ◌*◌, ◌≤◌, cond, Option, Some, None, List, [], ◌∷◌, ◌++◌, leb, length, get_or}
use Rattle.format.specs.Layout.Entry.{name}
use Rattle.format.specs.Layout.Directory.{Directory}
use Rattle.format.specs.Layout.Tree.{Forest, empty, broken, node, entries, forest}
use Rattle.format.specs.Calls.Text.{print_name}
use Rattle.format.specs.Calls.Listing.{listing}
use Rattle.theory.specs.TreeViews.{right_of, child_of, at, Standing}
use Rattle.lines.specs.Lines.{before_length}
use Rattle.listing.specs.declared.Size.{Size}

-- the stack's first n pairs, the last first: an entry, and the length of its parent's path
unfoldable pub pairs : List ℕ → ℕ → List (ℕ × ℕ)
pairs w zero = []
pairs w (suc n) = (get_or w (2 * n) 0, get_or w (2 * n + 1) 0) ∷ pairs w n

-- the entry of pair k, and the length of its parent's path
abbrev pub entry_on : List ℕ → ℕ → ℕ
entry_on w k = get_or w (2 * k) 0

abbrev pub parent_on : List ℕ → ℕ → ℕ
parent_on w k = get_or w (2 * k + 1) 0

-- the left spine of a tree whose entries' parent has a path so long
unfoldable pub spine : ℕ → Forest → List (ℕ × ℕ)
spine n empty = []
spine n broken = []
spine n (node l x b r) = spine n l ++ ((x, n) ∷ [])

-- the length of an entry's path
unfoldable pub path_length : Directory → ℕ → ℕ → ℕ
path_length e x n = before_length n + length (print_name (name (e.entry x)))

-- the stack when the entry x was taken off: its right side is put on, then the tree below it
unfoldable pub turned : Directory → ℕ → ℕ → List (ℕ × ℕ) → List (ℕ × ℕ)
turned e x n ps = spine (path_length e x n) (at e (child_of e x)) ++ (spine n (at e (right_of e x)) ++ ps)

-- the same, where x is the entry of pair k
abbrev pub turned_at : Directory → List ℕ → ℕ → List (ℕ × ℕ)
turned_at e w k = turned e (entry_on w k) (parent_on w k) (pairs w k)

-- x can be taken off, where k pairs stay on a stack of at most m
pub record Turning (e : Directory) (m k x n : ℕ) : Type 0 where
  pub stands : Standing e x
  pub room : k + (1 + (length (entries (at e (child_of e x))) + length (entries (at e (right_of e x))))) ≤ m
  pub fits : n + 157 ≤ 0x1_0000_0000

-- the counts, where the listing has no more bytes than `most`
unfoldable pub measured : ℕ → ℕ → ℕ → Option Size
measured most objects bytes = cond (leb bytes most) (Some (record { objects = objects; bytes = bytes })) None

-- of the whole listing
abbrev pub measure_of : ℕ → Directory → Option Size
measure_of most e = measured most (length (entries (forest e))) (length (listing e))
