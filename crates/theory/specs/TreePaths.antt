-- The paths of a tree in listing order, and what decides which of two comes first.
use Rattle.std.specs.Prelude.{◌≡◌, true, List, [], ◌∷◌, ◌++◌, ℕ}
use Rattle.format.specs.Layout.Name.{Name, name_less}
use Rattle.format.specs.Layout.Entry.{name}
use Rattle.format.specs.Layout.Directory.{Directory}
use Rattle.format.specs.Layout.Tree.{Forest, empty, broken, node}

-- the path of an entry below `before`
abbrev pub path_below : Directory → List Name → ℕ → List Name
path_below d before e = before ++ (name (d.entry e) ∷ [])

-- the paths of a node from those of its parts: its left side, itself, what is below it, its right side
unfoldable pub arranged : List (List Name) → List Name → List (List Name) → List (List Name) → List (List Name)
arranged left own below right = left ++ (own ∷ (below ++ right))

unfoldable pub paths_in : Directory → List Name → Forest → List (List Name)
paths_in d before empty = []
paths_in d before broken = []
paths_in d before (node l e b r) = arranged (paths_in d before l) (path_below d before e) (paths_in d (path_below d before e) b) (paths_in d before r)

-- of two paths whose first names differ so, the first comes first
abbrev pub Earlier : Name → Name → Type 0
Earlier a c = name_less a c ≡ true
