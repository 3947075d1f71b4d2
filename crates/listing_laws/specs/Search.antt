-- The search for a name among siblings.
use Rattle.std.specs.Prelude.{ℕ, ◌≡◌, cond}
use Rattle.format.specs.Layout.Name.{Name, name_equal}
use Rattle.format.specs.Layout.Entry.{name}
use Rattle.format.specs.Layout.Directory.{Directory}
use Rattle.format.specs.Layout.Tree.{Forest, empty, broken, node}
use Rattle.format.specs.Calls.Find.{Child, missing, present, or_else, child_named}

-- what a search looks at: the left side of a node, the entry itself, the right side
unfoldable pub in_node : Directory → Name → Forest → ℕ → Forest → Forest → Child
in_node d n l e b r = or_else (child_named d n l) (or_else (cond (name_equal n (name (d.entry e))) (present e b) missing) (child_named d n r))

-- of e's name among these siblings the search finds e, with what is below it
abbrev pub Own : Directory → Forest → ℕ → Forest → Type 0
Own d t e b = child_named d (name (d.entry e)) t ≡ present e b

-- a fact of every sibling and the tree below it
abbrev pub EachSibling : (ℕ → Forest → Type 0) → Forest → Type 0
EachSibling P empty = Unit {0}
EachSibling P broken = Unit {0}
EachSibling P (node l e b r) = EachSibling P l × P e b × EachSibling P r
