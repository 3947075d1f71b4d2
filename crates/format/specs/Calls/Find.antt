-- The entry that a path leads to, or the answer 20 to 23.
use Rattle.std.specs.Prelude.{ℕ, cond, List, [], ◌∷◌}
use Rattle.format.specs.Layout.Name.{Name, name_equal}
use Rattle.format.specs.Layout.Entry.{name, is_stream}
use Rattle.format.specs.Layout.Directory.{Directory}
use Rattle.format.specs.Layout.Tree.{Forest, empty, broken, node, forest}
use Rattle.format.specs.Calls.Paths.{Path, names, well_formed, names_before}

-- ---- one name among siblings

pub data Child : Type 0 where
  missing : Child
  -- the entry, and the tree below it
  present : ℕ → Forest → Child

unfoldable pub or_else : Child → Child → Child
or_else (present e b) other = present e b
or_else missing other = other

-- the sibling of that name; where group 15 holds there is at most one
unfoldable pub child_named : Directory → Name → Forest → Child
child_named d n empty = missing
child_named d n broken = missing
child_named d n (node l e b r) =
    or_else (child_named d n l) (or_else (cond (name_equal n (name (d.entry e))) (present e b) missing) (child_named d n r))

-- ---- one name after the other

pub data Found : Type 0 where
  -- the entry, and the tree below it
  at : ℕ → Forest → Found
  -- the answer
  refused : ℕ → Found

unfoldable pub found_child : Child → Found
found_child missing = refused 21
found_child (present e b) = at e b

-- one name further. A name that fails is the first that does, so what comes after it is not looked at.
unfoldable pub enter : Directory → Found → Name → Found
enter d (at e b) n = cond (is_stream (d.entry e)) (refused 22) (found_child (child_named d n b))
enter d (refused a) n = refused a

unfoldable pub descend : Directory → Found → List Name → Found
descend d f [] = f
descend d f (n ∷ ns) = descend d (enter d f n) ns

-- ---- the whole path

-- from the root, entry 0; a badly formed path is not followed
unfoldable pub resolve : Directory → Path → Found
resolve d p = cond (well_formed p) (descend d (at 0 (forest d)) (names p)) (refused 20)

-- where a stream is needed, a storage and the root are refused
unfoldable pub need_stream : Directory → Found → Found
need_stream d (at e b) = cond (is_stream (d.entry e)) (at e b) (refused 23)
need_stream d (refused a) = refused a

unfoldable pub resolve_stream : Directory → Path → Found
resolve_stream d p = need_stream d (resolve d p)

-- the answer, 0 where an entry is found; and the entry, 0 where none is
unfoldable pub answer_of : Found → ℕ
answer_of (at e b) = 0
answer_of (refused a) = a

unfoldable pub entry_of : Found → ℕ
entry_of (at e b) = e
entry_of (refused a) = 0

-- where something is to stand below, a stream is refused
unfoldable pub need_parent : Directory → Found → Found
need_parent d (at e b) = cond (is_stream (d.entry e)) (refused 22) (at e b)
need_parent d (refused a) = refused a

-- the root or the storage that the last name stands in, with the tree of its children; for the empty path the root
unfoldable pub resolve_parent : Directory → Path → Found
resolve_parent d p = cond (well_formed p) (need_parent d (descend d (at 0 (forest d)) (names_before p))) (refused 20)

unfoldable pub below_of : Found → Forest
below_of (at e b) = b
below_of (refused a) = empty
