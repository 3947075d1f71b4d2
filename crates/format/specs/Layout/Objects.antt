-- The objects below the root, in listing order: each storage and each stream with its type, size and path.
use Rattle.std.specs.Prelude.{ℕ, List, [], ◌∷◌, ◌++◌}
use Rattle.format.specs.Layout.Name.{Name}
use Rattle.format.specs.Layout.Entry.{name, kind}
use Rattle.format.specs.Layout.Directory.{Directory, size_of}
use Rattle.format.specs.Layout.Tree.{Forest, empty, broken, node, forest}

pub record Object : Type 0 where
  -- 1 for a storage, 2 for a stream, as the entry has it
  pub type : ℕ
  -- the entry's size as read: of a storage it is 0 (group 14)
  pub size : ℕ
  -- the names from below the root down to the object
  pub path : List Name

unfoldable pub object_at : Directory → ℕ → List Name → Object
object_at d e path = record { type = kind (d.entry e); size = size_of d e; path = path }

-- of a tree whose entries' paths begin with the names `before`; the order is that of `entries`
unfoldable pub objects_in : Directory → List Name → Forest → List Object
objects_in d before empty = []
objects_in d before broken = []
objects_in d before (node l e b r) =
    let path = before ++ (name (d.entry e) ∷ []) in
    objects_in d before l ++ (object_at d e path ∷ (objects_in d path b ++ objects_in d before r))

unfoldable pub objects_of : Directory → List Object
objects_of d = objects_in d [] (forest d)

unfoldable pub path_of : Object → List Name
path_of o = o.path
