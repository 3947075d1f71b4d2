-- What demand 3 keeps beside the rows: the storages' paths, and how many entries are blank.
use Rattle.std.specs.Prelude.{ℕ, Bool, true, cond, List, [], ◌∷◌, ◌++◌, length}
use Rattle.format.specs.Basics.Lists.{any}
use Rattle.format.specs.Basics.Bytes.{Bytes}
use Rattle.format.specs.Layout.Geometry.{Geometry}
use Rattle.format.specs.Layout.Name.{Name}
use Rattle.format.specs.Layout.Entry.{name, is_storage}
use Rattle.format.specs.Layout.Directory.{Directory, blanks}
use Rattle.format.specs.Layout.Tree.{Forest, empty, broken, node, forest}
use Rattle.format.specs.Layout.Volume.{directory}
use Rattle.format.specs.Layout.PathOrder.{same_path}

-- ---- of an image

-- the storages of a tree whose entries' paths begin with the names `before`, in listing order
unfoldable pub storages_in : Directory → List Name → Forest → List (List Name)
storages_in d before empty = []
storages_in d before broken = []
storages_in d before (node l e b r) =
    let path = before ++ (name (d.entry e) ∷ []) in
    storages_in d before l
    ++ cond (is_storage (d.entry e)) (path ∷ []) []
    ++ storages_in d path b
    ++ storages_in d before r

unfoldable pub storages_of : Geometry → Bytes → List (List Name)
storages_of g img = storages_in (directory g img) [] (forest (directory g img))

unfoldable pub blank_count_of : Geometry → Bytes → ℕ
blank_count_of g img = length (blanks (directory g img))

-- ---- the storage that names mean

unfoldable pub has_storage : List (List Name) → List Name → Bool
has_storage storages ns = any (same_path ns) storages

-- the names as the storage spells them; the root has none
unfoldable pub spelled : List (List Name) → List Name → List Name
spelled [] ns = []
spelled (q ∷ qs) ns = cond (same_path ns q) q (spelled qs ns)

-- a storage or the root
unfoldable pub is_storage_or_root : List (List Name) → List Name → Bool
is_storage_or_root storages [] = true
is_storage_or_root storages (n ∷ ns) = has_storage storages (n ∷ ns)
