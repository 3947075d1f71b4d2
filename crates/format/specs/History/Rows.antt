-- The rows of demand 3: one for each stream, its path and its bytes.
use Rattle.std.specs.Prelude.{ℕ, Bool, cond, List, [], ◌∷◌, ◌++◌, map, length}
use Rattle.format.specs.Basics.Lists.{any, sum}
use Rattle.format.specs.Basics.Bytes.{Bytes}
use Rattle.format.specs.Layout.Geometry.{Geometry}
use Rattle.format.specs.Layout.Name.{Name}
use Rattle.format.specs.Layout.Entry.{name, is_stream}
use Rattle.format.specs.Layout.Tree.{Forest, empty, broken, node, forest}
use Rattle.format.specs.Layout.Volume.{Volume, volume}
use Rattle.format.specs.Layout.Stream.{contents}
use Rattle.format.specs.Layout.PathOrder.{same_path}
use Rattle.format.specs.Calls.Paths.{Path, names}

-- the names from below the root down to the stream, and its bytes
pub record Row : Type 0 where
  pub path : List Name
  pub bytes : Bytes

-- ---- the rows of an image

-- of a tree whose entries' paths begin with the names `before`, in listing order
unfoldable pub rows_in : Volume → Bytes → List Name → Forest → List Row
rows_in v img before empty = []
rows_in v img before broken = []
rows_in v img before (node l e b r) =
    let path = before ++ (name (v.directory.entry e) ∷ []) in
    rows_in v img before l
    ++ cond (is_stream (v.directory.entry e)) (record { path = path; bytes = contents v img e } ∷ []) []
    ++ rows_in v img path b
    ++ rows_in v img before r

unfoldable pub rows_of : Geometry → Bytes → List Row
rows_of g img = rows_in (volume g img) img [] (forest (volume g img).directory)

-- ---- the row that a path means: the one whose names equal its own. On the rows of an accepted image there is at most one.

unfoldable pub means : Path → Row → Bool
means p r = same_path (names p) r.path

unfoldable pub has_row : List Row → Path → Bool
has_row rows p = any (means p) rows

unfoldable pub row_length : List Row → Path → ℕ
row_length [] p = 0
row_length (r ∷ rs) p = cond (means p r) (length r.bytes) (row_length rs p)

-- ---- what the rows need, in units of which a length needs `need`

unfoldable pub need_of : (ℕ → ℕ) → Row → ℕ
need_of need r = need (length r.bytes)

unfoldable pub total : (ℕ → ℕ) → List Row → ℕ
total need rows = sum (map (need_of need) rows)
