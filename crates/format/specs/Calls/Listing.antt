-- The listing: a line for each object below the root ("The listing").
use Rattle.std.specs.Prelude.{ℕ, cond, [], ◌∷◌, ◌++◌, length}
use Rattle.format.specs.Basics.Bytes.{Bytes}
use Rattle.format.specs.Layout.Name.{slash}
use Rattle.format.specs.Layout.Entry.{name, is_stream}
use Rattle.format.specs.Layout.Directory.{Directory, size_of}
use Rattle.format.specs.Layout.Tree.{Forest, empty, broken, node, forest, entries}
use Rattle.format.specs.Calls.Text.{newline, space, decimal, print_name}

-- `F SIZE` for a stream, `D 0` for a storage, and the path
unfoldable pub line : Directory → ℕ → Bytes → Bytes
line d e path =
    cond (is_stream (d.entry e)) (0x46 ∷ space ∷ decimal (size_of d e)) (0x44 ∷ space ∷ 0x30 ∷ [])
    ++ (space ∷ path)
    ++ (newline ∷ [])

-- the lines of a tree whose entries' paths begin with `before`: siblings in name order, each followed at once by all that is below it
unfoldable pub lines : Directory → Bytes → Forest → Bytes
lines d before empty = []
lines d before broken = []
lines d before (node l e b r) =
    let path = before ++ print_name (name (d.entry e)) in
    lines d before l
    ++ line d e path
    ++ lines d (path ++ (slash ∷ [])) b
    ++ lines d before r

-- `objects` and how many there are
unfoldable pub first_line : ℕ → Bytes
first_line n = 0x6F ∷ 0x62 ∷ 0x6A ∷ 0x65 ∷ 0x63 ∷ 0x74 ∷ 0x73 ∷ space ∷ (decimal n ++ (newline ∷ []))

unfoldable pub listing : Directory → Bytes
listing d = first_line (length (entries (forest d))) ++ lines d [] (forest d)
