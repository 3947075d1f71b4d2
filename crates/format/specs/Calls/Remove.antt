-- What removing an object leaves in the image.
use Rattle.std.specs.Prelude.{ℕ, ◌+◌, cond, ◌∷◌, ◌++◌}
use Rattle.format.specs.Basics.Bytes.{Bytes, le32, put_bytes, put32}
use Rattle.format.specs.Layout.Entry.{is_stream, child_field, field_byte, colour_byte, black}
use Rattle.format.specs.Layout.NewEntry.{blank_entry}
use Rattle.format.specs.Layout.Tree.{Forest, empty, broken, node}
use Rattle.format.specs.Layout.Siblings.{top, without_node}
use Rattle.format.specs.Layout.Volume.{Volume, volume}
use Rattle.format.specs.Calls.Paths.{Path}
use Rattle.format.specs.Calls.Find.{resolve, entry_of, resolve_parent, below_of}
use Rattle.format.specs.Calls.SetLength.{resized}

-- ---- the tree

-- colour, left and right of each sibling as the tree has them, all black. A field that holds its value already stays.
unfoldable pub siblings_written : Volume → Forest → Bytes → Bytes
siblings_written v empty img = img
siblings_written v broken img = img
siblings_written v (node l e b r) img =
    let here = put_bytes img (v.entry_place e + colour_byte) (black ∷ (le32 (top l) ++ le32 (top r))) in
    siblings_written v r (siblings_written v l here)

-- the tree of siblings below entry s is written anew without entry x, which becomes blank
unfoldable pub entry_removed_at : Volume → Bytes → ℕ → Forest → ℕ → Bytes
entry_removed_at v img s t x =
    let tree = without_node x t in
    let linked = put32 (siblings_written v tree img) (v.entry_place s + field_byte child_field) (top tree) in
    put_bytes linked (v.entry_place x) blank_entry

unfoldable pub entry_removed : Volume → Bytes → Path → Bytes
entry_removed v img p =
    let parent = resolve_parent v.directory p in
    entry_removed_at v img (entry_of parent) (below_of parent) (entry_of (resolve v.directory p))

-- ---- the whole

-- a stream is first cut to 0
unfoldable pub cut_to_zero : Volume → Bytes → ℕ → Bytes
cut_to_zero v img e = cond (is_stream (v.directory.entry e)) (resized v img e 0) img

unfoldable pub object_removed : Volume → Bytes → Path → Bytes
object_removed v img p =
    let cut = cut_to_zero v img (entry_of (resolve v.directory p)) in
    entry_removed (volume v.geometry cut) cut p
