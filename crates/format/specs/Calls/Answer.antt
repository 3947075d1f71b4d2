-- The answer number of each call.
use Rattle.std.specs.Prelude.{ℕ, zero, suc, ◌+◌, not, cond, ◌&&◌, eqb, ltb, length}
use Rattle.format.specs.Basics.Bytes.{Bytes}
use Rattle.format.specs.Layout.Geometry.{Geometry}
use Rattle.format.specs.Layout.Space.{free_units}
use Rattle.format.specs.Layout.Entry.{is_storage}
use Rattle.format.specs.Layout.Directory.{Directory, blanks}
use Rattle.format.specs.Layout.Volume.{Volume, volume}
use Rattle.format.specs.Layout.Stream.{stream_size}
use Rattle.format.specs.Layout.Tree.{is_empty}
use Rattle.format.specs.Rules.Verdict.{verdict}
use Rattle.format.specs.Calls.Paths.{Path}
use Rattle.format.specs.Calls.Find.{Found, at, refused, resolve, resolve_stream, answer_of, entry_of, resolve_parent}
use Rattle.format.specs.Calls.SetLength.{too_few}
use Rattle.format.specs.Calls.Listing.{listing}
use Rattle.format.specs.Calls.Cursor.{stream_answer}
use Rattle.format.specs.Calls.Call.{Call, validate, find, read, overwrite, set_length, create, remove, list, read_at, work_of}

-- the first number that is not 0, and else 0
unfoldable pub first_of : ℕ → ℕ → ℕ
first_of zero n = n
first_of (suc a) n = suc a

-- the stream that a path leads to, and the answer where it leads to none
unfoldable pub target : Volume → Path → ℕ
target v path = entry_of (resolve_stream v.directory path)

unfoldable pub target_answer : Volume → Path → ℕ
target_answer v path = answer_of (resolve_stream v.directory path)

-- 24 where a place lies behind the end
unfoldable pub beyond : ℕ → ℕ → ℕ
beyond size place = cond (ltb size place) 24 0

-- 26 or 0
unfoldable pub length_answer : Geometry → Volume → ℕ → ℕ → ℕ
length_answer g v old new = cond (too_few g (length (free_units v.sectors)) (length (free_units v.minis)) old new) 26 0

-- the refusals of the names before the last; then 29 where the path leads to something, the root included; 30
unfoldable pub create_answer : Directory → (parent there : Found) → ℕ
create_answer d parent there =
    first_of (answer_of parent) (cond (eqb (answer_of there) 0) 29 (cond (eqb (length (blanks d)) 0) 30 0))

-- the path's refusals; then 28 for a storage with something in it, 31 for the root
unfoldable pub remove_answer : Directory → Found → ℕ
remove_answer d (at e b) = cond (is_storage (d.entry e) && not (is_empty b)) 28 (cond (eqb e 0) 31 0)
remove_answer d (refused a) = a

-- what comes after validation: 20 to 33, or 0. A sum of numbers is the true one.
unfoldable pub answer_in : Geometry → Volume → Call → ℕ
answer_in g v (validate work) = 0
answer_in g v (find path work) = answer_of (resolve v.directory path)
answer_in g v (read path offset out work) =
    first_of (target_answer v path) (beyond (stream_size v (target v path)) offset)
answer_in g v (overwrite path offset bytes work) =
    first_of (target_answer v path) (beyond (stream_size v (target v path)) (offset + length bytes))
answer_in g v (set_length path new work) =
    first_of (target_answer v path) (length_answer g v (stream_size v (target v path)) new)
answer_in g v (create made path work) = create_answer v.directory (resolve_parent v.directory path) (resolve v.directory path)
answer_in g v (remove path work) = remove_answer v.directory (resolve v.directory path)
answer_in g v (list out work) = cond (ltb (length out) (length (listing v.directory))) 27 0
answer_in g v (read_at entry position out work) =
    first_of (stream_answer v entry) (beyond (stream_size v entry) position)

-- Every call validates the image first. The numbers rise from question to question, so the first that is not 0 is the lowest;
-- but at a cursor 33 comes before 24.
unfoldable pub answer : Geometry → Bytes → Call → ℕ
answer g img call =
    let later = answer_in g (volume g img) call in
    first_of (verdict g img (length (work_of call))) later
