-- Which calls keep the reply that they had when only a to z were folded.
use Rattle.std.specs.Prelude.{◌≡◌, ℕ, ◌+◌, Bool, true, cond, List, [], ◌∷◌, map, length}
use Rattle.format.specs.Basics.Lists.{all, equal}
use Rattle.format.specs.Basics.Bytes.{Bytes}
use Rattle.format.specs.Layout.Geometry.{Geometry}
use Rattle.format.specs.Layout.Name.{Name}
use Rattle.format.specs.Layout.Entry.{name, is_stream}
use Rattle.format.specs.Layout.Directory.{Directory}
use Rattle.format.specs.Layout.Tree.{Forest, empty, broken, node, forest}
use Rattle.format.specs.Layout.Volume.{Volume, volume, directory}
use Rattle.format.specs.Layout.Stream.{stream_size}
use Rattle.format.specs.Calls.Paths.{Path, names, well_formed, names_before}
use Rattle.format.specs.Calls.Find.{Child, missing, present, or_else, Found, at, refused, found_child, need_stream, answer_of, entry_of, need_parent}
use Rattle.format.specs.Calls.Read.{read_count}
use Rattle.format.specs.Calls.Call.{Call, validate, find, read, overwrite, set_length, create, remove, list, read_at, work_of}
use Rattle.format.specs.Calls.Answer.{first_of, beyond, length_answer, create_answer, remove_answer, answer_in}
use Rattle.format.specs.Calls.Reply.{Reply, plain, found_reply, counted, done, on_zero, reply_by}
use Rattle.format.specs.Claims.Folding.{former_fold, former_verdict, steady_unit, steady_names, plain_unit, plain_names}

-- ---- what a path led to: Calls/Find with the former equality of names

unfoldable pub former_equal : Name → Name → Bool
former_equal a b = equal (map former_fold a) (map former_fold b)

unfoldable pub former_child : Directory → Name → Forest → Child
former_child d n empty = missing
former_child d n broken = missing
former_child d n (node l e b r) =
    or_else (former_child d n l) (or_else (cond (former_equal n (name (d.entry e))) (present e b) missing) (former_child d n r))

unfoldable pub former_enter : Directory → Found → Name → Found
former_enter d (at e b) n = cond (is_stream (d.entry e)) (refused 22) (found_child (former_child d n b))
former_enter d (refused a) n = refused a

unfoldable pub former_descend : Directory → Found → List Name → Found
former_descend d f [] = f
former_descend d f (n ∷ ns) = former_descend d (former_enter d f n) ns

unfoldable pub former_resolve : Directory → Path → Found
former_resolve d p = cond (well_formed p) (former_descend d (at 0 (forest d)) (names p)) (refused 20)

unfoldable pub former_parent : Directory → Path → Found
former_parent d p = cond (well_formed p) (need_parent d (former_descend d (at 0 (forest d)) (names_before p))) (refused 20)

unfoldable pub former_stream : Volume → Path → Found
former_stream v path = need_stream v.directory (former_resolve v.directory path)

-- ---- what a call replied: Calls/Answer and Calls/Reply with it

unfoldable pub former_answer_in : Geometry → Volume → Call → ℕ
former_answer_in g v (validate work) = answer_in g v (validate work)
former_answer_in g v (find path work) = answer_of (former_resolve v.directory path)
former_answer_in g v (read path offset out work) =
    first_of (answer_of (former_stream v path)) (beyond (stream_size v (entry_of (former_stream v path))) offset)
former_answer_in g v (overwrite path offset bytes work) =
    first_of (answer_of (former_stream v path)) (beyond (stream_size v (entry_of (former_stream v path))) (offset + length bytes))
former_answer_in g v (set_length path new work) =
    first_of (answer_of (former_stream v path)) (length_answer g v (stream_size v (entry_of (former_stream v path))) new)
former_answer_in g v (create made path work) = create_answer v.directory (former_parent v.directory path) (former_resolve v.directory path)
former_answer_in g v (remove path work) = remove_answer v.directory (former_resolve v.directory path)
former_answer_in g v (list out work) = answer_in g v (list out work)
former_answer_in g v (read_at entry position out work) = answer_in g v (read_at entry position out work)

unfoldable pub former_done : Volume → Call → Reply
former_done v (validate work) = done v (validate work)
former_done v (find path work) = found_reply v (entry_of (former_resolve v.directory path))
former_done v (read path offset out work) = counted (read_count (stream_size v (entry_of (former_stream v path))) offset (length out))
former_done v (overwrite path offset bytes work) = done v (overwrite path offset bytes work)
former_done v (set_length path new work) = done v (set_length path new work)
former_done v (create made path work) = done v (create made path work)
former_done v (remove path work) = done v (remove path work)
former_done v (list out work) = done v (list out work)
former_done v (read_at entry position out work) = done v (read_at entry position out work)

unfoldable pub former_answer : Geometry → Bytes → Call → ℕ
former_answer g img call =
    let later = former_answer_in g (volume g img) call in
    first_of (former_verdict g img (length (work_of call))) later

unfoldable pub former_reply : Geometry → Bytes → Call → Reply
former_reply g img call =
    let accepted = former_done (volume g img) call in
    on_zero (former_answer g img call) accepted (plain (former_answer g img call))

-- ---- the claims

-- the units of the call's path; a call without a path has none
unfoldable pub path_of : Call → Path
path_of (validate work) = []
path_of (find path work) = path
path_of (read path offset out work) = path
path_of (overwrite path offset bytes work) = path
path_of (set_length path new work) = path
path_of (create made path work) = path
path_of (remove path work) = path
path_of (list out work) = []
path_of (read_at entry position out work) = []

-- On a file whose objects' names have no unit that is folded anew, a call whose path has none either replies as it did.
abbrev pub KeepsReply : Geometry → Type 0
KeepsReply g =
    (img : Bytes) (call : Call) → steady_names (directory g img) ≡ true → all steady_unit (path_of call) ≡ true
    → former_reply g img call ≡ reply_by g img call

-- Among them are the calls on a file whose objects' names are all below 0080, with such a path.
abbrev pub PlainKeepsReply : Geometry → Type 0
PlainKeepsReply g =
    (img : Bytes) (call : Call) → plain_names (directory g img) ≡ true → all plain_unit (path_of call) ≡ true
    → former_reply g img call ≡ reply_by g img call
