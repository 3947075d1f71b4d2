-- The public calls, each with all that is passed or lent beside the image. `work` and `out` are what those buffers hold at first.
use Rattle.std.specs.Prelude.{ℕ, List, []}
use Rattle.format.specs.Basics.Bytes.{Bytes}
use Rattle.format.specs.Calls.Paths.{Path}
use Rattle.format.specs.Calls.Create.{NewKind}

pub data Call : Type 0 where
  validate : (work : List ℕ) → Call
  find : (path : Path) → (work : List ℕ) → Call
  read : (path : Path) → (offset : ℕ) → (out : Bytes) → (work : List ℕ) → Call
  overwrite : (path : Path) → (offset : ℕ) → (bytes : Bytes) → (work : List ℕ) → Call
  set_length : (path : Path) → (new : ℕ) → (work : List ℕ) → Call
  create : (made : NewKind) → (path : Path) → (work : List ℕ) → Call
  remove : (path : Path) → (work : List ℕ) → Call
  list : (out : Bytes) → (work : List ℕ) → Call
  -- at a cursor
  read_at : (entry : ℕ) → (position : ℕ) → (out : Bytes) → (work : List ℕ) → Call

unfoldable pub work_of : Call → List ℕ
work_of (validate work) = work
work_of (find path work) = work
work_of (read path offset out work) = work
work_of (overwrite path offset bytes work) = work
work_of (set_length path new work) = work
work_of (create made path work) = work
work_of (remove path work) = work
work_of (list out work) = work
work_of (read_at entry position out work) = work

-- of a call that is lent no out buffer it is empty
unfoldable pub out_of : Call → Bytes
out_of (validate work) = []
out_of (find path work) = []
out_of (read path offset out work) = out
out_of (overwrite path offset bytes work) = []
out_of (set_length path new work) = []
out_of (create made path work) = []
out_of (remove path work) = []
out_of (list out work) = out
out_of (read_at entry position out work) = out
