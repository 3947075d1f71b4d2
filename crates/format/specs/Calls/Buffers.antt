-- What each call leaves in the image, in the out buffer and in the work buffer. A refusal changes neither of the first two, by form.
use Rattle.std.specs.Prelude.{ℕ, cond, ◌||◌, List, [], ◌++◌, eqb, length, drop, replicate}
use Rattle.format.specs.Basics.Bytes.{Bytes}
use Rattle.format.specs.Layout.Geometry.{Geometry}
use Rattle.format.specs.Layout.Volume.{Volume, volume}
use Rattle.format.specs.Layout.Stream.{contents}
use Rattle.format.specs.Rules.Length.{work_need}
use Rattle.format.specs.Rules.Version.{version_of}
use Rattle.format.specs.Calls.Read.{read_bytes, over}
use Rattle.format.specs.Calls.Overwrite.{overwritten}
use Rattle.format.specs.Calls.Move.{length_changed}
use Rattle.format.specs.Calls.Create.{object_created}
use Rattle.format.specs.Calls.Remove.{object_removed}
use Rattle.format.specs.Calls.Listing.{listing}
use Rattle.format.specs.Calls.Call.{Call, validate, find, read, overwrite, set_length, create, remove, list, read_at, work_of, out_of}
use Rattle.format.specs.Calls.Answer.{target, answer}
use Rattle.format.specs.Calls.Reply.{on_zero}

-- ---- the image

-- after a call that answers 0
unfoldable pub edited : Volume → Bytes → Call → Bytes
edited v img (validate work) = img
edited v img (find path work) = img
edited v img (read path offset out work) = img
edited v img (overwrite path offset bytes work) = overwritten v img (target v path) offset bytes
edited v img (set_length path new work) = length_changed v img (target v path) new
edited v img (create made path work) = object_created v img made path
edited v img (remove path work) = object_removed v img path
edited v img (list out work) = img
edited v img (read_at entry position out work) = img

unfoldable pub image_after_by : Geometry → Bytes → Call → Bytes
image_after_by g img call =
    let accepted = edited (volume g img) img call in
    on_zero (answer g img call) accepted img

-- by the image's own version
abbrev pub image_after : Bytes → Call → Bytes
image_after img call = image_after_by (version_of img) img call

-- ---- the out buffer

-- after a call that answers 0
unfoldable pub handed_out : Volume → Bytes → Call → Bytes
handed_out v img (validate work) = []
handed_out v img (find path work) = []
handed_out v img (read path offset out work) =
    over (read_bytes (contents v img (target v path)) offset (length out)) out
handed_out v img (overwrite path offset bytes work) = []
handed_out v img (set_length path new work) = []
handed_out v img (create made path work) = []
handed_out v img (remove path work) = []
handed_out v img (list out work) = over (listing v.directory) out
handed_out v img (read_at entry position out work) = over (read_bytes (contents v img entry) position (length out)) out

unfoldable pub out_after_by : Geometry → Bytes → Call → Bytes
out_after_by g img call =
    let accepted = handed_out (volume g img) img call in
    on_zero (answer g img call) accepted (out_of call)

abbrev pub out_after : Bytes → Call → Bytes
out_after img call = out_after_by (version_of img) img call

-- ---- the work buffer: answers 1 and 2 leave it, any other leaves W zeros and the rest

unfoldable pub work_cleared : ℕ → List ℕ → List ℕ
work_cleared w work = replicate w 0 ++ drop w work

unfoldable pub work_after_by : Geometry → Bytes → Call → List ℕ
work_after_by g img call =
    cond (eqb (answer g img call) 1 || eqb (answer g img call) 2)
    (work_of call)
    (work_cleared (work_need (length img)) (work_of call))

abbrev pub work_after : Bytes → Call → List ℕ
work_after img call = work_after_by (version_of img) img call
