-- What a repair answers, and what it leaves in every buffer. `spare` and `work` are what those buffers hold at first.
use Rattle.std.specs.Prelude.{ℕ, ◌+◌, Bool, not, cond, ◌&&◌, ◌||◌, List, eqb, leb, length}
use Rattle.format.specs.Basics.Lists.{pick_below}
use Rattle.format.specs.Basics.Bytes.{Bytes, byte_at, u32at}
use Rattle.format.specs.Layout.Geometry.{Geometry}
use Rattle.format.specs.Layout.Space.{Space}
use Rattle.format.specs.Layout.Entry.{colour_byte}
use Rattle.format.specs.Layout.Volume.{Volume, volume}
use Rattle.format.specs.Rules.Length.{length_allowed, work_need}
use Rattle.format.specs.Rules.Version.{version_of}
use Rattle.format.specs.Rules.Verdict.{check, groups}
use Rattle.format.specs.Calls.Reply.{Reply, plain, counted, on_zero}
use Rattle.format.specs.Calls.Buffers.{work_cleared}
use Rattle.format.specs.Calls.RepairSteps.{repaired}

-- ---- the answer

-- 2 is for either buffer; past 1 and 2 it is the number of the first group that the outcome breaks
unfoldable pub repair_answer : Geometry → Bytes → (spare : Bytes) → (work : List ℕ) → ℕ
repair_answer g img spare work =
    check (length_allowed g (length img)) 1 (
    check (leb (work_need (length img)) (length work) && leb (length img) (length spare)) 2 (
    groups g (repaired g img)))

-- ---- how many cells and colour bytes differ. Where the outcome is accepted, no two of these places share a byte.

unfoldable pub cell_differs : Space → Bytes → Bytes → ℕ → Bool
cell_differs sp a b u = not (eqb (u32at a (sp.cell_place u)) (u32at b (sp.cell_place u)))

unfoldable pub colour_differs : Volume → Bytes → Bytes → ℕ → Bool
colour_differs v a b i = not (eqb (byte_at a (v.entry_place i + colour_byte)) (byte_at b (v.entry_place i + colour_byte)))

-- between two images whose tables and directory stand where the volume says
unfoldable pub differences : Volume → Bytes → Bytes → ℕ
differences v a b =
    length (pick_below v.sectors.cells (cell_differs v.sectors a b))
    + length (pick_below v.minis.cells (cell_differs v.minis a b))
    + length (pick_below v.directory.count (colour_differs v a b))

unfoldable pub repair_reply_by : Geometry → Bytes → (spare : Bytes) → (work : List ℕ) → Reply
repair_reply_by g img spare work =
    let after = repaired g img in
    on_zero (repair_answer g img spare work) (counted (differences (volume g after) img after)) (plain (repair_answer g img spare work))

-- by the image's own version
abbrev pub repair_reply : Bytes → (spare : Bytes) → (work : List ℕ) → Reply
repair_reply img spare work = repair_reply_by (version_of img) img spare work

-- ---- the buffers

unfoldable pub image_repaired_by : Geometry → Bytes → (spare : Bytes) → (work : List ℕ) → Bytes
image_repaired_by g img spare work = on_zero (repair_answer g img spare work) (repaired g img) img

abbrev pub image_repaired : Bytes → (spare : Bytes) → (work : List ℕ) → Bytes
image_repaired img spare work = image_repaired_by (version_of img) img spare work

-- answers 1 and 2
unfoldable pub repair_short : Geometry → Bytes → (spare : Bytes) → (work : List ℕ) → Bool
repair_short g img spare work = eqb (repair_answer g img spare work) 1 || eqb (repair_answer g img spare work) 2

unfoldable pub work_repaired_by : Geometry → Bytes → (spare : Bytes) → (work : List ℕ) → List ℕ
work_repaired_by g img spare work = cond (repair_short g img spare work) work (work_cleared (work_need (length img)) work)

abbrev pub work_repaired : Bytes → (spare : Bytes) → (work : List ℕ) → List ℕ
work_repaired img spare work = work_repaired_by (version_of img) img spare work

-- as many of the spare buffer's bytes as the image has become zero
unfoldable pub spare_repaired_by : Geometry → Bytes → (spare : Bytes) → (work : List ℕ) → Bytes
spare_repaired_by g img spare work = cond (repair_short g img spare work) spare (work_cleared (length img) spare)

abbrev pub spare_repaired : Bytes → (spare : Bytes) → (work : List ℕ) → Bytes
spare_repaired img spare work = spare_repaired_by (version_of img) img spare work
