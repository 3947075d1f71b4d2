-- What a stage leaves: a refusal with the number of the first broken group, or an opened volume.
use Rattle.std.specs.Prelude.{ℕ, ◌*◌, ◌/◌, ◌≤◌, ◌≡◌, cond, ◌||◌, Result, Ok, Err, List, eqb, length}
use Rattle.format.specs.Basics.Bytes.{Bytes}
use Rattle.format.specs.Layout.Geometry.{Geometry}
use Rattle.format.specs.Layout.Volume.{mini_stream_sectors}
use Rattle.format.specs.Rules.Length.{work_need}
use Rattle.format.specs.Rules.Verdict.{verdict}
use Rattle.format.specs.Calls.Buffers.{work_cleared}
use Rattle.kinds.specs.declared.Geometry.{Geometry as Sizes}
use Rattle.kinds.specs.Sizes.{geometry_of}
use Rattle.kinds.specs.Numbers.{refusal_number}
use Rattle.tables.specs.Work.{Wrote, Holds}
use Rattle.chains.specs.Answers.{unit_at}
use Rattle.volume.specs.Passed.{ListsStand}
use Rattle.volume.specs.declared.Volume.{Volume}
use Rattle.kinds.specs.declared.Refusal.{Refusal}

-- the sectors of the mini stream
abbrev pub stream_of : Volume → Bytes → List ℕ
stream_of v img = mini_stream_sectors (geometry_of v.tables.geometry) img

-- every list stands in the work buffer, that of the mini stream's sectors first; before it there is room to list every sector and every mini sector
pub record Readied (v : Volume) (img : Bytes) (work : List ℕ) : Type 0 where
  pub lists : ListsStand v.tables v.directory v.minis img work
  pub stream : Holds work v.stream (length (stream_of v img)) (unit_at (stream_of v img))
  pub before : v.stream ≤ v.minis.list
  pub room : 9 * (length img / 512) ≤ v.stream

-- a stage that answers `want`
abbrev pub Outcome : Sizes → Bytes → ℕ → List ℕ → Result Volume Refusal → Type 0
Outcome s img want work (Err a) = refusal_number a ≡ want
Outcome s img want work (Ok v) = (want ≡ 0) × ((v.tables.geometry ≡ s) × Readied v img work)

pub record StageLeft (s : Sizes) (img : Bytes) (want : ℕ) (before after : List ℕ) (r : Result Volume Refusal) : Type 0 where
  pub outcome : Outcome s img want after r
  pub wrote : Wrote before after 0 (work_need (length img))

-- the work buffer after an answer
unfoldable pub work_left : ℕ → Bytes → List ℕ → List ℕ
work_left a img work = cond (eqb a 1 || eqb a 2) work (work_cleared (work_need (length img)) work)

-- the opening of an image: refused for good, or with everything ready and the rest of the work buffer untouched
abbrev pub OpenedRight : Geometry → Bytes → List ℕ → List ℕ → Result Volume Refusal → Type 0
OpenedRight g img before after (Err a) =
    (refusal_number a ≡ verdict g img (length before)) × (after ≡ work_left (verdict g img (length before)) img before)
OpenedRight g img before after (Ok v) =
    (verdict g img (length before) ≡ 0)
    × ((geometry_of v.tables.geometry ≡ g)
    × (Readied v img after × ((work_need (length img) ≤ length before) × Wrote before after 0 (work_need (length img)))))
