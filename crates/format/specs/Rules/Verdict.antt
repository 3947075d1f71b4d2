-- The verdict on an image: 0, 1, 2, or the number of the first group that it breaks.
use Rattle.std.specs.Prelude.{◌≡◌, ℕ, Bool, true, false, leb, length}
use Rattle.format.specs.Basics.Bytes.{Bytes}
use Rattle.format.specs.Layout.Geometry.{Geometry}
use Rattle.format.specs.Layout.Volume.{Volume, volume}
use Rattle.format.specs.Rules.Length.{length_allowed, work_need}
use Rattle.format.specs.Rules.Header.{header_rules}
use Rattle.format.specs.Rules.Tables.{table_rules}
use Rattle.format.specs.Rules.Cells.{cell_rules}
use Rattle.format.specs.Rules.Directory.{directory_rules}
use Rattle.format.specs.Rules.Entries.{entry_rules}
use Rattle.format.specs.Rules.Trees.{tree_rules}
use Rattle.format.specs.Rules.Mini.{mini_rules}
use Rattle.format.specs.Rules.Streams.{stream_rules}
use Rattle.format.specs.Rules.Owners.{owner_rules}

-- the number of a rule that does not hold, and else what the later rules give
unfoldable pub check : Bool → ℕ → ℕ → ℕ
check true number later = later
check false number later = number

-- groups 12 to 18
unfoldable pub volume_groups : Volume → ℕ
volume_groups v =
    check (cell_rules v.sectors) 12 (
    check (directory_rules v) 13 (
    check (entry_rules v.directory) 14 (
    check (tree_rules v.directory) 15 (
    check (mini_rules v) 16 (
    check (stream_rules v) 17 (
    check (owner_rules v) 18 0))))))

-- groups 10 to 18
unfoldable pub groups : Geometry → Bytes → ℕ
groups g img =
    check (header_rules g img) 10 (
    check (table_rules g img) 11 (
    volume_groups (volume g img)))

-- the verdict where the work buffer has so many numbers
unfoldable pub verdict : Geometry → Bytes → ℕ → ℕ
verdict g img work =
    check (length_allowed g (length img)) 1 (
    check (leb (work_need (length img)) work) 2 (
    groups g img))

-- an accepted image: with a work buffer of just W numbers, nothing is refused
abbrev pub Accepted : Geometry → Bytes → Type 0
Accepted g img = verdict g img (work_need (length img)) ≡ 0
