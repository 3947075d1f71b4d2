-- The lowest blank entry, or that there is none.
use Rattle.std.specs.Prelude.{◌<◌, ◌≡◌, Option, Some, None, [], length}
use Rattle.format.specs.Layout.Directory.{Directory, blanks}
use Rattle.format.specs.Calls.Create.{lowest_blank}
use Rattle.kinds.specs.declared.EntryId.{EntryId}

abbrev pub LowestBlank : Directory → Option EntryId → Type 0
LowestBlank e (Some x) = (x.0 < e.count) × ((0 < length (blanks e)) × (x.0 ≡ lowest_blank e))
LowestBlank e None = blanks e ≡ []
