-- The directory: entries of 128 bytes each, laid over the sectors of a chain (group 13).
use Rattle.std.specs.Prelude.{ℕ, ◌*◌, Bool, cond, List, [], ltb, length}
use Rattle.format.specs.Basics.Lists.{pick_below}
use Rattle.format.specs.Basics.Bytes.{Bytes, part}
use Rattle.format.specs.Layout.Geometry.{Geometry, entry_bytes, size_width, place_in, entries_in}
use Rattle.format.specs.Layout.Chain.{follow}
use Rattle.format.specs.Layout.Space.{Space}
use Rattle.format.specs.Layout.Entry.{size, is_blank}

pub record Directory : Type 0 where
  -- how many entries there are
  pub count : ℕ
  -- the bytes of each
  pub entry : ℕ → Bytes
  -- how many bytes of a size count
  pub size_width : ℕ

-- The sectors of the directory's chain, followed to its end: version 3 gives its length in no field, and version 4's count is judged by it.
-- A chain holds no sector twice, so it has at most N of them.
unfoldable pub directory_sectors : Space → ℕ → List ℕ
directory_sectors sp s = follow sp.cell sp.limit sp.limit s

unfoldable pub entry_place : Geometry → List ℕ → ℕ → ℕ
entry_place g sectors i = place_in g sectors (entry_bytes * i)

unfoldable pub entry_count : Geometry → List ℕ → ℕ
entry_count g sectors = entries_in g * length sectors

-- the bytes of entry i; a number past the directory has none
unfoldable pub entry_in : Geometry → Bytes → List ℕ → ℕ → Bytes
entry_in g img sectors i = cond (ltb i (entry_count g sectors)) (part img (entry_place g sectors i) entry_bytes) []

unfoldable pub directory_of : Geometry → Bytes → List ℕ → Directory
directory_of g img sectors = record { count = entry_count g sectors; entry = entry_in g img sectors; size_width = size_width g }

-- the size of entry i, as read
unfoldable pub size_of : Directory → ℕ → ℕ
size_of d i = size d.size_width (d.entry i)

unfoldable pub blank_at : Directory → ℕ → Bool
blank_at d i = is_blank (d.entry i)

-- the blank entries, lowest first
unfoldable pub blanks : Directory → List ℕ
blanks d = pick_below d.count (blank_at d)
