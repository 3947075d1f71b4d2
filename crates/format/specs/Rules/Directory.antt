-- Group 13: the directory's chain.
use Rattle.std.specs.Prelude.{ℕ, Bool, not, ◌&&◌, ◌||◌, List, eqb, leb, length}
use Rattle.format.specs.Layout.Geometry.{counts_directory}
use Rattle.format.specs.Layout.Chain.{chain}
use Rattle.format.specs.Layout.Space.{Space}
use Rattle.format.specs.Layout.Volume.{Volume}

-- a chain of some length, of at least one sector: the only length it can have is how far the cells lead
unfoldable pub some_chain : Space → List ℕ → ℕ → Bool
some_chain sp sectors s = leb 1 (length sectors) && chain sp.cell sp.limit (length sectors) s

-- the header's count is right, where the version has one
unfoldable pub count_right : Volume → Bool
count_right v = not (counts_directory v.geometry) || eqb v.directory_count (length v.directory_sectors)

-- GROUP 13
unfoldable pub directory_rules : Volume → Bool
directory_rules v = some_chain v.sectors v.directory_sectors v.directory_start && count_right v
