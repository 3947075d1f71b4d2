-- What a fresh image is asked for, and where its parts stand.
use Rattle.std.specs.Prelude.{ℕ, zero, suc, ◌+◌, ◌*◌, Bool, cond, ◌&&◌, ◌||◌, eqb, leb}
use Rattle.format.specs.Layout.Geometry.{Geometry, version3, version4, mini_bytes, cells_in}
use Rattle.format.specs.Layout.Need.{round_up}
use Rattle.format.specs.Layout.Chain.{END}
use Rattle.format.specs.Rules.Tables.{difat_need}

pub record Plan : Type 0 where
  pub version : ℕ
  -- N
  pub sectors : ℕ
  -- how many sectors the directory has, and how many the mini FAT has
  pub directory : ℕ
  pub mini_fat : ℕ
  -- K
  pub minis : ℕ

-- the sizes by which it goes: an unknown version counts as 3
unfoldable pub planned : Plan → Geometry
planned p = cond (eqb p.version 4) version4 version3

-- N sectors, and the header in the place of one
abbrev pub plan_bytes : Geometry → Plan → ℕ
plan_bytes g p = suc p.sectors * g.sector_bytes

-- ---- how many sectors each other part has

-- F, the fewest FAT sectors that have a cell for each sector
unfoldable pub fat_part : Geometry → Plan → ℕ
fat_part g p = round_up p.sectors (cells_in g)

-- D
unfoldable pub difat_part : Geometry → Plan → ℕ
difat_part g p = difat_need g (fat_part g p)

-- the length of the mini stream, and the sectors that hold it
unfoldable pub mini_stream_bytes : Plan → ℕ
mini_stream_bytes p = mini_bytes * p.minis

unfoldable pub mini_stream_part : Geometry → Plan → ℕ
mini_stream_part g p = round_up (mini_stream_bytes p) g.sector_bytes

-- ---- the first sector of each part: FAT (from 0 on), DIFAT, directory, mini FAT, mini stream, and the free sectors

unfoldable pub difat_from : Geometry → Plan → ℕ
difat_from g p = fat_part g p

unfoldable pub directory_from : Geometry → Plan → ℕ
directory_from g p = difat_from g p + difat_part g p

unfoldable pub mini_fat_from : Geometry → Plan → ℕ
mini_fat_from g p = directory_from g p + p.directory

unfoldable pub mini_stream_from : Geometry → Plan → ℕ
mini_stream_from g p = mini_fat_from g p + p.mini_fat

unfoldable pub spare_from : Geometry → Plan → ℕ
spare_from g p = mini_stream_from g p + mini_stream_part g p

-- the start of a part of n sectors that stands from sector s on; a part of none has the start of an empty chain
unfoldable pub start_from : ℕ → ℕ → ℕ
start_from s zero = END
start_from s (suc n) = s

-- ---- what can be carried out

unfoldable pub known_version : Plan → Bool
known_version p = eqb p.version 3 || eqb p.version 4

-- the directory has a sector, each mini sector has a cell, and the parts fit in
unfoldable pub parts_fit : Geometry → Plan → Bool
parts_fit g p =
    leb 1 p.directory
    && leb p.minis (cells_in g * p.mini_fat)
    && leb (spare_from g p) p.sectors
