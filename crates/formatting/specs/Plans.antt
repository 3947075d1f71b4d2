-- A plan by its numbers, and how its parts are worked out.
use Rattle.std.specs.Prelude.{ℕ, ◌*◌, ◌≤◌, ◌<◌, ◌≡◌, Bool, ◌&&◌, leb}
use Rattle.format.specs.Layout.Geometry.{Geometry, cells_in}
use Rattle.format.specs.Fresh.Plan.{Plan, known_version}
use Rattle.frame.specs.Kept.{Sized}
use Rattle.kinds.specs.declared.Geometry.{Geometry as Sizes}
use Rattle.fresh_sectors.specs.declared.Plan.{Plan as Numbers}
use Rattle.fresh_sectors.specs.declared.Parts.{Parts}
use Rattle.fresh_sectors.specs.Parts.{Placed}

-- a plan by its five numbers
abbrev pub plan_for : (version sectors directory mini_fat minis : ℕ) → Plan
plan_for version sectors directory mini_fat minis =
    record { version = version; sectors = sectors; directory = directory; mini_fat = mini_fat; minis = minis }

-- what is asked before the parts are worked out: a known version, a directory, no part of more sectors than there are, and a cell for each mini sector
unfoldable pub plan_sound : Geometry → Plan → Bool
plan_sound g p =
    known_version p
    && leb 1 p.directory
    && leb p.directory p.sectors
    && leb p.mini_fat p.sectors
    && leb p.minis (cells_in g * p.mini_fat)

-- so that no sum of them passes 2 ^ 32
pub record Small (g : Geometry) (p : Plan) : Type 0 where
  pub sized : Sized g
  pub narrow : g.sector_bytes ≤ 4096
  pub sectors : p.sectors < 0x2_0000
  pub directory : p.directory ≤ p.sectors
  pub mini_fat : p.mini_fat ≤ p.sectors
  pub minis : p.minis ≤ cells_in g * p.mini_fat

-- the parts of a plan
pub record PartsOf (g : Sizes) (p : Numbers) (l : Parts) : Type 0 where
  pub geometry : l.geometry ≡ g
  pub plan : l.plan ≡ p
  pub placed : Placed l
