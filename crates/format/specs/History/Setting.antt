-- What the first image, or a fresh one, fixes for the calls that follow, and how many units are free by the rows alone.
use Rattle.std.specs.Prelude.{ℕ, ◌+◌, ◌-◌, List, length}
use Rattle.format.specs.Basics.Bytes.{Bytes}
use Rattle.format.specs.Layout.Geometry.{Geometry}
use Rattle.format.specs.Layout.Need.{mini_need, sector_need}
use Rattle.format.specs.Layout.Volume.{volume, fixed_number}
use Rattle.format.specs.Rules.Length.{work_need}
use Rattle.format.specs.History.Rows.{Row, total}

pub record Setting : Type 0 where
  pub geometry : Geometry
  -- the length of the image
  pub bytes : ℕ
  -- N and K
  pub sectors : ℕ
  pub minis : ℕ
  -- the system's fixed number of sectors, and W
  pub fixed : ℕ
  pub work : ℕ

unfoldable pub setting_of : Geometry → Bytes → Setting
setting_of g img =
    record {
      geometry = g;
      bytes = length img;
      sectors = (volume g img).sectors.limit;
      minis = (volume g img).minis.limit;
      fixed = fixed_number (volume g img);
      work = work_need (length img);
    }

unfoldable pub free_sectors : Setting → List Row → ℕ
free_sectors s rows = s.sectors - (s.fixed + total (sector_need s.geometry) rows)

unfoldable pub free_minis : Setting → List Row → ℕ
free_minis s rows = s.minis - total mini_need rows
