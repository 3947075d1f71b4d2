-- An opened volume between two calls: the image is accepted, and the end of the work buffer holds its lists. The start is scratch.
use Rattle.std.specs.Prelude.{ℕ, ◌≤◌, ◌≡◌, List, length}
use Rattle.format.specs.Basics.Bytes.{Bytes}
use Rattle.format.specs.Rules.Length.{work_need}
use Rattle.format.specs.Rules.Version.{version_of}
use Rattle.kinds.specs.Sizes.{geometry_of}
use Rattle.volume.specs.declared.Volume.{Volume}
use Rattle.queries.specs.Inside.{Open}

pub record OpenVolume (v : Volume) (img : Bytes) (work : List ℕ) : Type 0 where
  pub opened : Open v img work
  pub version : geometry_of v.tables.geometry ≡ version_of img
  pub room : work_need (length img) ≤ length work
