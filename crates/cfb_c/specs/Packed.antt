-- An opened volume as numbers, for C: the version, and what stands where.
use Rattle.std.specs.Prelude.{ℕ, ◌≡◌, cond, List, eqb, get_or}
use Rattle.kinds.specs.declared.Geometry.{Geometry}
use Rattle.volume.specs.declared.Volume.{Volume}

-- the sizes of a version
abbrev pub sizes_for : ℕ → Geometry
sizes_for major = cond (eqb major 4) (record { major = 4; shift = 12; bytes = 4096 }) (record { major = 3; shift = 9; bytes = 512 })

-- a volume whose sizes are those of its version, in each part
pub record Known (v : Volume) : Type 0 where
  pub version : v.tables.geometry ≡ sizes_for v.tables.geometry.major
  pub directory : v.directory.geometry ≡ v.tables.geometry
  pub minis : v.minis.geometry ≡ v.tables.geometry

abbrev pub unpacked : List ℕ → Volume
unpacked s =
    let sizes = sizes_for (get_or s 0 0) in
    record {
      tables = record { geometry = sizes; sectors = get_or s 1 0; list = get_or s 2 0 };
      directory = record { geometry = sizes; sectors = get_or s 3 0; list = get_or s 4 0 };
      minis = record { geometry = sizes; units = get_or s 5 0; sectors = get_or s 6 0; list = get_or s 7 0 };
      stream = get_or s 8 0;
    }
