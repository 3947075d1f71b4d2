-- A plan of the code, with the first sector of each part worked out.
use Rattle.std.specs.Prelude.{◌≤◌, ◌≡◌}
use Rattle.format.specs.Layout.Geometry.{Geometry}
use Rattle.format.specs.Fresh.Plan.{Plan, difat_from, directory_from, mini_fat_from, mini_stream_from, spare_from}
use Rattle.fresh.specs.Facts.{Headed, Planned}
use Rattle.kinds.specs.Sizes.{geometry_of}
use Rattle.fresh_sectors.specs.declared.Plan.{Plan as Numbers}
use Rattle.fresh_sectors.specs.declared.Parts.{Parts}

-- the plan that a value of the code stands for
abbrev pub plan_of : Numbers → Plan
plan_of p = record { version = p.version; sectors = p.sectors; directory = p.directory; mini_fat = p.minifat; minis = p.minis }

abbrev pub sizes : Parts → Geometry
sizes l = geometry_of l.geometry

abbrev pub plan : Parts → Plan
plan l = plan_of l.plan

-- each part begins where the plan has it
pub record Placed (l : Parts) : Type 0 where
  pub difat : l.difat.0 ≡ difat_from (sizes l) (plan l)
  pub directory : l.directory.0 ≡ directory_from (sizes l) (plan l)
  pub mini_fat : l.minifat.0 ≡ mini_fat_from (sizes l) (plan l)
  pub mini_stream : l.stream.0 ≡ mini_stream_from (sizes l) (plan l)
  pub spare : l.spare.0 ≡ spare_from (sizes l) (plan l)

-- and the plan can be carried out
pub record Stands (l : Parts) : Type 0 where
  pub headed : Headed (sizes l)
  pub narrow : l.geometry.bytes ≤ 4096
  pub planned : Planned (sizes l) (plan l)
  pub placed : Placed l
