-- The number of units of either kind where a volume is ready: a list of them all has room at the start of the work buffer.
use Prim.Native.Nat.{ℕ, ◌+◌, ◌*◌, ◌/◌, ◌≤◌}
use mathlib.Core.List.{List}
use native.Mathlib.Omega.{arith}
use lib.ListN.{length}
use Rattle.format.specs.Basics.Bytes.{Bytes}
use Rattle.format.specs.Layout.Chain.{END}
use Rattle.format.specs.Layout.Tables.{sector_space}
use Rattle.format.specs.Layout.Volume.{volume}
use Rattle.volume.specs.Opened.{Readied}
use Rattle.volume.specs.declared.Volume.{Volume}
use Rattle.spaces.specs.Spaces.{space_at}
use Rattle.spaces.specs.declared.Kind.{Kind}
use Rattle.spaces.specs.declared.Kind.TheVariants.{Sectors, Minis}
use Rattle.spaces.proofs.Listed.{count_same}

module _ {v : Volume} {img : Bytes} {work : List ℕ} (r : Readied v img work) where
  limit_bound : (kind : Kind) → (space_at v img kind).limit ≤ 8 * (length img / 512)
  unfolding volume sector_space
  limit_bound Sectors = omega (arith, r.lists.mini.fat.sized.many)
  limit_bound Minis = omega (arith, count_same r Minis, r.lists.minis.counts.few)

  -- the units of both kinds together
  pub limits_room : (space_at v img Sectors).limit + (space_at v img Minis).limit ≤ v.stream
  unfolding volume sector_space
  limits_room = omega (arith, r.lists.mini.fat.sized.many, count_same r Minis, r.lists.minis.counts.few, r.room)

  pub limit_room : (kind : Kind) → (space_at v img kind).limit ≤ v.stream
  limit_room kind = omega (arith, limit_bound kind, r.room)

  pub limit_work : (kind : Kind) → (space_at v img kind).limit ≤ length work
  limit_work kind = omega (arith, limit_room kind, r.stream.room)

  -- every unit's number is below the special values
  pub limit_end : (kind : Kind) → (space_at v img kind).limit ≤ END
  limit_end kind = omega (arith, limit_bound kind, r.lists.mini.fat.sized.short)
