use Prim.Native.Nat.{◌+◌, ◌<◌}
use native.Mathlib.Nat.{mod-lt, mul-le-mul_left}
use native.Mathlib.Omega.{arith}
use lib.ListN.{get_or}
use Rattle.format.specs.Layout.Geometry.{sector_place, entries_in}
use Rattle.kinds.specs.Sizes.{geometry_of}
use Rattle.directory.proofs.Places.{placed_some, placed_few}
use Rattle.directory.proofs.place.Goals as goal

pub overflow_add-result : goal.overflow_add-result
unfolding sector_place
overflow_add-result c =
    let i = c.args.d.list + c.entry_sector.result in
    let some = placed_some c.requires in
    let index : c.entry_index.result < entries_in (geometry_of c.args.d.geometry) = rw c.entry_index.ensures (mod-lt _ (omega (arith, some))) in
    let sector = mul-le-mul_left (get_or c.args.work.now i 0 + 1) c.requires.narrow in
    omega (arith, c.place.ensures, sector, c.type_inv.work i, index, placed_few c.requires)
