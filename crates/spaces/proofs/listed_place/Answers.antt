use borrow.Author.Rules.{rules}
use Prim.Native.Nat.{◌+◌, ◌/◌, ◌<◌}
use native.Mathlib.Omega.{arith}
use lib.ListN.{get_or}
use Rattle.kinds.specs.Sizes.{geometry_of}
use Rattle.spaces.specs.Spaces.{listed_place}
use Rattle.spaces.proofs.Places.{sector_fits}
use Rattle.spaces.proofs.listed_place.Goals as goal

pub overflow_add-result : goal.overflow_add-result
unfolding listed_place
overflow_add-result c =
    let a = c.args in
    let k = a.list + a.i / a.g.bytes in
    let h : get_or a.work.now k 0 < 0x1_0000_0000 = omega (arith, c.type_inv.work k) in
    rw c.place.ensures (sector_fits (geometry_of a.g) (get_or a.work.now k 0) a.i h c.requires.le_bytes c.requires.bytes_bound)

pub returns : goal.returns
unfolding listed_place
returns c = rw c.place.ensures
