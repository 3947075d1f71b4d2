use Prim.Native.Nat.{◌+◌, ◌/◌, ◌≤◌, ◌<◌}
use native.Mathlib.Nat.{mod-lt, mul-le-mul_left}
use native.Mathlib.Omega.{arith}
use lib.ListN.{get_or}
use Rattle.format.specs.Layout.Geometry.{sector_place, cells_in}
use Rattle.tables.specs.Words.{block_at}
use Rattle.tables.proofs.block_at.Goals as goal
use Rattle.tables.proofs.block_at.Goals.{After-cell_index-i, After-place}

-- no sector starts so far on that a place in it wraps
place_few : (c : After-place) → c.place.result ≤ 0x1000_0000_0000
unfolding sector_place
place_few c =
    let at = c.args.list + c.cell_sector.result in
    omega (arith, c.place.ensures, mul-le-mul_left (get_or c.args.work.now at 0 + 1) c.requires.le_bytes.1, c.type_inv.work at)

-- the first cell is one of its sector's
index : (c : After-cell_index-i) → c.cell_index-i.result < c.args.g.bytes / 4
unfolding cells_in
index c = rw c.cell_index-i.ensures (mod-lt c.args.low (omega (arith, c.requires.le_bytes)))

pub overflow_mul-result : goal.overflow_mul-result
unfolding block_at cells_in
overflow_mul-result c = omega (arith, index (goal.at.overflow_mul-result c).After-cell_index-i, c.requires.le_bytes)

pub overflow_add-result : goal.overflow_add-result
unfolding block_at cells_in
overflow_add-result c = omega (arith, place_few (goal.at.overflow_add-result c).After-place, index (goal.at.overflow_add-result c).After-cell_index-i, c.requires.le_bytes)

pub overflow_sub-cells : goal.overflow_sub-cells
unfolding block_at cells_in
overflow_sub-cells c = omega (arith, index (goal.at.overflow_sub-cells c).After-cell_index-i, c.cells.ensures)

pub returns : goal.returns
unfolding block_at cells_in
returns c = rw (c.least.ensures, c.cells.ensures, c.place.ensures, c.cell_index-i.ensures, c.cell_sector.ensures)
