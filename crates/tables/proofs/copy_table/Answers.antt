use Prim.Native.Nat.{◌+◌, ◌*◌, ◌≤◌, ◌<◌}
use native.Mathlib.Omega.{arith}
use lib.ListN.{length}
use Rattle.kinds.specs.Sizes.{geometry_of}
use Rattle.cells.proofs.Turns.{passed_none}
use Rattle.tables.specs.Words.{table_cell}
use Rattle.tables.proofs.Blocks.{BlockOf, block_of, cut_length, right_block}
use Rattle.tables.proofs.Copies.{table_kept, block_kept_lem, copy_none, copy_block}
use Rattle.tables.proofs.copy_table.Goals as goal
use Rattle.tables.proofs.copy_table.Goals.{After-block_at-place}

-- the block of a turn
block : (c : After-block_at-place) → let a = c.args in
    BlockOf a.img.now (table_cell (geometry_of a.g) a.img.now a.work.now a.list) c.loop-i.i a.limit c.block_at-place.result
block c =
    let r = c.loop-i.invariant.1.wrote in
    block_kept_lem r c.requires.limit_bound.0 _ (block_of (table_kept r c.requires.limit_bound.0 c.requires.table_listed) _ c.loop-i-test.true c.block_at-place.ensures)

few : (c : After-block_at-place) → c.block_at-place.result.place + 4 * c.block_at-place.result.cells < 0x1_0000_0000
few c = omega (arith, (block c).inside, c.requires.table_listed.sized.short)

-- and the place for its cells
room : (c : After-block_at-place) → c.args.at + c.loop-i.i + c.block_at-place.result.cells ≤ length c.loop-i.work
room c = omega (arith, (block c).to, c.loop-i.invariant.1.wrote.long, c.requires.limit_bound)

pub loop-i-init : goal.loop-i-init
loop-i-init c = (passed_none, copy_none _ _ _ _ (omega (arith, c.requires.limit_bound)))

pub overflow_add-to-in-loop-i : goal.overflow_add-to-in-loop-i
overflow_add-to-in-loop-i c = omega (arith, room (goal.at.overflow_add-to-in-loop-i c).After-block_at-place)

pub slice_bounds-copy_cells-end : goal.slice_bounds-copy_cells-end
slice_bounds-copy_cells-end c = omega (arith, room (goal.at.slice_bounds-copy_cells-end c).After-block_at-place)

pub overflow_add-place : goal.overflow_add-place
overflow_add-place c = omega (arith, few (goal.at.overflow_add-place c).After-block_at-place)

pub slice_bounds-copy_cells-end-in-loop-i : goal.slice_bounds-copy_cells-end-in-loop-i
slice_bounds-copy_cells-end-in-loop-i c = omega (arith, (block (goal.at.slice_bounds-copy_cells-end-in-loop-i c).After-block_at-place).inside)

pub loop-i-smaller : goal.loop-i-smaller
loop-i-smaller c = omega (arith, (block (goal.at.loop-i-smaller c).After-block_at-place).some, c.loop-i-test.true)

pub loop-i-preserved : goal.loop-i-preserved
loop-i-preserved c =
    let answer = rw (cut_length c.loop-i.work (c.args.at + c.loop-i.i) c.block_at-place.result.cells (room (goal.at.loop-i-preserved c).After-block_at-place)) at c.copy_cells-ok.ensures.answer in
    let copied = rw (cut_length c.loop-i.work (c.args.at + c.loop-i.i) c.block_at-place.result.cells (room (goal.at.loop-i-preserved c).After-block_at-place)) at c.copy_cells-ok.ensures.copied in
    (right_block _ _ c.loop-i.invariant.0 (block (goal.at.loop-i-preserved c).After-block_at-place) answer, copy_block _ c.loop-i.invariant.1 (omega (arith, c.requires.limit_bound)) (block (goal.at.loop-i-preserved c).After-block_at-place) copied)
