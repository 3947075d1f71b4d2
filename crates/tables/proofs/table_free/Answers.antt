use Prim.Native.Nat.{◌+◌, ◌<◌}
use native.Mathlib.Omega.{arith}
use Rattle.kinds.specs.Sizes.{geometry_of}
use Rattle.cells.proofs.Turns.{passed_none}
use Rattle.tables.specs.Words.{table_cell}
use Rattle.tables.proofs.Blocks.{BlockOf, block_of, slice_count, free_block}
use Rattle.tables.proofs.table_free.Goals as goal
use Rattle.tables.proofs.table_free.Goals.{After-block_at-place, In-loop-i}

-- and its block
block : (c : After-block_at-place) → let a = c.args in
    BlockOf a.img.now (table_cell (geometry_of a.g) a.img.now a.work.now a.list) (a.low + c.loop-i.i) a.end c.block_at-place.result
block c = block_of c.requires.table_listed _ ((let turn' : let a = c.args in a.low + c.loop-i.i < a.end = omega (arith, c.loop-i-test.true) in turn')) c.block_at-place.ensures

-- the first cell of a turn
turn : (c : In-loop-i) → let a = c.args in a.low + c.loop-i.i < a.end
turn c = omega (arith, c.loop-i-test.true)

pub loop-i-init : goal.loop-i-init
loop-i-init c = passed_none

pub overflow_mul-cells : goal.overflow_mul-cells
overflow_mul-cells c = omega (arith, (block (goal.at.overflow_mul-cells c).After-block_at-place).inside, c.requires.table_listed.sized.short)

pub overflow_add-place : goal.overflow_add-place
overflow_add-place c = omega (arith, (block (goal.at.overflow_add-place c).After-block_at-place).inside, c.requires.table_listed.sized.short)

pub slice_bounds-all_free-end : goal.slice_bounds-all_free-end
slice_bounds-all_free-end c = omega (arith, (block (goal.at.slice_bounds-all_free-end c).After-block_at-place).inside)

pub overflow_add-i : goal.overflow_add-i
overflow_add-i c = omega (arith, (block (goal.at.overflow_add-i c).After-block_at-place).to)

pub loop-i-smaller : goal.loop-i-smaller
loop-i-smaller c = omega (arith, (block (goal.at.loop-i-smaller c).After-block_at-place).some, c.loop-i-test.true)

pub loop-i-preserved : goal.loop-i-preserved
loop-i-preserved c = let o = block (goal.at.loop-i-preserved c).After-block_at-place in free_block _ _ c.loop-i.invariant o (rw (slice_count o) at c.all_free-ok.ensures)
