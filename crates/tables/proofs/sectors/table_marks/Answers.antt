use Prim.Native.Nat.{◌+◌, ◌≤◌}
use mathlib.Core.Path.{sym, ◌∙◌}
use native.Mathlib.Omega.{arith}
use lib.ListN.{length}
use Rattle.kinds.specs.Sizes.{geometry_of}
use Rattle.cells.proofs.Turns.{passed_none, passed_all}
use Rattle.tables.specs.Words.{table_cell}
use Rattle.tables.specs.Listed.{TableListed}
use Rattle.tables.proofs.Blocks.{BlockOf, block_of, fat_listed, fat_cell_lem}
use Rattle.tables.proofs.MarkLaws.{marks_are, agree_block}
use Rattle.tables.proofs.sectors.table_marks.Goals as goal
use Rattle.tables.proofs.sectors.table_marks.Goals.{After-block_at-place}

-- the block of a turn
block : (c : After-block_at-place) → let a = c.args in
    BlockOf a.img.now (table_cell (geometry_of a.t.geometry) a.img.now a.work.now a.t.list) c.loop-i.i a.t.sectors c.block_at-place.result
block c = block_of ((let listed' : TableListed (geometry_of c.args.t.geometry) c.args.img.now c.args.work.now c.args.t.list c.args.t.sectors = fat_listed c.requires.fat_listed _ (omega (arith, c.requires.fat_listed.count, c.requires.fat_listed.covers)) in listed')) _ c.loop-i-test.true c.block_at-place.ensures

-- the marks of its sectors stand in the work buffer
marks_in : (c : After-block_at-place) → let a = c.args in c.loop-i.i + c.block_at-place.result.cells ≤ length a.work.now
marks_in c = let l = c.requires.fat_listed in omega (arith, (block c).to, l.count, l.apart, l.room)

pub loop-i-init : goal.loop-i-init
loop-i-init c = passed_none

pub overflow_mul-cells : goal.overflow_mul-cells
overflow_mul-cells c = omega (arith, (block (goal.at.overflow_mul-cells c).After-block_at-place).inside, c.requires.fat_listed.sized.short)

pub overflow_add-place : goal.overflow_add-place
overflow_add-place c = omega (arith, (block (goal.at.overflow_add-place c).After-block_at-place).inside, c.requires.fat_listed.sized.short)

pub slice_bounds-marks_agree-end : goal.slice_bounds-marks_agree-end
slice_bounds-marks_agree-end c = omega (arith, (block (goal.at.slice_bounds-marks_agree-end c).After-block_at-place).inside)

pub slice_bounds-marks_agree-end-in-loop-i : goal.slice_bounds-marks_agree-end-in-loop-i
slice_bounds-marks_agree-end-in-loop-i c = marks_in (goal.at.slice_bounds-marks_agree-end-in-loop-i c).After-block_at-place

pub loop-i-smaller : goal.loop-i-smaller
loop-i-smaller c = omega (arith, (block (goal.at.loop-i-smaller c).After-block_at-place).some, c.loop-i-test.true)

pub loop-i-preserved : goal.loop-i-preserved
loop-i-preserved c =
    let l = c.requires.fat_listed in
    agree_block _ c.requires.table_marked l.count (omega (arith, l.count, l.apart, l.room)) (λ s h. fat_cell_lem l s (omega (arith, l.count, l.covers)))
    c.loop-i.invariant (block (goal.at.loop-i-preserved c).After-block_at-place) c.marks_agree-ok.ensures

pub returns : goal.returns
returns c = passed_all c.loop-i.invariant c.loop-i-test.false ∙ rw c.requires.fat_listed.count (sym (marks_are _ _))
