use native.Mathlib.Omega.{arith}
use Rattle.kinds.specs.Sizes.{geometry_of}
use Rattle.repair_writes.specs.Cells.{table_in}
use Rattle.repair_writes.proofs.Releasing.{rest_start, rest_step, rest_end}
use Rattle.repair_writes.proofs.free_rest.Goals as goal

pub loop-u-init : goal.loop-u-init
loop-u-init c = rest_start (table_in (geometry_of c.args.g) c.args.work.now c.args.list c.args.from c.args.to) c.args.img.now c.requires.from_le_to

pub free_cell-requires : goal.free_cell-requires
free_cell-requires c = rw c.loop-u.invariant.long (c.requires.table_room c.loop-u.u (omega arith))

pub loop-u-preserved : goal.loop-u-preserved
loop-u-preserved c = rest_step _ _ c.loop-u.invariant (omega arith) c.free_cell.new.img c.free_cell.ensures

pub returns : goal.returns
returns c = rest_end _ _ c.loop-u.invariant (omega arith)
