use Rattle.std.proofs.Common.{arith, ◌+◌, ◌*◌, ◌≤◌}
use Rattle.fresh_sectors.proofs.Standing.{cell_few}
use Rattle.fresh_sectors.proofs.table_number.Goals as goal
use Rattle.fresh_sectors.proofs.table_number.Goals.{After-index}

few : (c : After-index) → c.cells.result * c.index.result + c.args.i ≤ 0x800_0400
few c = cell_few c.args.l c.requires.stands c.cells.result c.index.result c.args.i c.cells.ensures (omega arith) c.requires.i_bound

pub overflow_mul-k : goal.overflow_mul-k
overflow_mul-k c = omega (arith, few c)

pub overflow_add-k : goal.overflow_add-k
overflow_add-k c = omega (arith, few (goal.at.overflow_add-k c).After-index)

pub at-requires : goal.at-requires
at-requires c = omega (arith, few (goal.at.at-requires c).After-index)

pub fresh_cell-requires-clause-s_bound : goal.fresh_cell-requires-clause-s_bound
fresh_cell-requires-clause-s_bound c = omega (arith, few (goal.at.fresh_cell-requires-clause-s_bound c).After-index)
