use Prim.Native.Nat.{◌≤◌}
use native.Mathlib.Nat.{mul-le-mul_right}
use native.Mathlib.Omega.{arith}
use Rattle.format.specs.Layout.Header.{fat_count, difat_count}
use Rattle.format.specs.Layout.Tables.{fat_cells}
use Rattle.format.specs.Rules.Tables.{table_counts}
use Rattle.tables.proofs.Places.{cells_few}
use Rattle.tables.proofs.sectors.table_counts.Goals as goal

pub overflow_mul-result : goal.overflow_mul-result
unfolding table_counts fat_count difat_count fat_cells
overflow_mul-result c =
    let f = c.fat_count-f.result in
    let few : c.cells.result ≤ 1024 = rw c.cells.ensures (cells_few c.requires) in
    omega (arith, mul-le-mul_right f few, c.fat_count-f.type_inv)

pub returns : goal.returns
unfolding table_counts fat_count difat_count fat_cells
returns c = rw (c.difat_need.ensures, c.cells.ensures, c.sector_count-n.ensures, c.difat_count-d.ensures, c.fat_count-f.ensures)
