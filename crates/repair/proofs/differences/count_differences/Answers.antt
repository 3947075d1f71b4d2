use Prim.Native.Nat.{◌*◌}
use mathlib.Core.Path.{◌≡◌, refl}
use native.Mathlib.Omega.{arith}
use Rattle.format.specs.Layout.Geometry.{cells_in}
use Rattle.kinds.specs.Sizes.{geometry_of}
use Rattle.header.specs.Sized.{F}
use Rattle.repair.proofs.Differing.{fat_cells_lem, mini_cells_lem, fat_short, mini_short, differ_few, differ_all}
use Rattle.repair.proofs.differences.count_differences.Goals as goal
use Rattle.repair.proofs.differences.count_differences.Goals.{After-fat_count, After-struct_known-1}

minis : (c : After-struct_known-1) → let p = c.args in
    c.cells-cells.result * p.v.minis.sectors ≡ cells_in (geometry_of p.v.tables.geometry) * p.v.minis.sectors
minis c = rw c.cells-cells.ensures

-- how many cells the two tables have, as the code works it out
fats : (c : After-fat_count) → let p = c.args in
    c.cells-cells.result * c.fat_count.result ≡ cells_in (geometry_of p.v.tables.geometry) * F p.after.now
fats c = rw (c.cells-cells.ensures, c.fat_count.ensures)

pub overflow_mul-fat : goal.overflow_mul-fat
overflow_mul-fat c = omega (arith, fats (goal.at.overflow_mul-fat c).After-fat_count, fat_short c.requires.readied)

pub cells_differ-sectors-requires : goal.cells_differ-sectors-requires
cells_differ-sectors-requires c = record { table_room = λ u h. fat_cells_lem c.requires.readied u (omega (arith, h, fats (goal.at.cells_differ-sectors-requires c).After-fat_count)); img_len = c.requires.img_len }

pub overflow_mul-cells : goal.overflow_mul-cells
overflow_mul-cells c = omega (arith, minis (goal.at.overflow_mul-cells c).After-struct_known-1, mini_short c.requires.readied)

pub cells_differ-minis-requires : goal.cells_differ-minis-requires
cells_differ-minis-requires c = record { table_room = λ u h. mini_cells_lem c.requires.readied u (omega (arith, h, minis (goal.at.cells_differ-minis-requires c).After-struct_known-1)); img_len = c.requires.img_len }

pub overflow_add-result : goal.overflow_add-result
overflow_add-result c = omega (arith, differ_few c.requires.readied c.args.img.now (fats (goal.at.overflow_add-result c).After-fat_count) (minis (goal.at.overflow_add-result c).After-struct_known-1) c.cells_differ-sectors.ensures c.cells_differ-minis.ensures refl)

pub overflow_add-result-2 : goal.overflow_add-result-2
overflow_add-result-2 c = omega (arith, differ_few c.requires.readied c.args.img.now (fats (goal.at.overflow_add-result-2 c).After-fat_count) (minis (goal.at.overflow_add-result-2 c).After-struct_known-1) c.cells_differ-sectors.ensures c.cells_differ-minis.ensures c.colours_differ.ensures)

pub returns : goal.returns
returns c = differ_all c.requires.readied c.args.img.now (fats (goal.at.returns c).After-fat_count) (minis (goal.at.returns c).After-struct_known-1) c.cells_differ-sectors.ensures c.cells_differ-minis.ensures c.colours_differ.ensures
