use Prim.Native.Nat.{◌*◌}
use mathlib.Core.Path.{◌≡◌, ◌∙◌, ap}
use native.Mathlib.Omega.{arith}
use Rattle.format.specs.Layout.Geometry.{cells_in}
use Rattle.kinds.specs.Sizes.{geometry_of}
use Rattle.chains.proofs.Cells.{rest_free_lem}
use Rattle.minis.specs.Listed.{minis_of}
use Rattle.minis.proofs.ListLaws.{cells_short, mini_listed, mini_cell_lem}
use Rattle.minis.proofs.Rules.{cells_are}
use Rattle.minis.proofs.cells_rest.Goals as goal
use Rattle.minis.proofs.cells_rest.Goals.{After-cells}

end_is : (c : After-cells) → c.cells.result * c.args.t.sectors ≡ cells_in (geometry_of c.args.t.geometry) * c.args.t.sectors
end_is c = ap (λ k. k * c.args.t.sectors) c.cells.ensures

pub overflow_mul-cells : goal.overflow_mul-cells
overflow_mul-cells c = omega (arith, end_is (goal.at.overflow_mul-cells c).After-cells, cells_short c.requires, c.requires.sized.short)

pub table_free-requires-clause-table_listed : goal.table_free-requires-clause-table_listed
table_free-requires-clause-table_listed c = mini_listed c.requires _ (omega (arith, end_is (goal.at.table_free-requires-clause-table_listed c).After-cells))

pub returns : goal.returns
returns c =
    let e = end_is (goal.at.returns c).After-cells in
    c.table_free.ensures ∙ rest_free_lem (minis_of c.args.t c.args.img.now) _ c.requires.counts.count (e ∙ cells_are c.requires) (λ s h. mini_cell_lem c.requires s (omega (arith, e)))
