use Prim.Native.Nat.{◌*◌}
use mathlib.Core.Path.{◌≡◌, ◌∙◌, ap₂}
use native.Mathlib.Omega.{arith}
use Rattle.format.specs.Layout.Geometry.{cells_in}
use Rattle.kinds.specs.Sizes.{geometry_of}
use Rattle.header.specs.Sized.{F}
use Rattle.tables.specs.Views.{sectors_of}
use Rattle.tables.proofs.Blocks.{fat_cell_lem}
use Rattle.chains.proofs.Cells.{rest_free_lem}
use Rattle.chains.proofs.Groups.{limit_is, cells_are, cell_is, cells_short}
use Rattle.chains.proofs.cells_rest.Goals as goal
use Rattle.chains.proofs.cells_rest.Goals.{After-cells}

-- how many cells there are, as the code works it out
end_is : (c : After-cells) → c.cells.result * c.fat_count-f.result ≡ cells_in (geometry_of c.args.t.geometry) * F c.args.img.now
end_is c = ap₂ (λ a b. a * b) c.cells.ensures c.fat_count-f.ensures

pub overflow_mul-cells : goal.overflow_mul-cells
overflow_mul-cells c = omega (arith, end_is (goal.at.overflow_mul-cells c).After-cells, cells_short c.requires, c.requires.sized.short)

pub returns : goal.returns
returns c =
    c.table_free.ensures
    ∙ rest_free_lem (sectors_of c.args.t c.args.img.now) _ (c.requires.count ∙ limit_is _ _) (end_is (goal.at.returns c).After-cells ∙ cells_are _ _)
    (λ s h. fat_cell_lem c.requires s (omega (arith, end_is (goal.at.returns c).After-cells)) ∙ cell_is _ _ s)
