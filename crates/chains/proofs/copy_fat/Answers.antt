use mathlib.Core.Path.{◌∙◌}
use native.Mathlib.Omega.{arith}
use Rattle.tables.specs.Views.{sectors_of}
use Rattle.tables.proofs.Blocks.{cell_small, fat_cell_lem, fat_held}
use Rattle.chains.proofs.Cells.{fat_right}
use Rattle.chains.proofs.Groups.{limit_is, cell_is}
use Rattle.chains.proofs.copy_fat.Goals as goal

pub returns-clause-answer : goal.returns-clause-answer
returns-clause-answer c =
    let l = c.requires in
    c.copy_table.ensures.answer
    ∙ fat_right (sectors_of c.args.t c.args.img.now) _ (l.count ∙ limit_is _ _) (λ s. cell_small _ _ _ _ s (λ i. (c.type_inv.img i).fits))
    (λ s h. fat_cell_lem l s (omega (arith, l.count, l.covers)) ∙ cell_is _ _ s)
    ∙ rw l.count

pub returns-clause-holds : goal.returns-clause-holds
returns-clause-holds c = let l = c.requires in fat_held l (omega (arith, l.covers)) (rw l.count at c.copy_table.ensures.holds)
