use borrow.Author.Rules.{rules}
use Rattle.format.specs.Layout.Geometry.{difat_in, cells_in}
use Rattle.kinds.proofs.Geometry.difat.Goals as goal

pub overflow_sub-result : goal.overflow_sub-result
unfolding difat_in cells_in
overflow_sub-result c = search rules

pub returns : goal.returns
unfolding difat_in cells_in
returns c = search rules
