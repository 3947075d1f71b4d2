use borrow.Author.Rules.{rules}
use Rattle.format.specs.Rules.Length.{work_need}
use Rattle.header.proofs.work_need.Goals as goal

pub returns : goal.returns
unfolding work_need
returns c = search rules
