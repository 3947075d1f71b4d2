use borrow.Author.Rules.{rules}
use Rattle.theory.specs.Marks.{is_mark}
use Rattle.chains.proofs.is_mark.Goals as goal

pub returns : goal.returns
unfolding is_mark
returns c = search rules
