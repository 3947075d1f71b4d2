use borrow.Author.Rules.{rules}
use Rattle.format.specs.Layout.Header.{directory_start}
use Rattle.header.proofs.directory_start.Goals as goal

pub returns : goal.returns
unfolding directory_start
returns c = search rules
