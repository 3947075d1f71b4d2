use borrow.Author.Rules.{rules}
use Rattle.format.specs.Layout.Header.{directory_count}
use Rattle.header.proofs.directory_count.Goals as goal

pub returns : goal.returns
unfolding directory_count
returns c = search rules
