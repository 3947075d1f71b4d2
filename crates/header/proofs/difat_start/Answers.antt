use borrow.Author.Rules.{rules}
use Rattle.format.specs.Layout.Header.{difat_start}
use Rattle.header.proofs.difat_start.Goals as goal

pub returns : goal.returns
unfolding difat_start
returns c = search rules
