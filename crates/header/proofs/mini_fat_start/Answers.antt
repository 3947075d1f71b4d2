use borrow.Author.Rules.{rules}
use Rattle.format.specs.Layout.Header.{mini_fat_start}
use Rattle.header.proofs.mini_fat_start.Goals as goal

pub returns : goal.returns
unfolding mini_fat_start
returns c = search rules
