use borrow.Author.Rules.{rules}
use Rattle.format.specs.Layout.Header.{mini_fat_count}
use Rattle.header.proofs.mini_fat_count.Goals as goal

pub returns : goal.returns
unfolding mini_fat_count
returns c = search rules
