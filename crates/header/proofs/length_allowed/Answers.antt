use borrow.Author.Rules.{rules}
use Rattle.format.specs.Rules.Length.{length_allowed, least_image, greatest_image}
use Rattle.header.proofs.length_allowed.Goals as goal

pub returns : goal.returns
unfolding length_allowed least_image greatest_image
returns c = search rules
