use borrow.Author.Tests.{lt-ltb, le-ltb}
use Rattle.format.specs.Layout.Need.{cutoff}
use Rattle.spaces.specs.Spaces.{kind_for}
use Rattle.spaces.proofs.kind_for.Goals as goal

pub returns-then-n-lt-CUTOFF : goal.returns-then-n-lt-CUTOFF
unfolding kind_for cutoff
returns-then-n-lt-CUTOFF c = rw (lt-ltb c.args.n 4096 c.if-n-lt-CUTOFF.true)

pub returns-else-n-lt-CUTOFF : goal.returns-else-n-lt-CUTOFF
unfolding kind_for cutoff
returns-else-n-lt-CUTOFF c = rw (le-ltb c.args.n 4096 c.if-n-lt-CUTOFF.false)
