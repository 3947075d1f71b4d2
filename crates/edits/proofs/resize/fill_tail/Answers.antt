use borrow.Author.Rules.{rules}
use borrow.Author.Tests.{lt-ltb, le-ltb}
use Rattle.edits.specs.Rewritten.{tail_filled}
use Rattle.edits.proofs.resize.fill_tail.Goals as goal

pub zero_from-requires : goal.zero_from-requires
unfolding tail_filled
zero_from-requires c = record { writable = c.requires.writable; from_bound = c.requires.size_bound c.if-size-new.true }

pub returns-then-size-new : goal.returns-then-size-new
unfolding tail_filled
returns-then-size-new c = let a = c.args in rw (lt-ltb a.size a.new c.if-size-new.true) c.zero_from.ensures

pub returns-else-size-new : goal.returns-else-size-new
unfolding tail_filled
returns-else-size-new c = let a = c.args in rw (le-ltb a.size a.new c.if-size-new.false)
