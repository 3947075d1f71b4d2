use borrow.Author.Rules.{rules}
use mathlib.Core.Path.{◌∙◌, ap}
use Rattle.spaces.specs.Units.{unit_of}
use Rattle.writes.proofs.Writing.{start_unit, start_end}
use Rattle.writes.proofs.chain_start.Goals as goal

pub returns-then-j-n : goal.returns-then-j-n
returns-then-j-n c = c.of.ensures ∙ ap (unit_of c.args.kind) (start_unit c.args.work.now c.args.n c.args.j c.requires c.if-j-n.true)

pub returns-else-j-n : goal.returns-else-j-n
returns-else-j-n c = c.end.ensures ∙ ap (unit_of c.args.kind) (start_end c.args.work.now c.args.n c.args.j c.requires c.if-j-n.false)
