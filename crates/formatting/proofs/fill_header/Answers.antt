use borrow.Author.Rules.{rules}
use Rattle.formatting.proofs.Headers.{header_is}
use Rattle.fresh_sectors.specs.Parts.{sizes, plan}
use Rattle.formatting.proofs.fill_header.Goals as goal

pub returns : goal.returns
returns c = let w = c.requires.stands.headed.sized.wide in header_is (sizes c.args.l) (plan c.args.l) c.args.part.now _ _ _ c.requires.part_len w c.put_marks.ensures c.put_numbers.ensures (c.fill.ensures.after (search rules))
