use Rattle.std.proofs.Common.{rules, ◌∙◌}
use Rattle.entry_writes.proofs.Blocks.{blank_lent}
use Rattle.entry_writes.proofs.put_blank_entry.Goals as goal

pub returns : goal.returns
returns c = c.put_no_links.ensures ∙ blank_lent c.args.img.now c.args.p _ c.requires (c.fill.ensures.after (search rules))
