use Rattle.entry_writes.proofs.Blocks.{three_links}
use Rattle.entry_writes.proofs.put_no_links.Goals as goal

pub returns : goal.returns
returns c = rw (c.put_link-3.ensures, c.put_link-2.ensures, c.put_link.ensures) (three_links _ _)
