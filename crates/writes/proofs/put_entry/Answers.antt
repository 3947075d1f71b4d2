use borrow.Author.Rules.{rules}
use Rattle.writes.specs.Puts.{entry_put}
use Rattle.writes.proofs.put_entry.Goals as goal

pub returns : goal.returns
unfolding entry_put
returns c = rw (c.put_u64.ensures, c.put_u32.ensures, c.number.ensures, c.place-p.ensures)
