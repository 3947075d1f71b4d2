use borrow.Author.Rules.{rules}
use Rattle.format.specs.Calls.SetLength.{put_cell}
use Rattle.writes.proofs.put_cell.Goals as goal

pub returns : goal.returns
unfolding put_cell
returns c = rw (c.put_u32.ensures, c.number.ensures, c.cell_place-p.ensures)
