use Rattle.repair_writes.proofs.free_cell.Goals as goal

pub returns : goal.returns
returns c = rw (c.put_u32.ensures, c.listed_place-p.ensures)
