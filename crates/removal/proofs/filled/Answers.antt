use Rattle.removal.specs.Leads.{holds_some}
use Rattle.removal.proofs.filled.Goals as goal

pub returns : goal.returns
unfolding holds_some
returns c = rw (c.is_none.ensures, c.child_of.ensures, c.is_storage.ensures, c.type_of.ensures)
