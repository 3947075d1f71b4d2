use borrow.Author.Rules.{rules}
use Rattle.spaces.proofs.unit_place.Goals as goal

pub listed_place-requires : goal.listed_place-requires
listed_place-requires c = let p = c.requires in record { le_bytes = p.wide; bytes_bound = p.narrow; bytes_in_bounds = rw c.place-in-Mini.ensures (rw c.in-Mini.is at p.here) }

pub returns-in-Sector : goal.returns-in-Sector
returns-in-Sector c = rw c.in-Sector.is c.place.ensures

pub returns-in-Mini : goal.returns-in-Mini
returns-in-Mini c = rw c.in-Mini.is (rw c.place-in-Mini.ensures at c.listed_place.ensures)
