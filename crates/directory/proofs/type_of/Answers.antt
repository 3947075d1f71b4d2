use native.Mathlib.Omega.{arith}
use Rattle.directory.proofs.Places.{placed, place_inside, entry_is}
use Rattle.directory.proofs.type_of.Goals as goal

pub place-requires : goal.place-requires
place-requires c = placed c.requires.directory_listed _ c.requires.x_bound

pub entry_type-requires : goal.entry_type-requires
entry_type-requires c = omega (arith, c.place.ensures, place_inside c.requires.directory_listed _ c.requires.x_bound)

pub returns : goal.returns
returns c = rw (c.entry_type.ensures, c.place.ensures, entry_is c.requires.directory_listed _ c.requires.x_bound)
