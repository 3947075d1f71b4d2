use native.Mathlib.Omega.{arith}
use Rattle.directory.proofs.Places.{placed, place_inside, entry_is}
use Rattle.directory.proofs.colour_of.Goals as goal

pub place-requires : goal.place-requires
place-requires c = placed c.requires.directory_listed _ c.requires.x_bound

pub colour-requires : goal.colour-requires
colour-requires c = omega (arith, c.place.ensures, place_inside c.requires.directory_listed _ c.requires.x_bound)

pub returns : goal.returns
returns c = rw (c.colour.ensures, c.place.ensures, entry_is c.requires.directory_listed _ c.requires.x_bound)
