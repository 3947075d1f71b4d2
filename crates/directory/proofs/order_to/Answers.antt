use Rattle.directory.proofs.Places.{placed, named_at, entry_is}
use Rattle.directory.proofs.order_to.Goals as goal

pub place-requires : goal.place-requires
place-requires c = placed c.requires.directory_listed _ c.requires.named_in.inside

pub compare_name-requires : goal.compare_name-requires
compare_name-requires c = named_at c.requires.directory_listed _ c.requires.named_in.inside c.requires.named_in _ c.place.ensures

pub returns : goal.returns
returns c = rw (c.compare_name.ensures, c.place.ensures, entry_is c.requires.directory_listed _ c.requires.named_in.inside)
