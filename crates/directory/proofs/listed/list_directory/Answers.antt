use mathlib.Core.Path.{refl}
use Rattle.directory.proofs.Sectors.{listing_chain, listing_left}
use Rattle.directory.proofs.listed.list_directory.Goals as goal

pub list_chain-requires : goal.list_chain-requires
list_chain-requires c = let e = c.directory_start.ensures in record { fat_listed = c.requires.fat_listed; start_value = listing_chain c.args.t _ _ c.requires.fat_listed c.requires.n_value e c.requires.img_value; n_bound = c.requires.n_bound }

pub returns : goal.returns
returns c = let e = c.directory_start.ensures in record { answer = refl; listed = listing_left c.args.t _ _ c.requires.fat_listed c.requires.n_value e c.requires.img_value c.list_chain.ensures.holds; wrote = c.list_chain.ensures.wrote }
