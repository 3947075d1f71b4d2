use Rattle.minis.proofs.Sectors.{listing_left}
use Rattle.minis.proofs.list_minis.Goals as goal

pub returns-clause-listed : goal.returns-clause-listed
returns-clause-listed c = listing_left c.args.t c.args.at _ _ c.requires.fat_listed c.requires.mini_counts c.mini_fat_count-sectors.ensures c.mini_fat_start.ensures c.requires.units_le_at c.list_chain.ensures.holds
