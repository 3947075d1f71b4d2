use Rattle.system_chains.proofs.SystemLaws.{in_work, mini_fat_marked}
use Rattle.system_chains.proofs.mark_mini_fat.Goals as goal

pub mark_chain-requires : goal.mark_chain-requires
mark_chain-requires c = in_work c.requires

pub returns : goal.returns
returns c = mini_fat_marked c.requires _ _ c.mark_chain.ensures c.mini_fat_count.ensures c.mini_fat_start.ensures
