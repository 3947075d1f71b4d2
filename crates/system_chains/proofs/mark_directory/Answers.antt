use Rattle.system_chains.proofs.SystemLaws.{in_work, directory_marked}
use Rattle.system_chains.proofs.mark_directory.Goals as goal

pub mark_chain-requires : goal.mark_chain-requires
mark_chain-requires c = in_work c.requires.sectors_markable

pub returns : goal.returns
returns c = directory_marked c.requires.sectors_markable _ _ c.mark_chain.ensures c.requires.img_value c.requires.n_value c.directory_start.ensures
