use mathlib.Core.Path.{◌∙◌}
use Rattle.minis.proofs.ListLaws.{mini_cell_lem}
use Rattle.minis.proofs.mini_cell.Goals as goal

pub returns : goal.returns
returns c = c.table_word.ensures ∙ rw c.index.ensures (mini_cell_lem c.requires.mini_listed _ c.requires.m_bound)
