use mathlib.Core.Path.{◌∙◌}
use Rattle.tables.proofs.Blocks.{fat_listed, fat_cell_lem}
use Rattle.tables.proofs.cell_at.Goals as goal

pub returns : goal.returns
returns c = c.table_word.ensures ∙ rw c.index.ensures (fat_cell_lem c.requires.fat_listed _ c.requires.s_bound)
