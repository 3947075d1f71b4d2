use Rattle.tables.specs.Words.{table_cell}
use Rattle.tables.proofs.Places.{cell_index}
use Rattle.tables.proofs.table_word.Goals as goal

pub word_in-requires : goal.word_in-requires
unfolding table_cell
word_in-requires c = record { image_sized = c.requires.image_sized; s_bound = rw c.cell_sector.ensures c.requires.i_bound; i_bound = rw c.cell_index.ensures (cell_index c.requires.image_sized c.args.i) }

pub returns : goal.returns
unfolding table_cell
returns c = rw (← c.cell_sector.ensures, ← c.cell_index.ensures) c.word_in.ensures
