use mathlib.Core.Path.{◌∙◌}
use Rattle.repair_owners.proofs.Asking.{streams_stay, streams_freed_lem}
use Rattle.repair_owners.proofs.free_marked.Goals as goal

pub free_cells-requires : goal.free_cells-requires
free_cells-requires c = let l = c.mark_streams.ensures in record { streams_marked = l.marked c.if-mark_streams.true; img_value = c.requires.img_value }

pub returns-then-mark_streams : goal.returns-then-mark_streams
returns-then-mark_streams c = let l = c.mark_streams.ensures in record { image = c.free_cells.ensures ∙ streams_freed_lem l c.if-mark_streams.true; wrote = l.wrote }

pub returns-else-mark_streams : goal.returns-else-mark_streams
returns-else-mark_streams c = let l = c.mark_streams.ensures in record { image = streams_stay l c.if-mark_streams.false; wrote = l.wrote }
