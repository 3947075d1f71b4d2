use native.Mathlib.Omega.{arith}
use Rattle.repair_owners.proofs.Marking.{units_in_work}
use Rattle.repair_owners.proofs.Freeing.{sector_room, sectors_apart, mini_cells_room, minis_apart, freed_is}
use Rattle.repair_owners.proofs.free_cells.Goals as goal

pub free_unowned-requires : goal.free_unowned-requires
free_unowned-requires c = let h = c.requires.streams_marked in record { table_room = sector_room c.args.s h; cells_apart = sectors_apart c.args.s h; n_in_bounds = omega (arith, units_in_work c.args.s h.lists) }

pub free_unowned-requires-2 : goal.free_unowned-requires-2
free_unowned-requires-2 c = let h = c.requires.streams_marked in record { table_room = mini_cells_room c.args.s h c.free_unowned.new.img c.free_unowned.auto.img; cells_apart = minis_apart c.args.s h; n_in_bounds = units_in_work c.args.s h.lists }

pub returns : goal.returns
returns c = freed_is c.args.s c.requires.streams_marked c.requires.img_value _ _ c.free_unowned.ensures c.free_unowned-2.ensures
