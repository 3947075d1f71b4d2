use borrow.Author.Rules.{rules}
use Rattle.format.specs.Calls.RepairSteps.{has_colour}
use Rattle.repair_writes.proofs.has_colour.Goals as goal

pub entry_type-t-requires : goal.entry_type-t-requires
unfolding has_colour
entry_type-t-requires c = search rules

pub is_storage-requires : goal.is_storage-requires
unfolding has_colour
is_storage-requires c = search rules

pub is_stream-requires : goal.is_stream-requires
unfolding has_colour
is_stream-requires c = search rules

pub is_root-requires : goal.is_root-requires
unfolding has_colour
is_root-requires c = search rules

pub returns : goal.returns
unfolding has_colour
returns c = cc
