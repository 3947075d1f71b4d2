use Rattle.theory.proofs.Trees.Stand.{left_stands}
use Rattle.directory.proofs.Fields.{none_yes, none_no}
use Rattle.tree_edits.proofs.Unlinks.{entry_placed, by_right, by_left, by_heir}
use Rattle.tree_edits.proofs.unlink.Goals as goal

pub put_slot-requires : goal.put_slot-requires
put_slot-requires c = entry_placed c.requires.directory_listed _ c.requires.owner_bound

pub returns-then-is_none : goal.returns-then-is_none
returns-then-is_none c =
    by_right c.requires.directory_listed _ _ c.requires.owner_bound c.right_of-right.ensures
    (none_yes c.is_none.ensures c.if-is_none.true c.left_of-left.ensures) c.put_slot.ensures

pub put_slot-requires-then-is_none-2 : goal.put_slot-requires-then-is_none-2
put_slot-requires-then-is_none-2 c = entry_placed c.requires.directory_listed _ c.requires.owner_bound

pub returns-then-is_none-2 : goal.returns-then-is_none-2
returns-then-is_none-2 c =
    by_left c.requires.directory_listed _ _ c.requires.owner_bound c.left_of-left.ensures
    (none_no c.is_none.ensures c.if-is_none.false c.left_of-left.ensures)
    (none_yes c.is_none-2.ensures c.if-is_none-2.true c.right_of-right.ensures) c.put_slot-then-is_none-2.ensures

pub find_heir-h-requires : goal.find_heir-h-requires
find_heir-h-requires c = record { directory_listed = c.requires.directory_listed; x_bound = c.requires.standing.inside; standing = rw c.left_of-left.ensures (left_stands _ _ c.requires.standing (none_no c.is_none.ensures c.if-is_none.false c.left_of-left.ensures)) }

pub put_heir-requires : goal.put_heir-requires
put_heir-requires c = let h = c.find_heir-h.ensures in record { entry_placed = entry_placed c.requires.directory_listed _ c.requires.owner_bound; entry_placed_2 = entry_placed c.requires.directory_listed _ h.stands.inside; entry_placed_3 = entry_placed c.requires.directory_listed _ h.inside }

pub returns : goal.returns
returns c =
    by_heir c.requires.directory_listed _ _ c.requires.owner_bound c.find_heir-h.ensures c.left_of-left.ensures c.right_of-right.ensures c.left_of.ensures
    (none_no c.is_none.ensures c.if-is_none.false c.left_of-left.ensures)
    (none_no c.is_none-2.ensures c.if-is_none-2.false c.right_of-right.ensures) c.put_heir.ensures
