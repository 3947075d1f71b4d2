use mathlib.Core.Path.{◌≡◌, ◌∙◌}
use borrow.Author.Rules.{part_to_end}
use Rattle.removal.proofs.Removes.{search_asks, removable, removed_is, seat_free, seat_taken}
use Rattle.removal.proofs.remove_below.Goals as goal

pub find_slot-requires : goal.find_slot-requires
find_slot-requires c =
    let r = search_asks _ _ c.requires.accepted c.requires.directory_listed _ c.requires.parent_at.inside in
    record { directory_listed = r.0; ruled = r.1.0; parent_bound = r.1.1.0; searchable = r.1.1.1 }

pub returns-in_default : goal.returns-in_default
returns-in_default c =
    let last_is = part_to_end c.args.path.now c.args.i ∙ c.requires.parent_at.last.last in
    absurd (seat_free _ _ c.requires.leads_to _ _ c.requires.parent_at _ last_is _ c.in_default.ensures)

pub remove_entry-requires-clause-removable : goal.remove_entry-requires-clause-removable
remove_entry-requires-clause-removable c =
    let last_is = part_to_end c.args.path.now c.args.i ∙ c.requires.parent_at.last.last in
    let t = seat_taken _ _ c.requires.leads_to _ _ c.requires.parent_at _ last_is c.in-Taken.x c.in-Taken.h c.in-Taken.ensures in
    removable _ _ c.requires.accepted _ c.requires.leads_to _ c.requires.parent_at.found _ _ t.0 t.1

pub returns-clause-image : goal.returns-clause-image
returns-clause-image c =
    let last_is = part_to_end c.args.path.now c.args.i ∙ c.requires.parent_at.last.last in
    let t = seat_taken _ _ c.requires.leads_to _ _ c.requires.parent_at _ last_is c.in-Taken.x c.in-Taken.h c.in-Taken.ensures in
    removed_is c.args.d _ c.requires.accepted _ c.requires.leads_to _ c.requires.parent_at.found _ _ t.0 t.1 _ c.remove_entry.ensures.image
