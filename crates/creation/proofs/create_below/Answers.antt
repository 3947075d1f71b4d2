use mathlib.Core.Path.{◌≡◌, ◌∙◌}
use borrow.Author.Rules.{part_to_end}
use Rattle.paths.proofs.Parents.{found_short}
use Rattle.creation.proofs.Places.{slot_asks}
use Rattle.creation.proofs.Found.{seat_in}
use Rattle.creation.proofs.Answers.{there_root, there_child, free_right}
use Rattle.lookup.specs.declared.Seat.TheVariants.{Free, Taken}
use Rattle.creation.proofs.create_below.Goals as goal

pub returns-then-path-eq0 : goal.returns-then-path-eq0
returns-then-path-eq0 c = let r = there_root _ _ _ _ _ _ c.requires.parent_at.found c.if-path-eq0.true in record { result_value = r.0; img_after = r.1 }

pub find_slot-requires : goal.find_slot-requires
find_slot-requires c = let r = slot_asks c.requires.fact _ c.requires.parent_at.inside in record { directory_listed = r.0; ruled = r.1.0; parent_bound = r.1.1.0; searchable = r.1.1.1 }

pub create_at-requires : goal.create_at-requires
create_at-requires c =
    let last_is = part_to_end c.args.path.now c.args.i ∙ c.requires.parent_at.last.last in
    record {
      fact = c.requires.fact;
      name_len_bound = rw last_is (found_short _ _ _ c.requires.parent_at.found c.if-path-eq0.false);
      h_bound = (seat_in c.requires.fact _ _ (Free c.in-Free.h) c.in-Free.ensures).1.1;
    }

pub returns-in-Taken : goal.returns-in-Taken
returns-in-Taken c =
    let last_is = part_to_end c.args.path.now c.args.i ∙ c.requires.parent_at.last.last in
    let s = seat_in c.requires.fact _ _ (Taken c.in-Taken.field-0 c.in-Taken.field-1) c.in-Taken.ensures in
    let r = there_child _ _ _ _ _ _ c.requires.parent_at.found c.if-path-eq0.false _ last_is _ _ s.0 in
    record { result_value = r.0; img_after = r.1 }

pub returns-in-Free : goal.returns-in-Free
returns-in-Free c =
    let last_is = part_to_end c.args.path.now c.args.i ∙ c.requires.parent_at.last.last in
    let s = seat_in c.requires.fact _ _ (Free c.in-Free.h) c.in-Free.ensures in
    let r = free_right _ _ _ _ _ _ c.requires.parent_at.found c.if-path-eq0.false _ last_is s.0 _ s.1.0 _ _ c.create_at.ensures.result_value c.create_at.ensures.img_after in
    record { result_value = r.0; img_after = r.1 }
