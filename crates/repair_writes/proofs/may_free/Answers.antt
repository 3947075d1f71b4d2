use borrow.Author.Rules.{rules}
use Rattle.format.specs.Rules.Cells.{table_mark}
use Rattle.theory.specs.Marks.{unmarked}
use Rattle.chains.proofs.Walks.{unmarked_is}
use Rattle.repair_writes.specs.Cells.{may_free}
use Rattle.repair_writes.proofs.may_free.Goals as goal

pub overflow_mul-u : goal.overflow_mul-u
unfolding may_free unmarked table_mark
overflow_mul-u c = search rules

pub listed_place-requires : goal.listed_place-requires
unfolding may_free unmarked table_mark
listed_place-requires c = search rules

pub u32_at-requires : goal.u32_at-requires
unfolding may_free unmarked table_mark
u32_at-requires c = search rules

pub overflow_add-at : goal.overflow_add-at
unfolding may_free unmarked table_mark
overflow_add-at c = search rules

pub offset_bounds-work-at : goal.offset_bounds-work-at
unfolding may_free unmarked table_mark
offset_bounds-work-at c = search rules

pub bounds-work-at : goal.bounds-work-at
unfolding may_free unmarked table_mark
bounds-work-at c = search rules

pub is_mark-requires : goal.is_mark-requires
unfolding may_free unmarked table_mark
is_mark-requires c = search rules

pub is_fat-requires : goal.is_fat-requires
unfolding may_free unmarked table_mark
is_fat-requires c = search rules

pub is_difat-requires : goal.is_difat-requires
unfolding may_free unmarked table_mark
is_difat-requires c = search rules

pub returns : goal.returns
unfolding may_free unmarked table_mark
returns c = rw (unmarked_is, c.is_difat.ensures, c.is_fat.ensures, c.is_mark.ensures, c.u32_at.ensures, c.listed_place.ensures)
