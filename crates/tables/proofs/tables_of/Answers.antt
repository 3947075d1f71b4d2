use borrow.Author.Rules.{rules}
use Rattle.format.specs.Rules.Length.{work_need}
use Rattle.tables.proofs.tables_of.Goals as goal

pub overflow_sub-result : goal.overflow_sub-result
unfolding work_need
overflow_sub-result c = search rules

pub returns : goal.returns
unfolding work_need
returns c = rw (c.work_need.ensures, c.sector_count.ensures, c.difat_count-d.ensures, c.fat_count-f.ensures)
