use borrow.Author.Rules.{rules}
use mathlib.Core.Path.{sym, ◌∙◌}
use Rattle.format.specs.Layout.Geometry.{header_difat}
use Rattle.kinds.specs.Sizes.{geometry_of}
use Rattle.header.proofs.HeaderEntries.{entry_first}
use Rattle.header.proofs.difat_in_header.Goals as goal

pub overflow_mul-i : goal.overflow_mul-i
unfolding header_difat
overflow_mul-i c = search rules

pub overflow_add-i : goal.overflow_add-i
unfolding header_difat
overflow_add-i c = search rules

pub u32_at-requires : goal.u32_at-requires
unfolding header_difat
u32_at-requires c = search rules

pub returns : goal.returns
unfolding header_difat
returns c = c.u32_at.ensures ∙ sym (entry_first (geometry_of c.args.g) c.args.img.now c.args.i c.requires.i_lt_header_difat)
