use native.Mathlib.Omega.{arith}
use Rattle.tables.specs.Words.{word_in}
use Rattle.tables.proofs.Places.{cells_few, word_inside}
use Rattle.tables.proofs.word_in.Goals as goal

pub overflow_mul-i : goal.overflow_mul-i
unfolding word_in
overflow_mul-i c = omega (arith, cells_few c.requires.image_sized, c.requires.i_bound)

pub overflow_add-place : goal.overflow_add-place
unfolding word_in
overflow_add-place c = omega (arith, c.place.ensures, word_inside c.requires.image_sized c.args.s.0 c.args.i c.requires.s_bound c.requires.i_bound)

pub u32_at-requires : goal.u32_at-requires
unfolding word_in
u32_at-requires c = omega (arith, c.place.ensures, word_inside c.requires.image_sized c.args.s.0 c.args.i c.requires.s_bound c.requires.i_bound)

pub returns : goal.returns
unfolding word_in
returns c = rw (← c.place.ensures) c.u32_at.ensures
