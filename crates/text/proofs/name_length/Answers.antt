use Rattle.std.proofs.Common.{arith, ◌+◌, ◌<◌, length}
use Rattle.entries.specs.Entry.{name_at}
use Rattle.entries.proofs.NameLaws.{unit_inside}
use Rattle.text.proofs.Names.{Printed, unit_is, units_most, printed_start, printed_next, printed_most}
use Rattle.text.proofs.name_length.Goals as goal
use Rattle.text.proofs.name_length.Goals.{After-name_unit_length-k}

next : (c : After-name_unit_length-k) → Printed (name_at c.args.img.now c.args.p) (c.loop-i.i + 1) (c.loop-i.k + c.name_unit_length-k.result)
next c =
    let inside : c.loop-i.i < length (name_at c.args.img.now c.args.p) = omega arith in
    printed_next c.loop-i.invariant inside (unit_is _ _ inside c.name_unit.ensures) c.name_unit_length-k.ensures

pub loop-i-init : goal.loop-i-init
loop-i-init c = printed_start _

pub name_unit-requires : goal.name_unit-requires
name_unit-requires c = unit_inside c.requires _ (omega arith)

pub overflow_add-k : goal.overflow_add-k
overflow_add-k c = omega (arith, printed_most (next c), units_most c.requires)

pub loop-i-preserved : goal.loop-i-preserved
loop-i-preserved c = next (goal.at.loop-i-preserved c).After-name_unit_length-k
