use Prim.Native.Nat.{◌≤◌, ◌<◌}
use native.Mathlib.Omega.{arith}
use borrow.Author.Tests.{ltb-true, ltb-false}
use Rattle.format.specs.Layout.Geometry.{sector_count}
use Rattle.kinds.specs.Sizes.{geometry_of}
use Rattle.tables.proofs.Places.{difat_is}
use Rattle.theory.proofs.Loops.{said_yes, said_no}
use Rattle.tables.proofs.DifatLaws.{difat_start_lem, difat_step, difat_out, difat_end}
use mathlib.Core.Path.{ap}
use mathlib.Core.Bool.{not}
use Rattle.tables.proofs.sectors.list_difats.Goals as goal
use Rattle.tables.proofs.sectors.list_difats.Goals.{Else-not-below, Then-not-below}

-- what the test of s says
inside : (c : Else-not-below) → c.loop-j.s.0 < sector_count (geometry_of c.args.g) c.args.img.now
inside c =
    omega (arith, ltb-true c.loop-j.s.0 c.args.n (said_yes (ap not c.if-not-below.false) c.below.ensures), c.requires.count)

outside : (c : Then-not-below) → sector_count (geometry_of c.args.g) c.args.img.now ≤ c.loop-j.s.0
outside c =
    omega (arith, ltb-false c.loop-j.s.0 c.args.n (said_no (ap not c.if-not-below.true) c.below.ensures), c.requires.count)

pub loop-j-init : goal.loop-j-init
loop-j-init c = difat_start_lem c.difat_start-s.ensures (omega (arith, c.requires.room))

pub returns-then-not-below : goal.returns-then-not-below
returns-then-not-below c = difat_out c.loop-j.invariant (omega (arith, c.loop-j-test.true, c.requires.many)) (outside (goal.at.returns-then-not-below c).Then-not-below)

pub word_in-requires : goal.word_in-requires
word_in-requires c = let z = c.requires.sized in record { image_sized = z; s_bound = inside (goal.at.word_in-requires c).Else-not-below; i_bound = omega (arith, c.difat-link.ensures, difat_is z) }

pub loop-j-preserved : goal.loop-j-preserved
loop-j-preserved c = difat_step c.loop-j.invariant _ (omega (arith, c.loop-j-test.true, c.requires.many)) (inside (goal.at.loop-j-preserved c).Else-not-below) c.requires.room (rw (← c.difat-link.ensures) c.word_in.ensures)

pub returns : goal.returns
returns c = rw c.is_end.ensures (difat_end c.loop-j.invariant (omega (arith, c.requires.many)))
