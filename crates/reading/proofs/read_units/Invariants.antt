use borrow.Author.Rules.{rules}
use Prim.Native.Nat.{◌+◌, ◌-◌, ◌≤◌, ◌<◌, min}
use mathlib.Core.Path.{◌≡◌, refl, sym, ◌∙◌, ap, ap₂}
use native.Mathlib.Omega.{arith}
use lib.ListN.{length}
use Rattle.format.specs.Layout.Space.{Space, chain_for, units_for}
use Rattle.theory.proofs.RoundUp.{round_lt}
use Rattle.spaces.specs.Spaces.{space_at, unit_bytes}
use Rattle.spaces.specs.Units.{kind_of, number_in}
use Rattle.spaces.proofs.Units.{unit_as, cell_as}
use Rattle.spaces.proofs.Listed.{unit_same, unit_many, units_stand, unit_listed, unit_place_lem}
use Rattle.reading.proofs.Reading.{Reading, ReadingFrom, none_read, reading_start, reading_below, reading_inner, reading_room, reading_more, reading_step, reading_done}
use Rattle.reading.proofs.read_units.Given as goal

abbrev pub invariant-loop-i : goal.invariant-loop-i
invariant-loop-i l =
    (kind_of l.u ≡ kind_of l.initial.u) × ReadingFrom (space_at l.v l.img (kind_of l.initial.u)) l.img l.size l.offset l.initial.out (number_in l.initial.u) l.out (number_in l.u) l.o l.i

abbrev pub decreases-loop-i : goal.decreases-loop-i
decreases-loop-i l = length l.initial.out - l.i
