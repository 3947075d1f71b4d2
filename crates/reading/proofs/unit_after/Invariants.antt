use mathlib.Core.Path.{◌≡◌}
use lib.ListN.{get_or}
use Rattle.spaces.specs.Units.{kind_of, number_in, units_from}
use Rattle.reading.proofs.unit_after.Given as goal

abbrev pub invariant-loop-i : goal.invariant-loop-i
invariant-loop-i l = (kind_of l.u ≡ kind_of l.initial.u) × (number_in l.u ≡ get_or (units_from l.v l.img l.initial.u l.n) l._i 0)
