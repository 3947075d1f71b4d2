use mathlib.Core.Path.{◌≡◌}
use Rattle.spaces.specs.Spaces.{space_at}
use Rattle.spaces.specs.Units.{kind_of, number_in}
use Rattle.unitlists.proofs.Listing.{Listing}
use Rattle.unitlists.proofs.list_units.Given as goal

abbrev pub invariant-loop-i : goal.invariant-loop-i
invariant-loop-i l = (kind_of l.u ≡ kind_of l.initial.u) × Listing (space_at l.v l.img (kind_of l.initial.u)).cell l.n (number_in l.initial.u) l.initial.work l.work (number_in l.u) l.i
