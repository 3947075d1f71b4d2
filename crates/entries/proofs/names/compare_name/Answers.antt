use Rattle.std.proofs.Common.{refl, arith, get_or}
use Rattle.format.specs.Layout.Name.{fold}
use Rattle.theory.proofs.NameCompare.{Turn}
use Rattle.entries.specs.Entry.{name_at, entry_at}
use Rattle.entries.proofs.NameLaws.{unit_folded}
use Rattle.entries.proofs.Orderings.{turn_decides, turn_alike}
use Rattle.entries.proofs.names.compare_name.Goals as goal
use Rattle.entries.proofs.names.compare_name.Goals.{After-compare_units}

turn : (c : After-compare_units) → Turn fold c.args.want.now (name_at c.args.img.now c.args.q) c.loop-i.i (fold (get_or c.args.want.now c.loop-i.i 0)) (fold c.name_unit.result)
turn c =
    record {
      so_far = c.loop-i.invariant;
      inside = c.loop-i-test.true;
      one = refl;
      two = unit_folded (entry_at c.args.img.now c.args.q) _ _ _ (omega (arith, c.loop-i.invariant.long)) c.name_unit.ensures refl;
    }

pub returns-in_default-compare_units : goal.returns-in_default-compare_units
returns-in_default-compare_units c =
    turn_decides _ _ (turn (goal.at.returns-in_default-compare_units c).After-compare_units) _ c.compare_units.ensures c.in_default-compare_units.not-Equal

pub loop-i-preserved : goal.loop-i-preserved
loop-i-preserved c = turn_alike _ _ (turn (goal.at.loop-i-preserved c).After-compare_units) c.compare_units.ensures c.in-Equal-compare_units.is
