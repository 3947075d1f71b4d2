use Rattle.std.proofs.Common.{refl, arith}
use Rattle.format.specs.Layout.Name.{fold}
use Rattle.theory.proofs.NameCompare.{Turn}
use Rattle.entries.specs.Entry.{name_at, entry_at}
use Rattle.entries.proofs.NameLaws.{unit_folded, comparing_alike}
use Rattle.entries.proofs.Orderings.{turn_decides, turn_alike}
use Rattle.entries.proofs.names.compare_alike.Goals as goal
use Rattle.entries.proofs.names.compare_alike.Goals.{After-compare_units}

turn : (c : After-compare_units) → Turn fold (name_at c.args.img.now c.args.p) (name_at c.args.img.now c.args.q) c.loop-i.i (fold c.name_unit.result) (fold c.name_unit-in-loop-i.result)
turn c =
    let l = c.requires.n_value in
    record {
      so_far = c.loop-i.invariant;
      inside = omega (arith, l.0);
      one = unit_folded (entry_at c.args.img.now c.args.p) _ _ _ (omega (arith, l.0)) c.name_unit.ensures refl;
      two = unit_folded (entry_at c.args.img.now c.args.q) _ _ _ (omega (arith, l.1)) c.name_unit-in-loop-i.ensures refl;
    }

pub loop-i-init : goal.loop-i-init
loop-i-init c = comparing_alike fold _ _ _ (omega (arith, c.requires.n_value.0, c.requires.n_value.1)) c.alike-i.ensures

pub returns-in_default : goal.returns-in_default
returns-in_default c = turn_decides _ _ (turn (goal.at.returns-in_default c).After-compare_units) _ c.compare_units.ensures c.in_default.not-Equal

pub loop-i-preserved : goal.loop-i-preserved
loop-i-preserved c = turn_alike _ _ (turn (goal.at.loop-i-preserved c).After-compare_units) c.compare_units.ensures c.in-Equal.is
