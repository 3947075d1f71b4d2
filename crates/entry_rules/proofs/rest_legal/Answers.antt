use Prim.Native.Nat.{◌<◌}
use mathlib.Core.Path.{◌≡◌, sym, ◌∙◌, ap}
use native.Mathlib.Omega.{arith}
use Rattle.format.specs.Layout.Name.{legal_unit}
use Rattle.entries.specs.Entry.{entry_at}
use Rattle.entry_rules.specs.Names.{unit_legal}
use Rattle.entry_rules.proofs.Units.{rest_stop}
use Rattle.entry_rules.proofs.rest_legal.Goals as goal

pub returns-then-not-legal_unit : goal.returns-then-not-legal_unit
returns-then-not-legal_unit c =
    let told : let a = c.args in unit_legal (entry_at a.img.now a.p) c.loop-i.i ≡ c.legal_unit.result = ap legal_unit (sym c.name_unit.ensures) ∙ sym c.legal_unit.ensures in
    let below : c.loop-i.i < c.args.n = omega arith in
    rest_stop _ _ _ _ below (told ∙ c.if-not-legal_unit.true)
