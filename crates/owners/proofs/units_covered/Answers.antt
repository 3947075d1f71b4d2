use Prim.Native.Nat.{◌+◌, ◌-◌}
use mathlib.Core.Path.{◌≡◌, ◌∙◌, ap₂}
use mathlib.Core.Bool.{◌&&◌}
use native.Mathlib.Omega.{arith}
use Rattle.owners.proofs.Covered.{sectors_covered, minis_covered}
use Rattle.owners.proofs.units_covered.Goals as goal

pub returns : goal.returns
returns c =
    let z = c.requires.streams_markable in
    let r = c.requires.cells_right in
    let e = z.sectors.count in
    let k : c.args.t.sectors + c.args.m.units - c.args.t.sectors ≡ c.args.m.units = omega arith in
    ap₂ (λ x y. x && y)
    (c.all_covered.ensures ∙ sectors_covered _ _ z.sectors.sized r.tables r.sectors z.sectors.units _ e)
    (c.all_covered-2.ensures ∙ rw e (minis_covered _ _ z.minis r.minis _ (rw e at (k ∙ z.units))))
