use borrow.Author.Rules.{rules}
use Prim.Native.Nat.{◌-◌, ◌≤◌}
use mathlib.Core.Path.{◌≡◌, refl, sym, ◌∙◌, ap, ap₂}
use native.Mathlib.Omega.{arith}
use lib.ListN.{get_or}
use Rattle.minis.proofs.Sectors.{unit_below}
use Rattle.spaces.specs.Spaces.{space_at}
use Rattle.spaces.specs.Units.{kind_of, number_in, unit_of, units_from}
use Rattle.spaces.proofs.Units.{unit_of_lem, cell_as}
use Rattle.spaces.proofs.Walks.{unit_first, unit_next}
use Rattle.reading.proofs.unit_after.Goals as goal

pub loop-i-init : goal.loop-i-init
loop-i-init c =
    let a = c.args in
    (refl, sym (unit_first (space_at a.v a.img.now (kind_of a.start)).cell a.n (number_in a.start) (omega arith)))

pub cell_of-u-requires : goal.cell_of-u-requires
cell_of-u-requires c = record { readied = c.requires.readied; u_bound = rw (c.loop-i.invariant.0, c.loop-i.invariant.1) (unit_below _ _ c.args.n (number_in c.args.start) c.requires.n_value c.loop-i._i (omega arith)) }

pub loop-i-preserved : goal.loop-i-preserved
loop-i-preserved c =
    let a = c.args in
    let e = cell_as a.v a.img.now c.loop-i.u _ _ c.loop-i.invariant.0 c.loop-i.invariant.1 c.cell_of-u.ensures in
    (e.0, e.1 ∙ sym (unit_next (space_at a.v a.img.now (kind_of a.start)).cell a.n (number_in a.start) c.loop-i._i (omega arith)))

pub returns : goal.returns
returns c =
    let a = c.args in
    let e : c.loop-i._i ≡ a.k = omega arith in
    sym (unit_of_lem c.loop-i.u) ∙ ap₂ unit_of c.loop-i.invariant.0 (c.loop-i.invariant.1 ∙ ap (λ i. get_or (units_from a.v a.img.now a.start a.n) i 0) e)
