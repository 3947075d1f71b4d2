use borrow.Author.Rules.{rules}
use mathlib.Core.Path.{◌≡◌, sym, ◌∙◌}
use native.Mathlib.Omega.{arith}
use borrow.Author.Tests.{eq-eqb, eqb-true}
use Rattle.format.specs.Layout.Chain.{FREE}
use Rattle.theory.proofs.Tests.{clash}
use Rattle.spaces.specs.Spaces.{space_at}
use Rattle.spaces.specs.Units.{kind_of, number_in}
use Rattle.spaces.proofs.Units.{unit_as, cell_as}
use Rattle.spaces.proofs.Listed.{count_same}
use Rattle.unitlists.proofs.Limits.{limit_end}
use Rattle.unitlists.proofs.Searching.{searching_start, searching_step, searching_found, searching_none}
use Rattle.unitlists.proofs.next_free.Goals as goal
use Rattle.unitlists.proofs.next_free.Goals.{After-unit_count-count, After-at-u, After-cell_of-cell}

-- how many units there are
limit_is : (c : After-unit_count-count) → let a = c.args in c.unit_count-count.result ≡ (space_at a.v a.img.now a.kind).limit
limit_is c = c.unit_count-count.ensures ∙ count_same c.requires.readied c.args.kind

-- the unit at hand, and its cell
unit_is : (c : After-at-u) → (kind_of c.at-u.result ≡ c.args.kind) × (number_in c.at-u.result ≡ c.loop-place.place)
unit_is c = unit_as c.args.kind c.loop-place.place c.at-u.ensures

cell_is : (c : After-cell_of-cell) → let a = c.args in number_in c.cell_of-cell.result ≡ (space_at a.v a.img.now a.kind).cell c.loop-place.place
cell_is c =
    let a = c.args in
    let u = unit_as a.kind c.loop-place.place c.at-u.ensures in
    (cell_as a.v a.img.now c.at-u.result _ _ u.0 u.1 c.cell_of-cell.ensures).1

pub loop-place-init : goal.loop-place-init
loop-place-init c = searching_start c.requires.from_bound

pub at-u-requires : goal.at-u-requires
at-u-requires c = omega (arith, limit_is (goal.at.at-u-requires c).After-unit_count-count, limit_end c.requires.readied c.args.kind)

pub cell_of-cell-requires : goal.cell_of-cell-requires
cell_of-cell-requires c =
    let u = unit_is (goal.at.cell_of-cell-requires c).After-at-u in
    record { readied = c.requires.readied; u_bound = rw (u.0, u.1) (omega (arith, limit_is (goal.at.cell_of-cell-requires c).After-unit_count-count)) }

pub returns-then-is_free : goal.returns-then-is_free
returns-then-is_free c =
    searching_found c.loop-place.invariant c.args.kind c.at-u.result c.at-u.ensures (omega (arith, limit_is (goal.at.returns-then-is_free c).After-unit_count-count)) (sym (cell_is (goal.at.returns-then-is_free c).After-cell_of-cell) ∙ eqb-true _ FREE (sym c.is_free.ensures ∙ c.if-is_free.true))

pub loop-place-preserved : goal.loop-place-preserved
loop-place-preserved c =
    searching_step c.loop-place.invariant (omega (arith, limit_is (goal.at.loop-place-preserved c).After-unit_count-count)) (λ e. clash (c.is_free.ensures ∙ eq-eqb _ FREE (cell_is (goal.at.loop-place-preserved c).After-cell_of-cell ∙ e)) c.if-is_free.false)

pub overflow_add-looked : goal.overflow_add-looked
overflow_add-looked c = omega (arith, c.loop-place.invariant.count)

pub returns : goal.returns
returns c = searching_none c.loop-place.invariant c.args.kind (omega (arith, limit_is (goal.at.returns c).After-unit_count-count))
