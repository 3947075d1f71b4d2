use Prim.Native.Nat.{◌+◌, ◌-◌, ◌*◌, ◌<◌}
use mathlib.Core.Path.{refl, sym, ap, ◌∙◌}
use native.Mathlib.Omega.{arith}
use lib.ListN.{length}
use Rattle.tables.proofs.WorkLaws.{wrote_none}
use Rattle.tree_walk.specs.Walking.{wait_tops, wait_work}
use Rattle.tree_walk.proofs.Lends.{rows_are, room, height, met_most}
use Rattle.tree_walk.proofs.Visits.{visit_in, visit_falls, wait_in, visit_go}
use Rattle.tree_walk.proofs.visit.Goals as goal
use Rattle.tree_walk.proofs.visit.Goals.{After-struct_known-1}

-- the place of the nearest above
up_in : (c : After-struct_known-1) → 2 * c.count-n.result + 2 + (c.args.s.ups - 1) < length c.args.work.now
up_in c = let g = c.requires.underway.1 in omega (arith, c.count-n.ensures, rows_are g.lent, room g.lent, height g, met_most g, c.requires.at_value.1)

pub overflow_add-up-2 : goal.overflow_add-up-2
overflow_add-up-2 c = omega (arith, up_in (goal.at.overflow_add-up-2 c).After-struct_known-1)

pub offset_bounds-work-up : goal.offset_bounds-work-up
offset_bounds-work-up c = omega (arith, up_in (goal.at.offset_bounds-work-up c).After-struct_known-1)

pub bounds-work-up : goal.bounds-work-up
bounds-work-up c = up_in (goal.at.bounds-work-up c).After-struct_known-1

pub node_at-node-requires : goal.node_at-node-requires
node_at-node-requires c = visit_in c.requires.underway.1 c.requires.at_value.0 c.requires.at_value.1 c.count-n.ensures refl

pub returns-then-falls : goal.returns-then-falls
returns-then-falls c =
    λ q g. record {
      turned = visit_falls g c.requires.at_value.0 c.requires.at_value.1 c.count-n.ensures refl c.node_at-node.ensures.0 c.node_at-node.ensures.1 c.units.ensures (sym c.falls.ensures ∙ c.if-falls.true);
      wrote = wrote_none _ 0 _;
    }

pub wait-tops-requires : goal.wait-tops-requires
wait-tops-requires c = wait_in c.requires.underway.1 c.requires.at_value.0 c.requires.at_value.1 c.count-n.ensures refl c.node_at-node.ensures.0 c.node_at-node.ensures.1

pub returns : goal.returns
returns c =
    λ q g.
    visit_go g c.requires.at_value.0 c.requires.at_value.1 c.count-n.ensures refl c.node_at-node.ensures.0 c.node_at-node.ensures.1 c.units.ensures (sym c.falls.ensures ∙ c.if-falls.false) _
    c.right.ensures c.is_red.ensures refl (c.due_of-due.ensures ∙ rw (c.units-2.ensures, c.units.ensures)) refl
    (c.wait-tops.ensures.1 ∙ ap (wait_work _ _ _) c.child.ensures) (c.wait-tops.ensures.0 ∙ ap (wait_tops _) c.child.ensures)
