use mathlib.Core.Path.{◌≡◌, refl}
use mathlib.Core.Bool.{true, false, ◌&&◌, ◌||◌}
use native.Mathlib.Omega.{arith}
use Rattle.nodes.specs.Nodes.{node_red, node_reached}
use Rattle.tables.proofs.WorkLaws.{wrote_none}
use Rattle.tree_walk.proofs.Downs.{down_in, down_wrong, down_unreached, up_room, up_in, down_go}
use Rattle.tree_walk.proofs.go_down.Goals as goal
use Rattle.tree_walk.proofs.go_down.Goals.{Then-is_reached-s}

wrong : (c : Then-is_reached-s) → let a = c.node_at-node.result.a in
    (node_reached a || (c.args.s.red && node_red a)) ≡ true
wrong c = rw (← c.is_reached.ensures, ← c.is_red.ensures) c.if-is_reached-s.true

pub returns-then-is_reached-s : goal.returns-then-is_reached-s
returns-then-is_reached-s c = λ q g. record { turned = down_wrong g c.requires.at_nonzero c.node_at-node.ensures.0 (wrong (goal.at.returns-then-is_reached-s c).Then-is_reached-s); wrote = wrote_none _ 0 _ }

pub enter-requires : goal.enter-requires
enter-requires c =
    let right : let a = c.node_at-node.result.a in (node_reached a || (c.args.s.red && node_red a)) ≡ false = rw (← c.is_reached.ensures, ← c.is_red.ensures) c.if-is_reached-s.false in
    let a = c.node_at-node.ensures.0 in record { a_value = down_unreached c.requires.underway.1 c.requires.at_nonzero a right; at_in_bounds = (omega (arith, down_in c.requires.underway.1 c.requires.at_nonzero), up_in c.requires.underway.1 c.requires.at_nonzero a right c.count.ensures) }

pub overflow_add-result : goal.overflow_add-result
overflow_add-result c =
    let right : let a = c.node_at-node.result.a in (node_reached a || (c.args.s.red && node_red a)) ≡ false = rw (← c.is_reached.ensures, ← c.is_red.ensures) c.if-is_reached-s.false in
    omega (arith, up_room c.requires.underway.1 c.requires.at_nonzero c.node_at-node.ensures.0 right, c.requires.underway.1.lent.nodes.few)

pub returns : goal.returns
returns c =
    let right : let a = c.node_at-node.result.a in (node_reached a || (c.args.s.red && node_red a)) ≡ false = rw (← c.is_reached.ensures, ← c.is_red.ensures) c.if-is_reached-s.false in
    λ q g.
    down_go g c.requires.at_nonzero c.node_at-node.ensures.0 right c.count.ensures c.enter.ensures
    c.left.ensures c.is_red-2.ensures refl refl refl refl
