use Prim.Native.Nat.{◌-◌}
use mathlib.Core.List.{[]}
use native.Mathlib.Omega.{arith}
use Rattle.directory.proofs.Places.{count_few}
use Rattle.tree_edits.proofs.Gathering.{Gathering, gather_first, gather_room, gather_left_room, gather_sides, gather_end}
use Rattle.tree_edits.proofs.list_siblings.Goals as goal
use Rattle.tree_edits.proofs.list_siblings.Goals.{After-loop-i, In-loop-i}

done : (c : After-loop-i) → Gathering c.args.d c.args.img.now c.args.top.0 c.args.work.now c.loop-i.work c.loop-i.i c.loop-i.n []
done c =
    c.loop-i.invariant c.args.top.0 c.args.work.now
    (gather_first _ _ _ _ c.requires.directory_listed c.requires.d_bound c.requires.sibling_tree c.add-n.ensures.value c.add-n.ensures.work_after)

-- the walk at a turn, and at its end
here : (c : In-loop-i) → Gathering c.args.d c.args.img.now c.args.top.0 c.args.work.now c.loop-i.work c.loop-i.i c.loop-i.n []
here c =
    c.loop-i.invariant c.args.top.0 c.args.work.now
    (gather_first _ _ _ _ c.requires.directory_listed c.requires.d_bound c.requires.sibling_tree c.add-n.ensures.value c.add-n.ensures.work_after)

pub offset_bounds-work-i : goal.offset_bounds-work-i
offset_bounds-work-i c = let g = here (goal.at.offset_bounds-work-i c).In-loop-i in let h = c.loop-i-test.true in omega (arith, count_few g.listed, g.few, h)

pub bounds-work-i : goal.bounds-work-i
bounds-work-i c = let r = gather_room _ _ _ _ (here (goal.at.bounds-work-i c).In-loop-i) in let f = (here (goal.at.bounds-work-i c).In-loop-i).upto in let h = c.loop-i-test.true in omega (arith, r, h)

pub left_of-left-requires : goal.left_of-left-requires
left_of-left-requires c = let g = here (goal.at.left_of-left-requires c).In-loop-i in record { directory_listed = g.listed; x_bound = (g.stands _ c.loop-i-test.true).inside }

pub right_of-right-requires : goal.right_of-right-requires
right_of-right-requires c = let g = here (goal.at.right_of-right-requires c).In-loop-i in record { directory_listed = g.listed; x_bound = (g.stands _ c.loop-i-test.true).inside }

pub add-n-requires-in-loop-i : goal.add-n-requires-in-loop-i
add-n-requires-in-loop-i c = gather_room _ _ _ _ (here (goal.at.add-n-requires-in-loop-i c).In-loop-i)

pub add-n-requires-in-loop-i-2 : goal.add-n-requires-in-loop-i-2
add-n-requires-in-loop-i-2 c = gather_left_room _ _ _ _ (here (goal.at.add-n-requires-in-loop-i-2 c).In-loop-i) c.loop-i-test.true c.left_of-left.ensures c.add-n-in-loop-i.ensures.value c.add-n-in-loop-i.ensures.work_after

pub overflow_add-i : goal.overflow_add-i
overflow_add-i c = omega (arith, count_few (here (goal.at.overflow_add-i c).In-loop-i).listed, (here (goal.at.overflow_add-i c).In-loop-i).few, c.loop-i-test.true)

pub loop-i-smaller : goal.loop-i-smaller
loop-i-smaller c = omega (arith, (here (goal.at.loop-i-smaller c).In-loop-i).few, c.loop-i-test.true)

pub loop-i-preserved : goal.loop-i-preserved
loop-i-preserved c =
    λ t w g.
    gather_sides _ _ _ _ (c.loop-i.invariant t w g) c.loop-i-test.true c.left_of-left.ensures c.add-n-in-loop-i.ensures.value c.add-n-in-loop-i.ensures.work_after
    c.right_of-right.ensures c.add-n-in-loop-i-2.ensures.value c.add-n-in-loop-i-2.ensures.work_after

pub returns : goal.returns
returns c = record { listed = gather_end _ _ _ _ (done (goal.at.returns c).After-loop-i) (omega arith); wrote = (done (goal.at.returns c).After-loop-i).wrote }
