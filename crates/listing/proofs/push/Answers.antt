use Prim.Native.Nat.{◌+◌, ◌*◌, ◌<◌}
use mathlib.Core.Path.{sym, ◌∙◌}
use mathlib.Core.Logic.{◌≢◌}
use borrow.Author.Tests.{eqb-true, eqb-false}
use lib.ListN.{length, length-set}
use Rattle.format.specs.Layout.Entry.{NOSTREAM}
use Rattle.theory.specs.TreeViews.{Standing}
use Rattle.theory.proofs.Trees.Spines.{left_shorter}
use Rattle.directory.specs.Listed.{entries_of}
use Rattle.listing.proofs.Stack.{push_stands, push_inside, push_more, push_done}
use Rattle.listing.proofs.push.Goals as goal
use Rattle.listing.proofs.push.Goals.{In-loop-d}

-- the entry of a turn
real : (c : In-loop-d) → c.loop-d.y.0 ≢ NOSTREAM
real c = eqb-false _ _ (sym c.is_none.ensures ∙ c.loop-d-test.true)

stands : (c : In-loop-d) → let p = c.args in
    Standing (entries_of p.d p.img.now) c.loop-d.y.0
stands c = push_stands c.loop-d.invariant (real c)

-- the stack has room for it
room : (c : In-loop-d) → 2 * c.loop-d.k + 1 < length c.loop-d.work
room c = push_inside c.loop-d.invariant (real c)

pub bounds-work-k-in-loop-d : goal.bounds-work-k-in-loop-d
bounds-work-k-in-loop-d c = simp length-set (room (goal.at.bounds-work-k-in-loop-d c).In-loop-d)

pub left_of-y-requires : goal.left_of-y-requires
left_of-y-requires c = record { directory_listed = (push_more c.loop-d.invariant (real (goal.at.left_of-y-requires c).In-loop-d)).listed; x_bound = (stands (goal.at.left_of-y-requires c).In-loop-d).inside }

pub loop-d-smaller : goal.loop-d-smaller
loop-d-smaller c = rw c.left_of-y.ensures (left_shorter _ _ (stands (goal.at.loop-d-smaller c).In-loop-d))

pub loop-d-preserved : goal.loop-d-preserved
loop-d-preserved c = rw c.left_of-y.ensures (push_more c.loop-d.invariant (real (goal.at.loop-d-preserved c).In-loop-d))

pub returns : goal.returns
returns c = let s = c.loop-d.invariant in record { stack = push_done s (eqb-true _ _ (sym c.is_none.ensures ∙ c.loop-d-test.false)); wrote = s.wrote }
