use mathlib.Core.Path.{refl, sym}
use mathlib.Core.Logic.{◌≢◌}
use Rattle.format.specs.Layout.Entry.{NOSTREAM}
use Rattle.theory.specs.TreeViews.{at, Standing}
use Rattle.theory.proofs.Trees.Find.{searchable_stands, seek_none, seek_hit, seek_left, seek_right}
use Rattle.theory.proofs.Trees.Names.{names_ordered}
use Rattle.theory.proofs.Trees.Spines.{left_shorter, right_shorter}
use Rattle.entries.proofs.Orderings.{told}
use Rattle.directory.specs.Listed.{entries_of}
use Rattle.directory.proofs.Fields.{none_yes, none_no}
use Rattle.lookup.proofs.find_child.Goals as goal
use Rattle.lookup.proofs.find_child.Goals.{In-loop-d}

-- the entry of a turn
real : (c : In-loop-d) → c.loop-d.x.0 ≢ NOSTREAM
real c = none_no c.is_none.ensures c.loop-d-test.true refl

stands : (c : In-loop-d) → let p = c.args in
    Standing (entries_of p.d p.img.now) c.loop-d.x.0
stands c = searchable_stands _ _ (real c) c.loop-d.invariant.here

pub returns : goal.returns
returns c = sym (seek_none _ _ names_ordered _ _ c.loop-d.invariant (none_yes c.is_none.ensures c.loop-d-test.false refl))

pub order_to-requires : goal.order_to-requires
order_to-requires c = record { directory_listed = c.requires.directory_listed; named_in = c.requires.ruled.names _ (stands (goal.at.order_to-requires c).In-loop-d).above (stands (goal.at.order_to-requires c).In-loop-d).inside }

pub left_of-x-requires : goal.left_of-x-requires
left_of-x-requires c = record { directory_listed = c.requires.directory_listed; x_bound = (stands (goal.at.left_of-x-requires c).In-loop-d).inside }

pub loop-d-smaller-in-Less : goal.loop-d-smaller-in-Less
loop-d-smaller-in-Less c = rw c.left_of-x.ensures (left_shorter _ _ (stands (goal.at.loop-d-smaller-in-Less c).In-loop-d))

pub loop-d-preserved-in-Less : goal.loop-d-preserved-in-Less
loop-d-preserved-in-Less c =
    let l = told _ _ c.order_to.ensures c.in-Less.is in
    rw c.left_of-x.ensures (seek_left _ _ names_ordered _ _ c.loop-d.invariant (real (goal.at.loop-d-preserved-in-Less c).In-loop-d) l)

pub returns-in-Equal : goal.returns-in-Equal
returns-in-Equal c =
    let l = told _ _ c.order_to.ensures c.in-Equal.is in
    sym (seek_hit _ _ names_ordered _ _ c.loop-d.invariant (real (goal.at.returns-in-Equal c).In-loop-d) l.0)

pub right_of-x-requires : goal.right_of-x-requires
right_of-x-requires c = record { directory_listed = c.requires.directory_listed; x_bound = (stands (goal.at.right_of-x-requires c).In-loop-d).inside }

pub loop-d-smaller : goal.loop-d-smaller
loop-d-smaller c = rw c.right_of-x.ensures (right_shorter _ _ (stands (goal.at.loop-d-smaller c).In-loop-d))

pub loop-d-preserved : goal.loop-d-preserved
loop-d-preserved c =
    let l = told _ _ c.order_to.ensures c.in-Greater.is in
    rw c.right_of-x.ensures (seek_right _ _ names_ordered _ _ c.loop-d.invariant (real (goal.at.loop-d-preserved c).In-loop-d) l.0)
