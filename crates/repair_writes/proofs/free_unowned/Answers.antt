use mathlib.Core.Path.{◌∙◌}
use Prim.Native.Nat.{◌<◌}
use native.Mathlib.Omega.{arith}
use Rattle.kinds.specs.Sizes.{geometry_of}
use Rattle.repair_writes.proofs.Releasing.{pick_start, pick_freed, pick_left, pick_end}
use Rattle.repair_writes.proofs.free_unowned.Goals as goal
use Rattle.repair_writes.proofs.free_unowned.Goals.{then-may_free, else-may_free}

pub loop-u-init : goal.loop-u-init
loop-u-init c = pick_start (geometry_of c.args.g) c.args.work.now c.args.list c.args.at c.args.n c.args.img.now

pub may_free-requires : goal.may_free-requires
may_free-requires c = let h : c.loop-u.u < c.args.n = omega arith in record { cell_room = rw c.loop-u.invariant.long (c.requires.table_room c.loop-u.u h); u_in_bounds = omega (arith, c.requires.n_in_bounds) }

pub free_cell-requires : goal.free_cell-requires
free_cell-requires c = rw c.loop-u.invariant.long (c.requires.table_room c.loop-u.u (omega arith))

pub loop-u-preserved : goal.loop-u-preserved
loop-u-preserved c =
    let h : c.loop-u.u < c.args.n = omega arith in
    elim c.if-may_free.branch [
      | then-may_free w ↦ pick_freed _ _ _ _ _ _ c.loop-u.invariant h c.may_free.ensures w.if-may_free.true c.requires.cells_apart _ (w.img-is ∙ w.free_cell.ensures)
      | else-may_free w ↦ rw w.img-is (pick_left _ _ _ _ _ _ c.loop-u.invariant h c.may_free.ensures w.if-may_free.false)
    ]

pub returns : goal.returns
returns c = pick_end _ _ _ _ _ _ c.loop-u.invariant (omega arith)
