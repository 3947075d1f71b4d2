use Prim.Native.Nat.{◌+◌, ◌≤◌, ◌<◌}
use native.Mathlib.Omega.{arith}
use lib.ListN.{length}
use Rattle.kinds.specs.Sizes.{geometry_of}
use Rattle.repair_writes.specs.Cells.{CellRoom}
use Rattle.repair.proofs.Counting.{count_start, count_few, count_yes, count_no, count_end}
use Rattle.repair.proofs.Differing.{cell_yes, cell_no}
use Rattle.repair.proofs.differences.cells_differ.Goals as goal
use Rattle.repair.proofs.differences.cells_differ.Goals.{then-u32_at, else-u32_at}
use Rattle.repair.proofs.differences.cells_differ.Goals.{After-listed_place-p, In-loop-u}

-- the cell of a turn
room : (c : In-loop-u) → let p = c.args in CellRoom (geometry_of p.g) p.work.now p.list (length p.after.now) c.loop-u.u
room c = c.requires.table_room c.loop-u.u (omega arith)

inside : (c : After-listed_place-p) → let p = c.args in CellRoom (geometry_of p.g) p.work.now p.list (length p.after.now) c.loop-u.u → c.listed_place-p.result + 4 ≤ length p.after.now
inside c r = omega (arith, c.listed_place-p.ensures, r.inside)

pub loop-u-init : goal.loop-u-init
loop-u-init c = count_start _ _

pub overflow_mul-u : goal.overflow_mul-u
overflow_mul-u c = omega (arith, (room (goal.at.overflow_mul-u c).In-loop-u).few)

pub listed_place-p-requires : goal.listed_place-p-requires
listed_place-p-requires c = record { le_bytes = (room (goal.at.listed_place-p-requires c).In-loop-u).wide; bytes_bound = (room (goal.at.listed_place-p-requires c).In-loop-u).narrow; bytes_in_bounds = (room (goal.at.listed_place-p-requires c).In-loop-u).here }

pub u32_at-requires : goal.u32_at-requires
u32_at-requires c = omega (arith, inside (goal.at.u32_at-requires c).After-listed_place-p (room (goal.at.u32_at-requires c).In-loop-u), c.requires.img_len)

pub u32_at-requires-in-loop-u : goal.u32_at-requires-in-loop-u
u32_at-requires-in-loop-u c = inside (goal.at.u32_at-requires-in-loop-u c).After-listed_place-p (room (goal.at.u32_at-requires-in-loop-u c).In-loop-u)

pub overflow_add-count : goal.overflow_add-count
overflow_add-count c = omega (arith, count_few c.loop-u.invariant)

pub loop-u-preserved : goal.loop-u-preserved
loop-u-preserved c =
    let h : c.loop-u.u < c.args.n = omega arith in
    let p = c.listed_place-p.ensures in
    let x = c.u32_at.ensures in
    let y = c.u32_at-in-loop-u.ensures in
    elim c.if-u32_at.branch [
      | then-u32_at w ↦ rw w.count-is (count_yes c.loop-u.invariant h (cell_yes _ _ _ _ p x y w.if-u32_at.true))
      | else-u32_at w ↦ rw w.count-is (count_no c.loop-u.invariant h (cell_no _ _ _ _ p x y w.if-u32_at.false))
    ]

pub returns : goal.returns
returns c = count_end c.loop-u.invariant (omega arith)
