use borrow.Author.Rules.{rules}
use mathlib.Core.Path.{◌≡◌}
use native.Mathlib.Omega.{arith}
use lib.ListN.{get_or}
use Rattle.spaces.specs.Units.{kind_of, number_in}
use Rattle.spaces.proofs.Units.{unit_as}
use Rattle.writes.proofs.Writing.{writing_start, writing_step, writing_done}
use Rattle.writes.proofs.put_cells.Goals as goal
use Rattle.writes.proofs.put_cells.Goals.{After-of-u}

-- the unit at hand
unit_is : (c : After-of-u) → let a = c.args in (kind_of c.of-u.result ≡ a.kind) × (number_in c.of-u.result ≡ get_or a.work.now c.loop-j.j 0)
unit_is c = unit_as c.args.kind _ c.of-u.ensures

pub loop-j-init : goal.loop-j-init
loop-j-init c = writing_start _ _ c.args.work.now c.args.from c.args.to c.requires.writable.room c.args.img.now c.requires.from_le_to

pub offset_bounds-work-j : goal.offset_bounds-work-j
offset_bounds-work-j c = let r = c.requires.writable.room in omega arith

pub bounds-work-j : goal.bounds-work-j
bounds-work-j c = let r = c.requires.writable.room in omega arith

pub cell_value-requires : goal.cell_value-requires
cell_value-requires c = record { to_in_bounds = c.requires.writable.room; j_lt_to = omega arith }

pub put_cell-requires : goal.put_cell-requires
put_cell-requires c =
    let u = unit_is (goal.at.put_cell-requires c).After-of-u in
    let p = c.requires.writable in
    rw (u.0, u.1) (record { cell_listed = p.cells c.loop-j.j (omega arith); u_in_bounds = omega (arith, p.cell_room c.loop-j.j (omega arith), c.loop-j.invariant.long) })

pub loop-j-preserved : goal.loop-j-preserved
loop-j-preserved c =
    let u = unit_is (goal.at.loop-j-preserved c).After-of-u in
    let e = (unit_as c.args.kind _ c.cell_value.ensures).1 in
    writing_step _ _ c.args.work.now c.args.from c.args.to c.requires.writable.room c.args.img.now c.loop-j.invariant (omega arith) c.put_cell.new.img c.put_cell.auto.img (rw (u.0, u.1, e) at c.put_cell.ensures)

pub returns : goal.returns
returns c = writing_done _ _ c.args.work.now c.args.from c.args.to c.requires.writable.room c.args.img.now c.loop-j.invariant (omega arith)
