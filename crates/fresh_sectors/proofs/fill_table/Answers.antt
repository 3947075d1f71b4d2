use Rattle.std.proofs.Common.{arith}
use Rattle.fresh_sectors.proofs.Laying.{numbers_start, numbers_step, numbers_end}
use Rattle.fresh_sectors.proofs.Standing.{cells_few, cells_bytes}
use Rattle.fresh_sectors.specs.Parts.{sizes, plan}
use Rattle.fresh_sectors.specs.Tables.{table_number}
use Rattle.fresh_sectors.proofs.fill_table.Goals as goal

pub loop-i-init : goal.loop-i-init
loop-i-init c = numbers_start _ _ _

pub overflow_mul-i : goal.overflow_mul-i
overflow_mul-i c = omega (arith, cells_few c.args.l c.requires.stands)

pub put_u32-requires : goal.put_u32-requires
put_u32-requires c = omega (arith, cells_bytes c.args.l c.requires.stands)

pub loop-i-preserved : goal.loop-i-preserved
loop-i-preserved c =
    numbers_step _ (table_number (sizes c.args.l) (plan c.args.l) c.args.s.0) c.args.part.now c.loop-i.i c.loop-i.part _ _ (omega (arith, cells_bytes c.args.l c.requires.stands))
    c.loop-i.invariant (omega arith) c.table_number.ensures c.put_u32.ensures

pub returns : goal.returns
returns c =
    numbers_end _ (table_number (sizes c.args.l) (plan c.args.l) c.args.s.0) c.args.part.now _ _ (omega (arith, cells_bytes c.args.l c.requires.stands)) c.loop-i.invariant
    (omega arith)
